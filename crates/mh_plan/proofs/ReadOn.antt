-- Arguments read one by one.
use Rattle.std.proofs.Common.{◌≡◌, refl, ap, suc, ℕ, List, [], ◌∷◌, ◌++◌, map, length, Bor, Option, None, Some, option_map, option_and_then}
use Rattle.mh_values.specs.declared.class.Class.{Class}
use Rattle.mh_values.specs.declared.types.Ty.{Ty}
use Rattle.mh_values.specs.declared.value.Value.{Value}
use Rattle.mh_plan.specs.Plan.{argument_of, arguments_of}

-- values, and those that are left after them
abbrev pub read_on : List Value → Option (List Value) → Option (List Value)
read_on front rest = option_map (λ vs. front ++ vs) rest

none_left : (o : Option Value) (rest : Option (List Value)) → rest ≡ None → option_and_then (λ v. option_map (λ vs. v ∷ vs) rest) o ≡ None
none_left None rest none = refl
none_left (Some v) rest none = ap (option_map (λ vs. v ∷ vs)) none

-- arguments in another number than the types
pub arguments_of-other : (classes : List Class) (tokens : List (Bor (List ℕ))) (types : List Ty) → (length tokens ≡ length types → ⊥) →
    arguments_of classes (map (λ t. t.now) tokens) types ≡ None
arguments_of-other classes [] [] other = absurd (other refl)
arguments_of-other classes [] (t ∷ types) other = refl
arguments_of-other classes (token ∷ tokens) [] other = refl
arguments_of-other classes (token ∷ tokens) (t ∷ types) other =
    none_left (argument_of classes token.now t) (arguments_of classes (map (λ x. x.now) tokens) types) (arguments_of-other classes tokens types
    (λ e. other (ap suc e)))
