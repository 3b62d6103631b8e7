-- Conversions of which each changes nothing.
use Rattle.std.proofs.Common.{◌≡◌, refl, ap, ◌∙◌, subst, ℕ, true, cond, List, [], ◌∷◌, Option, Result, Ok}
use Rattle.std.proofs.lemmas.Bool.{and_parts}
use Rattle.std.proofs.lemmas.List.{append-nil}
use Rattle.mh_values.specs.declared.class.Class.{Class}
use Rattle.mh_values.specs.declared.types.Ty.{Ty}
use Rattle.mh_values.specs.declared.value.Exc.{Exc}
use Rattle.mh_values.specs.declared.value.Value.{Value}
use Rattle.mh_values.specs.Classes.{AreClasses}
use Rattle.mh_values.specs.Computation.{Gave, Threw, Stuck, and_then, after}
use Rattle.mh_values.specs.HasType.{HaveTypes}
use Rattle.mh_values.specs.Returns.{Returns}
use Rattle.mh_convert.specs.declared.conv.Rules.{Rules}
use Rattle.mh_convert.specs.Conversion.{can, is_trivial, is_trivial_ret}
use Rattle.mh_convert.proofs.Typed.{trivial-keeps}
use Rattle.mh_tree.specs.Rows.{can_all}
use Rattle.mh_tree.specs.Meaning.{Done, or_throw, then_others, conv_all, conv_result}
use Rattle.mh_tree.proofs.Returning.{returned-typed}
use Rattle.mh_tree.proofs.SoundConversions.{ConvertAll}
use Rattle.mh_tree.proofs.Trivial.{trivial-result}
use Rattle.mh_handle.specs.Recipe.{are_trivial}
use Rattle.mh_handle.specs.Converting.{conversion_between, convs_of}

pub all-kept :
    (by : Rules) (classes : List Class) → AreClasses classes → (ss ts : List Ty) (args : List Value) →
    can_all by classes ss ts ≡ true → are_trivial classes ss ts ≡ true → HaveTypes classes args ss → conv_all by classes ss ts args ≡ Ok args
all-kept by classes are [] [] [] allowed trivial have = refl
all-kept by classes are [] [] (v ∷ vs) allowed trivial have = absurd have
all-kept by classes are [] (t ∷ ts) args allowed trivial have = absurd cc
all-kept by classes are (s ∷ ss) [] args allowed trivial have = absurd cc
all-kept by classes are (s ∷ ss) (t ∷ ts) [] allowed trivial have = absurd have
all-kept by classes are (s ∷ ss) (t ∷ ts) (v ∷ vs) allowed trivial have =
    let q = and_parts (can by classes s t) (can_all by classes ss ts) allowed in
    let p = and_parts (is_trivial classes s t) (are_trivial classes ss ts) trivial in
    ap (λ r. then_others r (conv_all by classes ss ts vs)) (trivial-keeps by classes are s t v p.0 have.0)
    ∙ ap (then_others (Ok v)) (all-kept by classes are ss ts vs q.1 p.1 have.1)

-- no conversion of them changes anything
pub none-converted : (classes : List Class) (ss ts : List Ty) → are_trivial classes ss ts ≡ true → convs_of classes ss ts ≡ []
none-converted classes [] ts trivial = refl
none-converted classes (s ∷ ss) [] trivial = refl
none-converted classes (s ∷ ss) (t ∷ ts) trivial =
    let p = and_parts (is_trivial classes s t) (are_trivial classes ss ts) trivial in
    ap (λ b. cond b (convs_of classes ss ts) (conversion_between s t ∷ convs_of classes ss ts)) p.0 ∙ none-converted classes ss ts p.1

-- what runs is followed by nothing more
pub run-kept :
    (by : Rules) (classes : List Class) → AreClasses classes → (s t : Option Ty) (m : Done) (n : ℕ) →
    is_trivial_ret classes s t ≡ true → Returns classes m s → and_then m n (λ r k. conv_result by classes s t r) ≡ m
run-kept by classes are s t (Gave r calls) n trivial returns =
    ap (after calls) (trivial-result by classes are s t r trivial (returned-typed classes r calls s returns)) ∙ ap (Gave r) (append-nil calls)
run-kept by classes are s t (Threw e calls) n trivial returns = refl
run-kept by classes are s t Stuck n trivial returns = absurd returns

-- ---- what goes on with values that are known

pub or_throw-ok : (r : Result (List Value) Exc) (vs : List Value) (g : List Value → Done) → r ≡ Ok vs → or_throw r g ≡ g vs
or_throw-ok r vs g is = ap (λ q. or_throw q g) is

pub converts-ok : (classes : List Class) (r : Result (List Value) Exc) (vs : List Value) (ts : List Ty) → r ≡ Ok vs → ConvertAll classes r ts →
    HaveTypes classes vs ts
converts-ok classes r vs ts is typed = subst (λ q. ConvertAll classes q ts) is typed
