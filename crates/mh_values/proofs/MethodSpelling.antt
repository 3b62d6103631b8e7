-- The text of a method type is a method descriptor, byte by byte.
use Rattle.std.proofs.Common.{◌≡◌, refl, sym, subst, ap, ◌∙◌, ℕ, ◌+◌, ◌≤◌, Bool, true, List, [], ◌∷◌, ◌++◌, length, Option, None, Some, length-append, arith, append_assoc}
use Rattle.std.proofs.lemmas.Bool.{and_parts}
use Rattle.std.specs.List.{list_all, flat_map}
use Rattle.std.specs.Prelude.{nat_le}
use Rattle.std.proofs.lemmas.Bool.Decides.{nat_tests}
use Rattle.std.proofs.lemmas.List.Sums.{sum_by-cons}
use Rattle.std.proofs.lemmas.List.{append-nil}
use Rattle.mh_values.specs.declared.descriptor.Standing.TheVariants as standing
use Rattle.mh_values.specs.Grammar.{first_bad, descriptor_fault}
use Rattle.mh_values.specs.declared.class.Class.{Class}
use Rattle.mh_values.specs.declared.types.Ty.{Ty}
use Rattle.mh_values.specs.declared.types.Ty.TheVariants as ty
use Rattle.mh_values.specs.Classes.{name_of}
use Rattle.mh_values.specs.declared.descriptor.Place.TheVariants as place
use Rattle.mh_values.specs.Slots.{slots_of, slots_of_all}
use Rattle.mh_values.specs.declared.types.MethodTy.{MethodTy}
use Rattle.mh_values.specs.TypeText.{type_text, return_text, method_type_text}
use Rattle.mh_values.proofs.PrimitiveLaws.{letter-apart, letter-slots}
use Rattle.mh_values.proofs.TypeSpelling.{is_type_named, begun_bad, class-joined, type-read}

-- where the first byte of a type leads after parameters that take so many slots
param-begun : (classes : List Class) (at s : ℕ) (t : Ty) (rest : List ℕ) → nat_le (s + slots_of t) 255 ≡ true →
    first_bad at (standing.Parameters s) (type_text classes t ++ rest) ≡ begun_bad at (place.Parameter (s + slots_of t)) (type_text classes t ++ rest)
param-begun classes at s (ty.Prim p) rest few = rw (letter-apart p 41 refl, letter-slots p, few) refl
param-begun classes at s (ty.Class c) rest few =
    let P : List ℕ → Type 0 = λ text. first_bad at (standing.Parameters s) text ≡ begun_bad at (place.Parameter (s + 1)) text in
    subst P (sym (class-joined (name_of classes c) rest)) (rw few refl)
param-begun classes at s (ty.Array c) rest few = rw few refl

within_slots : (n : ℕ) → n ≤ 255 → nat_le n 255 ≡ true
within_slots n h = grind (arith, nat_tests)

-- after all parameters
params-read : (classes : List Class) (at s : ℕ) (ts : List Ty) (rest : List ℕ) → list_all (is_type_named classes) ts ≡ true → s + slots_of_all ts ≤ 255 →
    first_bad at (standing.Parameters s) (flat_map (type_text classes) ts ++ rest) ≡ first_bad (at + length (flat_map (type_text classes) ts))
    (standing.Parameters (s + slots_of_all ts)) rest
params-read classes at s [] rest good few =
    ap (λ n. first_bad n (standing.Parameters s) rest) (omega arith) ∙ ap (λ n. first_bad (at + 0) (standing.Parameters n) rest) (omega arith)
params-read classes at s (t ∷ ts) rest good few =
    let parts = and_parts (is_type_named classes t) (list_all (is_type_named classes) ts) good in
    let all : slots_of_all (t ∷ ts) ≡ slots_of t + slots_of_all ts = sum_by-cons slots_of t ts in
    let first = type_text classes t in
    let more = flat_map (type_text classes) ts in
    let here : nat_le (s + slots_of t) 255 ≡ true = within_slots (s + slots_of t) (omega (arith, few, all)) in
    let later : s + slots_of t + slots_of_all ts ≤ 255 = omega (arith, few, all) in
    let end : at + length first + length more ≡ at + length (first ++ more) = omega (arith, length-append first more) in
    let taken : s + slots_of t + slots_of_all ts ≡ s + slots_of_all (t ∷ ts) = omega (arith, all) in
    ap (first_bad at (standing.Parameters s)) (append_assoc first more rest)
    ∙ param-begun classes at s t (more ++ rest) here
    ∙ type-read classes at (place.Parameter (s + slots_of t)) t (more ++ rest) parts.0
    ∙ params-read classes (at + length first) (s + slots_of t) ts rest parts.1 later
    ∙ ap (λ n. first_bad n (standing.Parameters (s + slots_of t + slots_of_all ts)) rest) end
    ∙ ap (λ n. first_bad (at + length (first ++ more)) (standing.Parameters n) rest) taken

-- a return type that may be void, whose class has a name that may stand in a descriptor
abbrev pub is_return_named : List Class → Option Ty → Bool
is_return_named classes None = true
is_return_named classes (Some t) = is_type_named classes t

-- where the first byte of a type leads after the parameters
close-begun : (classes : List Class) (at : ℕ) (t : Ty) (rest : List ℕ) → first_bad at standing.Close (type_text classes t ++ rest) ≡ begun_bad at place.Last
    (type_text classes t ++ rest)
close-begun classes at (ty.Prim p) rest = rw (letter-apart p 86 refl) refl
close-begun classes at (ty.Class c) rest =
    let P : List ℕ → Type 0 = λ text. first_bad at standing.Close text ≡ begun_bad at place.Last text in
    subst P (sym (class-joined (name_of classes c) rest)) refl
close-begun classes at (ty.Array c) rest = refl

return-read : (classes : List Class) (at : ℕ) (ret : Option Ty) → is_return_named classes ret ≡ true →
    first_bad at standing.Close (return_text classes ret) ≡ None
return-read classes at None good = refl
return-read classes at (Some t) good =
    ap (first_bad at standing.Close) (sym (append-nil (type_text classes t)))
    ∙ close-begun classes at t []
    ∙ type-read classes at place.Last t [] good

-- a method type whose classes have names that may stand in a descriptor
pub record IsWritableType (classes : List Class) (t : MethodTy) : Type 0 where
  pub params : list_all (is_type_named classes) t.params ≡ true
  pub ret : is_return_named classes t.ret ≡ true
  pub few : slots_of_all t.params ≤ 255

-- the text of a method type is a method descriptor
pub method-read : (classes : List Class) (t : MethodTy) → IsWritableType classes t → descriptor_fault (method_type_text classes t) ≡ None
method-read classes t h =
    let params = flat_map (type_text classes) t.params in
    ap (first_bad 1 (standing.Parameters 0)) (append_assoc params (41 ∷ []) (return_text classes t.ret))
    ∙ params-read classes 1 0 t.params (41 ∷ return_text classes t.ret) h.params (omega (arith, h.few))
    ∙ return-read classes (1 + length params + 1) t.ret h.ret
