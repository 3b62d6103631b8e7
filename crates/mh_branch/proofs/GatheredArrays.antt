-- Arrays that are made of erased items, and what runs on them.
use Rattle.std.proofs.Common.{◌≡◌, refl, ap, ◌∙◌, ℕ, true, List, [], ◌∷◌, length, map, replicate, Option, Result, Ok, Err}
use Rattle.std.proofs.lemmas.List.{length-map}
use Rattle.mh_values.specs.declared.class.Class.{Class}
use Rattle.mh_values.specs.declared.types.Comp.{Comp}
use Rattle.mh_values.specs.declared.types.Ty.{Ty}
use Rattle.mh_values.specs.declared.value.Exc.{Exc}
use Rattle.mh_values.specs.declared.value.Value.{Value}
use Rattle.mh_values.specs.Array.{array_of, item_type}
use Rattle.mh_values.specs.Computation.{Ran, and_then, found}
use Rattle.mh_values.specs.HasType.{has_type, HaveTypes}
use Rattle.mh_tree.specs.Meaning.{Done, or_throw}
use Rattle.mh_tree.proofs.SoundConversions.{Converts}
use Rattle.mh_form.specs.declared.slot.Slot.{Slot}
use Rattle.mh_form.specs.Erasure.{all_typed, erased, erased_ran}
use Rattle.mh_form.specs.Slots.{made_array, slot_or_throw}
use Rattle.mh_form.proofs.Computations.{and_then-pure}
use Rattle.mh_form.proofs.ErasureLaws.{erased-all_typed}

map-same : {A B : Type 0} (b : B) (xs : List A) → map (λ x. b) xs ≡ replicate (length xs) b
map-same b [] = refl
map-same b (x ∷ xs) = ap (λ ys. b ∷ ys) (map-same b xs)

-- the array of values of its items' type, erased
pub array-erased : (classes : List Class) (c : Comp) (count : ℕ) (vs : List Value) → length vs ≡ count → HaveTypes classes vs (replicate count (item_type c)) →
    made_array classes c (map erased vs) ≡ slot_or_throw (array_of c vs)
array-erased classes c count vs long have =
    let types : map (λ (s : Slot). item_type c) (map erased vs) ≡ replicate count (item_type c) =
    map-same (item_type c) (map erased vs) ∙ ap (λ n. replicate n (item_type c)) (length-map vs erased ∙ long) in
    ap (λ ts. found (all_typed classes ts (map erased vs)) (λ ws. slot_or_throw (array_of c ws))) types
    ∙ ap (λ o. found o (λ ws. slot_or_throw (array_of c ws))) (erased-all_typed classes (replicate count (item_type c)) vs have)

-- what runs on an array that was made
pub array-then :
    (classes : List Class) (r : Result Value Exc) (t : Ty) (n : ℕ) (run : Slot → ℕ → Ran (Option Slot)) (next : Value → Done) →
    Converts classes r t →
    ((v : Value) → has_type classes v t ≡ true → run (erased v) n ≡ erased_ran (next v)) →
    and_then (slot_or_throw r) n run ≡ erased_ran (or_throw r next)
array-then classes (Ok v) t n run next typed same = and_then-pure (erased v) n run ∙ same v typed
array-then classes (Err e) t n run next typed same = refl
