-- What runs on converted arguments.
use Rattle.std.proofs.Common.{◌≡◌, refl, Option, Some, None, ℕ, zero, suc, ◌+◌, List, [], ◌∷◌, ◌++◌, ap, ◌∙◌, zero-add, length, map, arith}
use Rattle.std.specs.Prelude.{slice_get}
use Rattle.std.proofs.lemmas.List.{append-nil}
use Rattle.mh_values.specs.Computation.{Ran, Gave, Threw, Stuck, Refines, and_then}
use Rattle.mh_convert.specs.declared.conv.Conv.{Conv as Conversion}
use Rattle.mh_convert.specs.declared.conv.Rules.{Rules}
use Rattle.mh_convert.specs.declared.conv.Rules.TheVariants as rules
use Rattle.mh_leaf.specs.LeafTable.{LeafTable}
use Rattle.mh_form.specs.declared.basic.Basic.{Basic}
use Rattle.mh_form.specs.declared.slot.Slot.{Slot}
use Rattle.mh_form.specs.Slots.{converted}
use Rattle.mh_form.specs.Run.{IsConv, Sense, sense}
use Rattle.mh_form.proofs.Computations.{and_then-assoc}
use Rattle.mh_form.proofs.Refines.{refines-refl, refines-and_then}
use Rattle.mh_edit.specs.Law.{conv_field, converting_slots}

-- what runs on the converted arguments may be replaced by what does more
pub converting-refines :
    {B : Type 0} →
    (es : List (Option Basic)) (convs : List (Slot → Ran Slot)) (xs : List Slot) (n : ℕ) (f g : List Slot → ℕ → Ran B) →
    ((ys : List Slot) (k : ℕ) → Refines (f ys k) (g ys k)) →
    Refines (converting_slots es convs xs n f) (converting_slots es convs xs n g)
converting-refines [] convs [] n f g h = h [] n
converting-refines [] convs (x ∷ xs) n f g h = tt
converting-refines (None ∷ es) convs [] n f g h = tt
converting-refines (None ∷ es) convs (x ∷ xs) n f g h = converting-refines es convs xs n _ _ (λ ys k. h (x ∷ ys) k)
converting-refines (Some b ∷ es) [] xs n f g h = tt
converting-refines (Some b ∷ es) (c ∷ convs) [] n f g h = tt
converting-refines (Some b ∷ es) (c ∷ convs) (x ∷ xs) n f g h =
    refines-and_then (c x) (c x) n _ _ (refines-refl (c x)) (λ y k. converting-refines es convs xs k _ _ (λ ys m. h (y ∷ ys) m))

-- what follows follows what runs on the converted arguments
pub converting-then :
    {A B : Type 0} →
    (es : List (Option Basic)) (convs : List (Slot → Ran Slot)) (xs : List Slot) (n : ℕ) (f : List Slot → ℕ → Ran A) (g : A → ℕ → Ran B) →
    and_then (converting_slots es convs xs n f) n g ≡ converting_slots es convs xs n (λ ys k. and_then (f ys k) k g)
converting-then [] convs [] n f g = refl
converting-then [] convs (x ∷ xs) n f g = refl
converting-then (None ∷ es) convs [] n f g = refl
converting-then (None ∷ es) convs (x ∷ xs) n f g = converting-then es convs xs n (λ ys k. f (x ∷ ys) k) g
converting-then (Some b ∷ es) [] xs n f g = refl
converting-then (Some b ∷ es) (c ∷ convs) [] n f g = refl
converting-then (Some b ∷ es) (c ∷ convs) (x ∷ xs) n f g =
    and_then-assoc (c x) n (λ y k. converting_slots es convs xs k (λ ys m. f (y ∷ ys) m)) g
    ∙ ap (and_then (c x) n) (λ i y k. converting-then es convs xs k (λ ys m. f (y ∷ ys) m) g i)

pub and_then-unit : {A : Type 0} → (r : Ran A) (n : ℕ) → and_then r n (λ a k. Gave a []) ≡ r
and_then-unit (Gave a calls) n = ap (Gave a) (append-nil calls)
and_then-unit (Threw e calls) n = refl
and_then-unit Stuck n = refl

pub slice_get-later : {A : Type 0} → (xs ys : List A) (j : ℕ) → slice_get (xs ++ ys) (length xs + j) ≡ slice_get ys j
slice_get-later [] ys j = ap (slice_get ys) (zero-add j)
slice_get-later (x ∷ xs) ys j =
    let e : suc (length xs) + j ≡ suc (length xs + j) = omega arith in ap (slice_get (x ∷ (xs ++ ys))) e ∙ slice_get-later xs ys j

-- what the field of a conversion by the rules stands for
pub sense-conv_field : (by : Rules) (leaves : LeafTable) (c : Conversion) → sense leaves (conv_field by c) ≡ IsConv (converted by leaves.classes c)
sense-conv_field rules.AsType leaves c = refl
sense-conv_field rules.Explicit leaves c = refl

-- the fields of conversions, before others
pub conv-at :
    (by : Rules) (leaves : LeafTable) (convs : List Conversion) (more : List Sense) (j : ℕ) (g : Slot → Ran Slot) →
    slice_get (map (converted by leaves.classes) convs) j ≡ Some g →
    slice_get (map (sense leaves) (map (conv_field by) convs) ++ more) j ≡ Some (IsConv g)
conv-at by leaves [] more j g h = absurd cc
conv-at by leaves (c ∷ convs) more zero g h =
    let e : converted by leaves.classes c ≡ g = cc in ap Some (sense-conv_field by leaves c) ∙ ap (λ v. Some (IsConv v)) e
conv-at by leaves (c ∷ convs) more (suc j) g h = conv-at by leaves convs more j g h
