-- The printed items of an array read back.
use Rattle.std.proofs.Common.{◌≡◌, refl, sym, ap, ◌∙◌, zero, suc, codes, ℕ, ◌<◌, ◌==◌, true, false, if◌then◌else◌, List, [], ◌∷◌, ◌++◌, length, map, flat_map, None, Some, option_map, option_and_then, length-append, lit<, arith}
use Rattle.std.proofs.lemmas.Bool.{and_parts}
use Rattle.std.proofs.lemmas.List.{append-nil}
use Rattle.std.proofs.lemmas.List.Concat.{flat_map-cons}
use Rattle.std.proofs.lemmas.List.Splits.{slice_split_none, slice_split_at}
use Rattle.std.specs.List.{All, slice_split}
use Rattle.mh_values.specs.declared.class.Class.{Class}
use Rattle.mh_values.specs.declared.types.Comp.{Comp}
use Rattle.mh_values.specs.declared.types.Comp.TheVariants as comp
use Rattle.mh_values.specs.declared.value.Cell.{Cell}
use Rattle.mh_values.specs.declared.value.Cell.TheVariants as cell
use Rattle.mh_values.specs.Classes.{AreClasses}
use Rattle.mh_values.specs.HasType.{is_item_of, are_items_of}
use Rattle.mh_texts.specs.Literal.{if_item, items_of, listed, item_of}
use Rattle.mh_texts.specs.Printed.{item_text, items_text}
use Rattle.mh_texts.specs.Writable.{AreWritable, bare_item}
use Rattle.mh_texts.proofs.ItemTrip.{item_trip, no_comma_in_item}
use Rattle.mh_base.proofs.Cuts.{Lacks}

pub all_lack : (xs : List ℕ) → Lacks 44 xs → All (λ b. (b == 44) ≡ false) xs
all_lack [] lacks k d within = absurd (omega (arith, within))
all_lack (x ∷ xs) lacks zero d within = lacks.0
all_lack (x ∷ xs) lacks (suc k) d within = all_lack xs lacks.1 k d (omega arith)

abbrev pub AllLack : List (List ℕ) → Type 0
AllLack [] = Unit {0}
AllLack (t ∷ ts) = Lacks 44 t × AllLack ts

-- pieces with commas between them are cut into the pieces
pub split_joined : (t : List ℕ) (ts : List (List ℕ)) → Lacks 44 t → AllLack ts → slice_split (λ b. b == 44) (t ++ flat_map (λ u. 44 ∷ u) ts) ≡ t ∷ ts
split_joined t [] lacks all = ap (slice_split (λ b. b == 44)) (append-nil t) ∙ slice_split_none (λ b. b == 44) t (all_lack t lacks)
split_joined t (u ∷ us) lacks all =
    ap (λ r. slice_split (λ b. b == 44) (t ++ r)) (flat_map-cons (λ v. 44 ∷ v) u us)
    ∙ slice_split_at (λ b. b == 44) t 44 (u ++ flat_map (λ v. 44 ∷ v) us) (all_lack t lacks) refl
    ∙ ap (λ ps. t ∷ ps) (split_joined u us all.0 all.1)

joined_items : (classes : List Class) (items : List Cell) → flat_map (λ other. codes "," ++ item_text classes other) items ≡ flat_map (λ u. 44 ∷ u)
    (map (item_text classes) items)
joined_items classes [] = refl
joined_items classes (item ∷ items) =
    flat_map-cons (λ other. codes "," ++ item_text classes other) item items
    ∙ ap (λ r. (44 ∷ item_text classes item) ++ r) (joined_items classes items)
    ∙ sym (flat_map-cons (λ u. 44 ∷ u) (item_text classes item) (map (item_text classes) items))

texts_lack : (classes : List Class) (items : List Cell) → AreWritable classes items → AllLack (map (item_text classes) items)
texts_lack classes [] each = tt
texts_lack classes (item ∷ items) each = (no_comma_in_item classes item each.0, texts_lack classes items each.1)

bare_typed : (classes : List Class) (c : Comp) (item : Cell) → is_item_of classes c (bare_item item) ≡ is_item_of classes c item
bare_typed classes (comp.Prim p) (cell.Prim n) = refl
bare_typed classes (comp.Prim p) (cell.Boxed n) = refl
bare_typed classes (comp.Prim p) (cell.Text s) = refl
bare_typed classes (comp.Prim p) (cell.Object c k) = refl
bare_typed classes (comp.Prim p) (cell.Thrown e) = refl
bare_typed classes (comp.Prim p) cell.Null = refl
bare_typed classes (comp.Class d) (cell.Prim n) = refl
bare_typed classes (comp.Class d) (cell.Boxed n) = refl
bare_typed classes (comp.Class d) (cell.Text s) = refl
bare_typed classes (comp.Class d) (cell.Object c k) = refl
bare_typed classes (comp.Class d) (cell.Thrown e) = refl
bare_typed classes (comp.Class d) cell.Null = refl

items_trip : (classes : List Class) (c : Comp) → AreClasses classes → (items : List Cell) → AreWritable classes items → are_items_of classes c items ≡ true →
    items_of classes c (map (item_text classes) items) ≡ Some (map bare_item items)
items_trip classes c sound [] each typed = refl
items_trip classes c sound (item ∷ items) each typed =
    let parts = and_parts (is_item_of classes c item) (are_items_of classes c items) typed in
    let one : option_and_then (if_item classes c) (item_of classes (item_text classes item)) ≡ Some (bare_item item) =
    ap (option_and_then (if_item classes c)) (item_trip classes sound item each.0)
    ∙ ap (λ t. if t then Some (bare_item item) else None) (bare_typed classes c item ∙ parts.0) in
    ap (option_and_then (λ i. option_map (λ is. i ∷ is) (items_of classes c (map (item_text classes) items)))) one
    ∙ ap (option_map (λ is. bare_item item ∷ is)) (items_trip classes c sound items each.1 parts.1)

-- an item's literal is not empty
item_some : (classes : List Class) (item : Cell) → 0 < length (item_text classes item)
item_some classes (cell.Prim n) = omega arith
item_some classes (cell.Boxed n) = omega arith
item_some classes (cell.Text s) = omega arith
item_some classes (cell.Object c k) = omega arith
item_some classes (cell.Thrown e) = omega arith
item_some classes cell.Null = lit< tt

pub listed_some : (classes : List Class) (c : Comp) (text : List ℕ) → 0 < length text →
    listed classes c text ≡ items_of classes c (slice_split (λ b. b == 44) text)
listed_some classes c [] some = absurd (omega (arith, some))
listed_some classes c (b ∷ bs) some = refl

pub listed_trip : (classes : List Class) (c : Comp) → AreClasses classes → (items : List Cell) → AreWritable classes items → are_items_of classes c items ≡ true
    → listed classes c (items_text classes items) ≡ Some (map bare_item items)
listed_trip classes c sound [] each typed = refl
listed_trip classes c sound (item ∷ items) each typed =
    let first : List ℕ = item_text classes item in
    let joined : items_text classes (item ∷ items) ≡ first ++ flat_map (λ u. 44 ∷ u) (map (item_text classes) items) =
    ap (λ r. first ++ r) (joined_items classes items) in
    let some : 0 < length (first ++ flat_map (λ u. 44 ∷ u) (map (item_text classes) items)) =
    omega (arith, item_some classes item, length-append first (flat_map (λ u. 44 ∷ u) (map (item_text classes) items))) in
    ap (listed classes c) joined
    ∙ listed_some classes c (first ++ flat_map (λ u. 44 ∷ u) (map (item_text classes) items)) some
    ∙ ap (items_of classes c) (split_joined first (map (item_text classes) items) (no_comma_in_item classes item each.0) (texts_lack classes items each.1))
    ∙ items_trip classes c sound (item ∷ items) each typed
