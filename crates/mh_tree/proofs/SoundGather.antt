-- Gathering ends as its type says, where its part does.
use Rattle.std.proofs.Common.{◌≡◌, refl, sym, ap, subst, ℕ, zero, suc, ◌-◌, ◌≤◌, true, List, [], ◌∷◌, take, drop, length, replicate, Option, Some, None, Result, Ok, Err, arith}
use Rattle.std.specs.Prelude.{slice_get}
use Rattle.std.proofs.lemmas.List.{length-replicate}
use Rattle.std.proofs.lemmas.Bool.{and_from, le-leb}
use Rattle.mh_values.specs.declared.class.Class.{Class}
use Rattle.mh_values.specs.declared.types.Comp.{Comp}
use Rattle.mh_values.specs.declared.types.Comp.TheVariants as comp
use Rattle.mh_values.specs.declared.types.Ty.{Ty}
use Rattle.mh_values.specs.declared.types.Ty.TheVariants as ty
use Rattle.mh_values.specs.declared.types.MethodTy.{MethodTy}
use Rattle.mh_values.specs.declared.value.Cell.{Cell}
use Rattle.mh_values.specs.declared.value.Exc.{Exc}
use Rattle.mh_values.specs.declared.value.Value.{Value}
use Rattle.mh_values.specs.declared.value.Value.TheVariants as value
use Rattle.mh_values.specs.Array.{item_of_value, item_and_more, items_of_values, array_or_nested, array_of, item_type}
use Rattle.mh_values.specs.Classes.{AreClasses}
use Rattle.mh_values.specs.Computation.{found, spliced}
use Rattle.mh_values.specs.HasType.{has_type, HaveTypes, is_type_below, is_item_of, are_items_of}
use Rattle.mh_values.specs.Returns.{Returns}
use Rattle.mh_values.specs.ValueLimits.{most_items, are_few_items}
use Rattle.mh_values.proofs.BelowTypes.{component_below-itself, value-below, internal_error-below}
use Rattle.mh_tree.specs.Rows.{component_of, takes_array, gather_row}
use Rattle.mh_tree.specs.Meaning.{Done, or_throw, part_of}
use Rattle.mh_tree.specs.Sound.{Body, IsSound}
use Rattle.mh_tree.proofs.RowParts.{gather_row-parts, gather_row-few}
use Rattle.mh_tree.proofs.SoundAdapters.{one-taken}
use Rattle.mh_tree.proofs.SoundConversions.{Converts}
use Rattle.mh_tree.proofs.TypedLists.{types-part, types-splice}

-- an item, if the value is none of an array
abbrev IsItem : List Class → Comp → Option Cell → Type 0
IsItem classes c (Some i) = is_item_of classes c i ≡ true
IsItem classes c None = Unit {0}

-- items of the component's type, so many, if none of the values is an array
abbrev AreItems : List Class → Comp → ℕ → Option (List Cell) → Type 0
AreItems classes c count (Some items) = (length items ≡ count) × (are_items_of classes c items ≡ true)
AreItems classes c count None = Unit {0}

item-there : (classes : List Class) (c : Comp) (v : Value) → has_type classes v (item_type c) ≡ true → IsItem classes c (item_of_value v)
item-there classes (comp.Prim p) (value.Prim n) typed = typed
item-there classes (comp.Class c) (value.Boxed n) typed = typed
item-there classes (comp.Class c) (value.Text s) typed = typed
item-there classes (comp.Class c) (value.Object a k) typed = typed
item-there classes (comp.Class c) (value.Thrown e) typed = typed
item-there classes c (value.Array d items) typed = tt
item-there classes (comp.Class c) value.Null typed = refl
item-there classes c v typed = absurd cc

more-items : (classes : List Class) (c : Comp) (count : ℕ) (o : Option Cell) (os : Option (List Cell)) → IsItem classes c o → AreItems classes c count os →
    AreItems classes c (suc count) (item_and_more o os)
more-items classes c count (Some i) (Some items) h k = (ap suc k.0, and_from _ _ h k.1)
more-items classes c count (Some i) None h k = tt
more-items classes c count None os h k = tt

items-there : (classes : List Class) (c : Comp) (count : ℕ) (vs : List Value) → HaveTypes classes vs (replicate count (item_type c)) →
    AreItems classes c count (items_of_values vs)
items-there classes c zero [] have = (refl, refl)
items-there classes c (suc count) [] have = absurd have
items-there classes c zero (v ∷ vs) have = absurd have
items-there classes c (suc count) (v ∷ vs) have =
    more-items classes c count (item_of_value v) (items_of_values vs) (item-there classes c v have.0) (items-there classes c count vs have.1)

array-made : (classes : List Class) → AreClasses classes → (c : Comp) (count : ℕ) (o : Option (List Cell)) → count ≤ most_items → AreItems classes c count o →
    Converts classes (array_or_nested c o) (ty.Array c)
array-made classes are c count (Some items) few h =
    let e : length items ≡ count = h.0 in
    let short : are_few_items items ≡ true = le-leb (length items) most_items (omega (arith, e, few)) in
    and_from _ _ (component_below-itself classes c) (and_from _ _ short h.1)
array-made classes are c count None few h = internal_error-below classes are

pub array-converts : (classes : List Class) → AreClasses classes → (c : Comp) (count : ℕ) (vs : List Value) → count ≤ most_items →
    HaveTypes classes vs (replicate count (item_type c)) → Converts classes (array_of c vs) (ty.Array c)
array-converts classes are c count vs few have = array-made classes are c count (items_of_values vs) few (items-there classes c count vs have)

throw-value : (classes : List Class) (r : Result Value Exc) (t : Ty) (ret : Option Ty) (next : Value → Done) → Converts classes r t →
    ((v : Value) → has_type classes v t ≡ true → Returns classes (next v) ret) → Returns classes (or_throw r next) ret
throw-value classes (Ok v) t ret next h more = more v h
throw-value classes (Err e) t ret next h more = h

pub last-there : (classes : List Class) (c : Comp) (o : Option Ty) → takes_array classes c o ≡ true → (t : Ty) × (o ≡ Some t)
    × (is_type_below classes (ty.Array c) t ≡ true)
last-there classes c None h = absurd cc
last-there classes c (Some t) h = (t, refl, h)

pub gather-sound : (classes : List Class) → AreClasses classes → (body : Body) (t : MethodTy) (weight : ℕ) (array : Option Ty) (count : ℕ) (u : MethodTy) →
    IsSound classes body t → gather_row classes t weight array count ≡ Ok u →
    IsSound classes (λ args n. found (component_of array) (λ c. or_throw (array_of c (part_of (length t.params - 1) count args))
    (λ v. body (spliced (length t.params - 1) count (v ∷ []) args) n))) u
gather-sound classes are body t weight array count u sound typed args n have =
    let q = gather_row-parts classes t weight array count u typed in
    let few = gather_row-few classes t weight array count u typed in
    let place = length t.params - 1 in
    let low : place ≤ length t.params = omega arith in
    let items = replicate count (item_type q.0) in
    let e : length items ≡ count = length-replicate count (item_type q.0) in
    let have' : HaveTypes classes args (spliced place 1 items t.params) = subst (λ (m : MethodTy). HaveTypes classes args m.params) q.3 have in
    let last = last-there classes q.0 (slice_get t.params place) q.2 in
    let own : HaveTypes classes (part_of place count args) items =
    subst (λ m. HaveTypes classes (part_of place m args) items) e (types-part classes args t.params items place 1 low have') in
    let run : Value → Done = λ v. body (spliced place count (v ∷ []) args) n in
    let done : Returns classes (or_throw (array_of q.0 (part_of place count args)) run) t.ret =
    throw-value classes (array_of q.0 (part_of place count args)) (ty.Array q.0) t.ret run
    (array-converts classes are q.0 count (part_of place count args) few own) (λ v made.
    let one : HaveTypes classes (v ∷ []) (take 1 (drop place t.params)) =
    subst (HaveTypes classes (v ∷ [])) (sym (one-taken t.params place last.0 last.1)) (value-below classes are (ty.Array q.0) last.0 last.2 v made, tt) in
    let put = types-splice classes args (v ∷ []) t.params items place 1 low have' one in
    sound (spliced place count (v ∷ []) args) n (subst (λ m. HaveTypes classes (spliced place m (v ∷ []) args) t.params) e put)) in
    let there = subst (λ o. Returns classes (found o (λ c. or_throw (array_of c (part_of place count args)) run)) t.ret) (sym q.1) done in
    subst (λ (m : MethodTy). Returns classes (found (component_of array) (λ c. or_throw (array_of c (part_of place count args)) run)) m.ret) (sym q.3) there
