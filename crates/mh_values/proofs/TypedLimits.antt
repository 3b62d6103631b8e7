-- Values that have a type are within the limits of values.
use Rattle.std.proofs.Common.{◌≡◌, ◌==◌, true, List, [], ◌∷◌, length}
use Rattle.std.proofs.lemmas.Bool.{leb-true, and_parts}
use Rattle.mh_values.specs.declared.class.Class.{Class}
use Rattle.mh_values.specs.declared.types.Comp.{Comp}
use Rattle.mh_values.specs.declared.types.Comp.TheVariants as comp
use Rattle.mh_values.specs.declared.types.Ty.{Ty}
use Rattle.mh_values.specs.declared.types.Ty.TheVariants as ty
use Rattle.mh_values.specs.declared.value.Cell.{Cell}
use Rattle.mh_values.specs.declared.value.Cell.TheVariants as cell
use Rattle.mh_values.specs.declared.value.Value.{Value}
use Rattle.mh_values.specs.declared.value.Value.TheVariants as value
use Rattle.mh_values.specs.Class.{is_subclass, object_class, string_class}
use Rattle.mh_values.specs.HasType.{is_component_below, is_item_of, are_items_of, is_array_of, has_type, HaveTypes}
use Rattle.mh_values.specs.ValueLimits.{most_characters, most_items, is_short_text, are_few_items, IsItemWithinLimits, AreItemsWithinLimits, IsValueWithinLimits, AreValuesWithinLimits}

item-within : (classes : List Class) (c : Comp) (item : Cell) → is_item_of classes c item ≡ true → IsItemWithinLimits item
item-within classes (comp.Class c) (cell.Text s) h = leb-true (length s) most_characters (and_parts (is_subclass classes string_class c) (is_short_text s) h).1
item-within classes (comp.Prim p) (cell.Text s) h = absurd cc
item-within classes c (cell.Prim n) h = tt
item-within classes c (cell.Boxed n) h = tt
item-within classes c (cell.Object a k) h = tt
item-within classes c (cell.Thrown e) h = tt
item-within classes c cell.Null h = tt

items-within : (classes : List Class) (c : Comp) (items : List Cell) → are_items_of classes c items ≡ true → AreItemsWithinLimits items
items-within classes c [] h = tt
items-within classes c (item ∷ items) h =
    let q = and_parts (is_item_of classes c item) (are_items_of classes c items) h in
    (item-within classes c item q.0, items-within classes c items q.1)

array-within : (classes : List Class) (c : Comp) (items : List Cell) → is_array_of classes c items ≡ true → IsValueWithinLimits (value.Array c items)
array-within classes c items h =
    let q = and_parts (are_few_items items) (are_items_of classes c items) h in
    (leb-true (length items) most_items q.0, items-within classes c items q.1)

pub typed-within : (classes : List Class) (v : Value) (t : Ty) → has_type classes v t ≡ true → IsValueWithinLimits v
typed-within classes (value.Text s) (ty.Class c) h =
    leb-true (length s) most_characters (and_parts (is_subclass classes string_class c) (is_short_text s) h).1
typed-within classes (value.Text s) (ty.Prim p) h = absurd cc
typed-within classes (value.Text s) (ty.Array d) h = absurd cc
typed-within classes (value.Array c items) (ty.Class d) h =
    array-within classes c items (and_parts (d.0 == object_class.0) (is_array_of classes c items) h).1
typed-within classes (value.Array c items) (ty.Array d) h =
    array-within classes c items (and_parts (is_component_below classes c d) (is_array_of classes c items) h).1
typed-within classes (value.Array c items) (ty.Prim p) h = absurd cc
typed-within classes (value.Prim n) t h = tt
typed-within classes (value.Boxed n) t h = tt
typed-within classes (value.Object c k) t h = tt
typed-within classes (value.Thrown e) t h = tt
typed-within classes value.Null t h = tt

-- the same of lists
pub all_typed-within : (classes : List Class) (vs : List Value) (ts : List Ty) → HaveTypes classes vs ts → AreValuesWithinLimits vs
all_typed-within classes [] ts h = tt
all_typed-within classes (v ∷ vs) [] h = absurd h
all_typed-within classes (v ∷ vs) (t ∷ ts) h = (typed-within classes v t h.0, all_typed-within classes vs ts h.1)
