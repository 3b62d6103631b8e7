-- Arrays: their items as values, and values as items.
use Rattle.std.specs.Prelude.{ℕ, ◌==◌, List, [], ◌∷◌, codes, length, map, Option, None, Some, Result, Ok, Err, if◌then◌else◌}
use Rattle.mh_values.specs.declared.types.Comp.{Comp}
use Rattle.mh_values.specs.declared.types.Comp.TheVariants as comp
use Rattle.mh_values.specs.declared.types.Ty.{Ty}
use Rattle.mh_values.specs.declared.types.Ty.TheVariants as ty
use Rattle.mh_values.specs.declared.value.Cell.{Cell}
use Rattle.mh_values.specs.declared.value.Cell.TheVariants as cell
use Rattle.mh_values.specs.declared.value.Exc.{Exc}
use Rattle.mh_values.specs.declared.value.Value.{Value}
use Rattle.mh_values.specs.declared.value.Value.TheVariants as value
use Rattle.mh_values.specs.Class.{internal_error_class, null_pointer_class, illegal_argument_class}
use Rattle.mh_values.specs.Computation.{Ran, Gave, Threw, Stuck}
use Rattle.mh_values.specs.Exception.{bare, saying}

-- the value that an item stands for
abbrev pub value_of_item : Cell → Value
value_of_item (cell.Prim n) = value.Prim n
value_of_item (cell.Boxed n) = value.Boxed n
value_of_item (cell.Text s) = value.Text s
value_of_item (cell.Object c k) = value.Object c k
value_of_item (cell.Thrown e) = value.Thrown e
value_of_item cell.Null = value.Null

-- the item that stands for a value; an array is no item
abbrev pub item_of_value : Value → Option Cell
item_of_value (value.Prim n) = Some (cell.Prim n)
item_of_value (value.Boxed n) = Some (cell.Boxed n)
item_of_value (value.Text s) = Some (cell.Text s)
item_of_value (value.Object c k) = Some (cell.Object c k)
item_of_value (value.Thrown e) = Some (cell.Thrown e)
item_of_value (value.Array c items) = None
item_of_value value.Null = Some cell.Null

-- an item before items, if all are there
abbrev pub item_and_more : Option Cell → Option (List Cell) → Option (List Cell)
item_and_more (Some item) (Some items) = Some (item ∷ items)
item_and_more _ _ = None

-- the items that stand for these values, if none of them is an array
abbrev pub items_of_values : List Value → Option (List Cell)
items_of_values [] = Some []
items_of_values (v ∷ vs) = item_and_more (item_of_value v) (items_of_values vs)

-- the array of these items; an array in place of an item throws
abbrev pub array_or_nested : Comp → Option (List Cell) → Result Value Exc
array_or_nested c (Some items) = Ok (value.Array c items)
array_or_nested c None = Err (saying internal_error_class (codes "nested array"))

-- the array, of a component type, of these values; one of them that is an array throws
abbrev pub array_of : Comp → List Value → Result Value Exc
array_of c vs = array_or_nested c (items_of_values vs)

-- the values of an array's items; null has none
abbrev pub values_of_array : Value → List Value
values_of_array (value.Array c items) = map value_of_item items
values_of_array v = []

-- the items of an array that must have this many; null has none, and any other number of items throws
abbrev pub spread_values : ℕ → Value → Ran (List Value)
spread_values n value.Null = if n == 0 then Gave [] [] else Threw (bare null_pointer_class) []
spread_values n (value.Array c items) =
    if length items == n then Gave (map value_of_item items) [] else Threw (saying illegal_argument_class (codes "spread")) []
spread_values n v = Stuck

-- the type of an array's items
abbrev pub item_type : Comp → Ty
item_type (comp.Prim p) = ty.Prim p
item_type (comp.Class c) = ty.Class c
