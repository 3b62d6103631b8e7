-- Arrays that are gathered and spread, and arguments and results that are converted, within the limits.
use Rattle.std.proofs.Common.{◌≡◌, refl, ap, ℕ, suc, ◌≤◌, ◌==◌, Bool, true, false, cond, List, [], ◌∷◌, map, length, codes, Option, Some, None, Result, Ok, Err, arith}
use Rattle.std.specs.Result.{result_map_both}
use Rattle.mh_values.specs.declared.class.Class.{Class}
use Rattle.mh_values.specs.declared.types.Comp.{Comp}
use Rattle.mh_values.specs.declared.types.Ty.{Ty}
use Rattle.mh_values.specs.declared.value.Cell.{Cell}
use Rattle.mh_values.specs.declared.value.Cell.TheVariants as cell
use Rattle.mh_values.specs.declared.value.Exc.{Exc}
use Rattle.mh_values.specs.declared.value.Value.{Value}
use Rattle.mh_values.specs.declared.value.Value.TheVariants as value
use Rattle.mh_values.specs.Array.{value_of_item, item_of_value, item_and_more, items_of_values, array_or_nested, array_of, spread_values}
use Rattle.mh_values.specs.Class.{illegal_argument_class, null_pointer_class}
use Rattle.mh_values.specs.Computation.{Gave, Threw, and_then}
use Rattle.mh_values.specs.Exception.{bare, saying}
use Rattle.mh_values.specs.ValueLimits.{IsItemWithinLimits, AreItemsWithinLimits, IsValueWithinLimits, AreValuesWithinLimits, most_items}
use Rattle.mh_leaf.specs.Limits.{IsResultWithinLimits, IsRunWithinLimits}
use Rattle.mh_convert.specs.declared.conv.RetConv.{RetConv}
use Rattle.mh_convert.specs.declared.conv.RetConv.TheVariants as ret
use Rattle.mh_convert.specs.declared.conv.Rules.{Rules}
use Rattle.mh_convert.specs.Conversion.{conv, ret_conversion_of, ret_conv}
use Rattle.mh_convert.proofs.Limits.{ConvertsWithinLimits, conv-limits, default-limits}
use Rattle.mh_tree.specs.Meaning.{Done, or_throw, then_others, conv_all, conv_result}
use Rattle.mh_tree.proofs.LimitedRuns.{after-limits, found-limits}

-- ---- arrays

-- items within the limits, so many, if none of the values is an array
abbrev AreItems : ℕ → Option (List Cell) → Type 0
AreItems count (Some items) = (length items ≡ count) × AreItemsWithinLimits items
AreItems count None = Unit {0}

-- an item within the limits, if the value is no array
abbrev IsItem : Option Cell → Type 0
IsItem (Some item) = IsItemWithinLimits item
IsItem None = Unit {0}

item-there : (v : Value) → IsValueWithinLimits v → IsItem (item_of_value v)
item-there (value.Prim n) h = tt
item-there (value.Boxed n) h = tt
item-there (value.Text s) h = h
item-there (value.Object c k) h = tt
item-there (value.Thrown e) h = tt
item-there (value.Array c items) h = tt
item-there value.Null h = tt

more-items : (count : ℕ) (o : Option Cell) (os : Option (List Cell)) → IsItem o → AreItems count os → AreItems (suc count) (item_and_more o os)
more-items count (Some item) (Some items) h k = (ap suc k.0, (h, k.1))
more-items count (Some item) None h k = tt
more-items count None os h k = tt

items-there : (vs : List Value) → AreValuesWithinLimits vs → AreItems (length vs) (items_of_values vs)
items-there [] h = (refl, tt)
items-there (v ∷ vs) h = more-items (length vs) (item_of_value v) (items_of_values vs) (item-there v h.0) (items-there vs h.1)

array-there : (c : Comp) (count : ℕ) (o : Option (List Cell)) → count ≤ most_items → AreItems count o → ConvertsWithinLimits (array_or_nested c o)
array-there c count (Some items) few h = let e : length items ≡ count = h.0 in (omega (arith, e, few), h.1)
array-there c count None few h = tt

-- an array of values within the limits, which are not too many
pub array-limits : (c : Comp) (vs : List Value) → length vs ≤ most_items → AreValuesWithinLimits vs → ConvertsWithinLimits (array_of c vs)
array-limits c vs few h = array-there c (length vs) (items_of_values vs) few (items-there vs h)

value-there : (item : Cell) → IsItemWithinLimits item → IsValueWithinLimits (value_of_item item)
value-there (cell.Prim n) h = tt
value-there (cell.Boxed n) h = tt
value-there (cell.Text s) h = h
value-there (cell.Object c k) h = tt
value-there (cell.Thrown e) h = tt
value-there cell.Null h = tt

values-there : (items : List Cell) → AreItemsWithinLimits items → AreValuesWithinLimits (map value_of_item items)
values-there [] h = tt
values-there (item ∷ items) h = (value-there item h.0, values-there items h.1)

-- what runs on values, or an exception in their place
spread_to : (b : Bool) (vs : List Value) (e : Exc) (n : ℕ) (next : List Value → ℕ → Done) → IsRunWithinLimits (next vs n) →
    IsRunWithinLimits (and_then (cond b (Gave vs []) (Threw e [])) n next)
spread_to true vs e n next h = after-limits [] (next vs n) tt h
spread_to false vs e n next h = tt

-- what runs on the items of an array
pub spread-limits : (count : ℕ) (v : Value) (n : ℕ) (next : List Value → ℕ → Done) → IsValueWithinLimits v →
    ((vs : List Value) → AreValuesWithinLimits vs → IsRunWithinLimits (next vs n)) → IsRunWithinLimits (and_then (spread_values count v) n next)
spread-limits count value.Null n next h more = spread_to (count == 0) [] (bare null_pointer_class) n next (more [] tt)
spread-limits count (value.Array c items) n next h more =
    spread_to (length items == count) (map value_of_item items) (saying illegal_argument_class (codes "spread")) n next
    (more (map value_of_item items) (values-there items h.1))
spread-limits count v n next h more = tt

-- ---- conversions

-- values within their limits, or an exception
abbrev ConvertAllWithinLimits : Result (List Value) Exc → Type 0
ConvertAllWithinLimits (Ok vs) = AreValuesWithinLimits vs
ConvertAllWithinLimits (Err e) = Unit {0}

in_front : (r : Result Value Exc) (rs : Result (List Value) Exc) → ConvertsWithinLimits r → ConvertAllWithinLimits rs →
    ConvertAllWithinLimits (then_others r rs)
in_front (Ok v) (Ok vs) h k = (h, k)
in_front (Ok v) (Err e) h k = tt
in_front (Err e) rs h k = tt

all-limits : (by : Rules) (classes : List Class) (ss ts : List Ty) (vs : List Value) → AreValuesWithinLimits vs →
    ConvertAllWithinLimits (conv_all by classes ss ts vs)
all-limits by classes (s ∷ ss) (t ∷ ts) (v ∷ vs) h =
    in_front (conv by classes s t v) (conv_all by classes ss ts vs) (conv-limits by classes s t v h.0) (all-limits by classes ss ts vs h.1)
all-limits by classes ss ts vs h = tt

on_all : (r : Result (List Value) Exc) (next : List Value → Done) → ConvertAllWithinLimits r →
    ((vs : List Value) → AreValuesWithinLimits vs → IsRunWithinLimits (next vs)) → IsRunWithinLimits (or_throw r next)
on_all (Ok vs) next h more = more vs h
on_all (Err e) next h more = tt

-- what runs on converted arguments
pub conv_all-limits : (by : Rules) (classes : List Class) (ss ts : List Ty) (vs : List Value) (next : List Value → Done) → AreValuesWithinLimits vs →
    ((ws : List Value) → AreValuesWithinLimits ws → IsRunWithinLimits (next ws)) → IsRunWithinLimits (or_throw (conv_all by classes ss ts vs) next)
conv_all-limits by classes ss ts vs next h more = on_all (conv_all by classes ss ts vs) next (all-limits by classes ss ts vs h) more

value-shown : (r : Result Value Exc) → ConvertsWithinLimits r → IsRunWithinLimits (or_throw (result_map_both (λ w. Some w) (λ e. e) r) (λ v. Gave v []))
value-shown (Ok v) h = (h, tt)
value-shown (Err e) h = tt

ret-limits : (by : Rules) (classes : List Class) (c : RetConv) (r : Option Value) → IsResultWithinLimits r →
    IsRunWithinLimits (or_throw (ret_conv by classes c r) (λ v. Gave v []))
ret-limits by classes ret.Keep r h = (h, tt)
ret-limits by classes ret.Discard r h = (tt, tt)
ret-limits by classes (ret.Default t) r h = (default-limits t, tt)
ret-limits by classes (ret.Value c) (Some v) h = value-shown (conv by classes c.from c.to v) (conv-limits by classes c.from c.to v h)
ret-limits by classes (ret.Value c) None h = (tt, tt)

-- a converted result
pub conv_result-limits : (by : Rules) (classes : List Class) (s t : Option Ty) (r : Option Value) → IsResultWithinLimits r →
    IsRunWithinLimits (conv_result by classes s t r)
conv_result-limits by classes s t r h =
    found-limits (ret_conversion_of by classes s t) (λ c. or_throw (ret_conv by classes c r) (λ v. Gave v [])) (λ c is. ret-limits by classes c r h)
