-- Values within their limits: the texts and arrays that they hold are not too long.
use Rattle.std.specs.Prelude.{ℕ, ◌≤◌, nat_le, Bool, List, [], ◌∷◌, length}
use Rattle.mh_values.specs.declared.value.Cell.{Cell}
use Rattle.mh_values.specs.declared.value.Cell.TheVariants as cell
use Rattle.mh_values.specs.declared.value.Value.{Value}
use Rattle.mh_values.specs.declared.value.Value.TheVariants as value

-- how many characters a text in a value may have
abbrev pub most_characters : ℕ
most_characters = 4096

-- how many items an array may have
abbrev pub most_items : ℕ
most_items = 254

-- a text that is not too long
abbrev pub is_short_text : List ℕ → Bool
is_short_text s = nat_le (length s) most_characters

-- items that are not too many for one array
abbrev pub are_few_items : List Cell → Bool
are_few_items items = nat_le (length items) most_items

-- a text of an item is not too long
abbrev pub IsItemWithinLimits : Cell → Type 0
IsItemWithinLimits (cell.Text s) = length s ≤ most_characters
IsItemWithinLimits (cell.Prim n) = Unit {0}
IsItemWithinLimits (cell.Boxed n) = Unit {0}
IsItemWithinLimits (cell.Object c k) = Unit {0}
IsItemWithinLimits (cell.Thrown e) = Unit {0}
IsItemWithinLimits cell.Null = Unit {0}

-- the texts of items are not too long
abbrev pub AreItemsWithinLimits : List Cell → Type 0
AreItemsWithinLimits [] = Unit {0}
AreItemsWithinLimits (item ∷ items) = IsItemWithinLimits item × AreItemsWithinLimits items

-- a text that is not too long, an array that has not too many items, each within its limits, or any other value
abbrev pub IsValueWithinLimits : Value → Type 0
IsValueWithinLimits (value.Text s) = length s ≤ most_characters
IsValueWithinLimits (value.Array c items) = (length items ≤ most_items) × AreItemsWithinLimits items
IsValueWithinLimits (value.Prim n) = Unit {0}
IsValueWithinLimits (value.Boxed n) = Unit {0}
IsValueWithinLimits (value.Object c k) = Unit {0}
IsValueWithinLimits (value.Thrown e) = Unit {0}
IsValueWithinLimits value.Null = Unit {0}

-- values, each within its limits
abbrev pub AreValuesWithinLimits : List Value → Type 0
AreValuesWithinLimits [] = Unit {0}
AreValuesWithinLimits (v ∷ vs) = IsValueWithinLimits v × AreValuesWithinLimits vs
