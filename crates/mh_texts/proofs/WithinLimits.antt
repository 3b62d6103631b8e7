-- A value that is read is within the limits of values.
use Rattle.std.proofs.Common.{ℕ, List, [], ◌∷◌, Result, Ok, Err, IfOk}
use Rattle.mh_values.specs.declared.class.Class.{Class}
use Rattle.mh_values.specs.declared.types.Comp.{Comp}
use Rattle.mh_values.specs.declared.value.Cell.{Cell}
use Rattle.mh_values.specs.declared.value.Cell.TheVariants as cell
use Rattle.mh_values.specs.declared.value.Value.{Value}
use Rattle.mh_values.specs.declared.value.Value.TheVariants as value
use Rattle.mh_values.specs.ValueLimits.{IsItemWithinLimits, AreItemsWithinLimits, IsValueWithinLimits}
use Rattle.mh_texts.specs.declared.literal.LiteralError.{LiteralError}
use Rattle.mh_texts.specs.Literal.{literal_of, TellsLiteral}
use Rattle.mh_texts.specs.Spells.{SpellsItem, SpellsMore, SpellsItems, Spells}
use Rattle.mh_texts.proofs.SpelledValues.{value_spelled}

item_within : (classes : List Class) (item : Cell) (token : List ℕ) → SpellsItem classes item token → IsItemWithinLimits item
item_within classes (cell.Prim n) token is = tt
item_within classes (cell.Boxed n) token is = tt
item_within classes (cell.Text s) token is = is.spelled.1
item_within classes (cell.Object c k) token is = tt
item_within classes (cell.Thrown e) token is = tt
item_within classes cell.Null token is = tt

more_within : (classes : List Class) (c : Comp) (items : List Cell) (text : List ℕ) → SpellsMore classes c text items → AreItemsWithinLimits items
more_within classes c [] text is = tt
more_within classes c (item ∷ items) text is = (item_within classes item is.0 is.3.spelled, more_within classes c items is.1 is.4)

items_within : (classes : List Class) (c : Comp) (items : List Cell) (text : List ℕ) → SpellsItems classes c text items → AreItemsWithinLimits items
items_within classes c [] text is = tt
items_within classes c (item ∷ items) text is = (item_within classes item is.0 is.3.spelled, more_within classes c items is.1 is.4)

-- a value that a token spells
pub value_within : (classes : List Class) (v : Value) (token : List ℕ) → Spells classes v token → IsValueWithinLimits v
value_within classes (value.Prim n) token is = tt
value_within classes (value.Boxed n) token is = tt
value_within classes (value.Text s) token is = is.spelled.1
value_within classes (value.Object c k) token is = tt
value_within classes (value.Thrown e) token is = tt
value_within classes (value.Array c items) token is = (is.spelled.few, items_within classes c items is.spelled.inside is.spelled.items_are)
value_within classes value.Null token is = tt

-- what a reader of literals answers
pub told_within : (classes : List Class) (token : List ℕ) (r : Result Value LiteralError) → TellsLiteral r (literal_of classes token) →
    IfOk r IsValueWithinLimits
told_within classes token (Ok v) told = value_within classes v token (value_spelled classes token v told)
told_within classes token (Err error) told = tt
