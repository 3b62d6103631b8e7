-- Values that a literal can write, and what the literal keeps of them.
use Rattle.std.specs.Prelude.{◌≡◌, ℕ, ◌<◌, ◌≤◌, ◌^◌, ◌==◌, Bool, false, not, ◌&&◌, ◌||◌, List, [], ◌∷◌, length, map, Some, IsTrue}
use Rattle.std.specs.List.{list_all}
use Rattle.mh_base.specs.Ascii.{backslash, comma, full_stop, left_bracket, number_sign, semicolon}
use Rattle.mh_values.specs.declared.class.Class.{Class}
use Rattle.mh_values.specs.declared.class.ClassId.{ClassId}
use Rattle.mh_values.specs.declared.types.Comp.{Comp}
use Rattle.mh_values.specs.declared.types.Comp.TheVariants as comp
use Rattle.mh_values.specs.declared.value.Cell.{Cell}
use Rattle.mh_values.specs.declared.value.Cell.TheVariants as cell
use Rattle.mh_values.specs.declared.value.Value.{Value}
use Rattle.mh_values.specs.declared.value.Value.TheVariants as value
use Rattle.mh_values.specs.Class.{is_subclass, throwable_class}
use Rattle.mh_values.specs.Classes.{name_of}
use Rattle.mh_values.specs.Exception.{bare}
use Rattle.mh_values.specs.HasType.{are_items_of}
use Rattle.mh_values.specs.Primitives.{is_within}
use Rattle.mh_values.specs.ValueLimits.{most_characters, most_items}
use Rattle.mh_texts.specs.Literal.{has_own_literal}
use Rattle.mh_texts.specs.Characters.{is_graphic}
use Rattle.mh_texts.specs.Escapes.{scalar}

-- a byte of a class name that needs no escape and ends no part of a literal: none of `\ , # [ ; .`
abbrev pub is_unescaped : ℕ → Bool
is_unescaped b = is_graphic b && not (b == backslash || b == comma || b == number_sign || b == left_bracket || b == semicolon || b == full_stop)

-- a class of the list whose name has only such bytes
pub record IsPlainClass (classes : List Class) (c : ClassId) : Type 0 where
  pub listed : c.0 < length classes
  pub named : 0 < length (name_of classes c)
  pub plain : IsTrue (list_all is_unescaped (name_of classes c))

-- characters, by numbers that are characters
abbrev pub AreScalars : List ℕ → Type 0
AreScalars [] = Unit {0}
AreScalars (c ∷ cs) = (scalar c ≡ Some c) × AreScalars cs

-- an item that a literal can write
abbrev pub IsWritableItem : List Class → Cell → Type 0
IsWritableItem classes (cell.Prim n) = IsTrue (is_within n)
IsWritableItem classes (cell.Boxed n) = IsTrue (is_within n)
IsWritableItem classes (cell.Text s) = AreScalars s × (length s ≤ most_characters)
IsWritableItem classes (cell.Object c k) = IsPlainClass classes c × (has_own_literal classes c ≡ false) × (k < 2 ^ 32)
IsWritableItem classes (cell.Thrown e) = IsPlainClass classes e.class × IsTrue (is_subclass classes e.class throwable_class)
IsWritableItem classes cell.Null = Unit {0}

-- items, each of which a literal can write
abbrev pub AreWritable : List Class → List Cell → Type 0
AreWritable classes [] = Unit {0}
AreWritable classes (item ∷ items) = IsWritableItem classes item × AreWritable classes items

-- a component type that a literal can write
abbrev pub IsWritableComponent : List Class → Comp → Type 0
IsWritableComponent classes (comp.Prim p) = Unit {0}
IsWritableComponent classes (comp.Class c) = IsPlainClass classes c

-- an array that a literal can write
pub record IsWritableArray (classes : List Class) (c : Comp) (items : List Cell) : Type 0 where
  pub component : IsWritableComponent classes c
  pub typed : IsTrue (are_items_of classes c items)
  pub few : length items ≤ most_items
  pub each : AreWritable classes items

-- a value that a literal can write
abbrev pub IsWritable : List Class → Value → Type 0
IsWritable classes (value.Prim n) = IsWritableItem classes (cell.Prim n)
IsWritable classes (value.Boxed n) = IsWritableItem classes (cell.Boxed n)
IsWritable classes (value.Text s) = IsWritableItem classes (cell.Text s)
IsWritable classes (value.Object c k) = IsWritableItem classes (cell.Object c k)
IsWritable classes (value.Thrown e) = IsWritableItem classes (cell.Thrown e)
IsWritable classes (value.Array c items) = IsWritableArray classes c items
IsWritable classes value.Null = Unit {0}

-- an item with an exception as its class alone
abbrev pub bare_item : Cell → Cell
bare_item (cell.Thrown e) = cell.Thrown (bare e.class)
bare_item (cell.Prim n) = cell.Prim n
bare_item (cell.Boxed n) = cell.Boxed n
bare_item (cell.Text s) = cell.Text s
bare_item (cell.Object c k) = cell.Object c k
bare_item cell.Null = cell.Null

-- a value with each exception as its class alone
abbrev pub bare_value : Value → Value
bare_value (value.Thrown e) = value.Thrown (bare e.class)
bare_value (value.Array c items) = value.Array c (map bare_item items)
bare_value (value.Prim n) = value.Prim n
bare_value (value.Boxed n) = value.Boxed n
bare_value (value.Text s) = value.Text s
bare_value (value.Object c k) = value.Object c k
bare_value value.Null = value.Null
