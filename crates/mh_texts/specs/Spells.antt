-- Literals as what is written of values: which token spells a value, among classes.
use Rattle.std.specs.Prelude.{◌≡◌, ℕ, ◌<◌, ◌≤◌, ◌^◌, ◌==◌, ◌⊎◌, ℤ, pos, false, not, List, [], ◌∷◌, ◌++◌, codes, length, Some, Result, Ok, Err, IsTrue}
use Rattle.std.specs.Fmt.{decimal, signed_decimal}
use Rattle.std.specs.List.{list_all}
use Rattle.mh_values.specs.declared.class.Class.{Class}
use Rattle.mh_values.specs.declared.class.ClassId.{ClassId}
use Rattle.mh_values.specs.declared.types.Comp.{Comp}
use Rattle.mh_values.specs.declared.types.Comp.TheVariants as comp
use Rattle.mh_values.specs.declared.value.Exc.{Exc}
use Rattle.mh_values.specs.declared.value.Num.{Num}
use Rattle.mh_values.specs.declared.value.Num.TheVariants as num
use Rattle.mh_values.specs.declared.value.Cell.{Cell}
use Rattle.mh_values.specs.declared.value.Cell.TheVariants as cell
use Rattle.mh_values.specs.declared.value.Value.{Value}
use Rattle.mh_values.specs.declared.value.Value.TheVariants as value
use Rattle.mh_values.specs.Class.{is_subclass, throwable_class}
use Rattle.mh_values.specs.Classes.{class_named}
use Rattle.mh_values.specs.Exception.{bare}
use Rattle.mh_values.specs.HasType.{is_item_of}
use Rattle.mh_values.specs.Primitives.{is_within}
use Rattle.mh_values.specs.Spelling.{is_name_byte}
use Rattle.mh_values.specs.TypeText.{primitive_text}
use Rattle.mh_values.specs.ValueLimits.{most_items}
use Rattle.mh_texts.specs.declared.literal.LiteralError.{LiteralError}
use Rattle.mh_texts.specs.declared.literal.LiteralError.TheVariants as literal_error
use Rattle.mh_texts.specs.Characters.{SpellsText}
use Rattle.mh_texts.specs.Literal.{has_own_literal}
use Rattle.mh_texts.specs.LiteralText.{bool_text, number_mark, boxed_mark}

-- a text without a byte
abbrev pub LacksByte : ℕ → List ℕ → Type 0
LacksByte byte text = IsTrue (list_all (λ b. not (b == byte)) text)

-- ---- numbers

-- a number in decimal, without a needless zero; `-0` is 0 too
abbrev pub SpellsInteger : List ℕ → ℤ → Type 0
SpellsInteger text n = (text ≡ signed_decimal n) ⊎ ((text ≡ codes "-0") × (n ≡ pos 0))

-- a number of 32 bits in decimal, without a sign or a needless zero
abbrev pub SpellsUnsigned : List ℕ → ℕ → Type 0
SpellsUnsigned text n = (n < 2 ^ 32) × (text ≡ decimal n)

-- a number of a primitive type, within its range
abbrev pub SpellsNumber : List ℕ → Num → Type 0
SpellsNumber text (num.Z b) = text ≡ bool_text b
SpellsNumber text (num.B n) = IsTrue (is_within (num.B n)) × SpellsInteger text n
SpellsNumber text (num.C n) = IsTrue (is_within (num.C n)) × SpellsInteger text (pos n)
SpellsNumber text (num.S n) = IsTrue (is_within (num.S n)) × SpellsInteger text n
SpellsNumber text (num.I n) = IsTrue (is_within (num.I n)) × SpellsInteger text n
SpellsNumber text (num.J n) = IsTrue (is_within (num.J n)) × SpellsInteger text n

-- ---- objects and exceptions

-- an object: its class, which has no literals of another kind, `#`, and its number in decimal, below 2^32
pub record SpellsObject (classes : List Class) (text : List ℕ) (class : ClassId) (number : ℕ) : Type 0 where
  pub name : List ℕ
  pub is : text ≡ name ++ (codes "#" ++ decimal number)
  pub cut : LacksByte 35 name
  pub named : class_named classes name ≡ Some class
  pub plain : has_own_literal classes class ≡ false
  pub small : number < 2 ^ 32

-- an exception with an empty message and no cause: its class, which is a Throwable
pub record SpellsException (classes : List Class) (text : List ℕ) (exception : Exc) : Type 0 where
  pub class : ClassId
  pub is : exception ≡ bare class
  pub named : class_named classes text ≡ Some class
  pub throwable : IsTrue (is_subclass classes class throwable_class)

-- ---- items

-- a token, after what comes before all literals of its kind
pub record Marked (mark : List ℕ) (Spells : List ℕ → Type 0) (token : List ℕ) : Type 0 where
  pub text : List ℕ
  pub is : token ≡ mark ++ text
  pub spelled : Spells text

-- a value that is no array
abbrev pub SpellsItem : List Class → Cell → List ℕ → Type 0
SpellsItem classes (cell.Prim n) = Marked (number_mark n) (λ text. SpellsNumber text n)
SpellsItem classes (cell.Boxed n) = Marked (boxed_mark n) (λ text. SpellsNumber text n)
SpellsItem classes (cell.Text s) = Marked (codes "s:") (λ text. SpellsText text s)
SpellsItem classes (cell.Object c k) = Marked (codes "o:") (λ text. SpellsObject classes text c k)
SpellsItem classes (cell.Thrown e) = Marked (codes "x:") (λ text. SpellsException classes text e)
SpellsItem classes cell.Null = λ token. token ≡ codes "null"

-- ---- arrays

-- a class in a descriptor, by its name
pub record SpellsClass (classes : List Class) (text : List ℕ) (class : ClassId) : Type 0 where
  pub name : List ℕ
  pub is : text ≡ codes "L" ++ (name ++ codes ";")
  pub some : 0 < length name
  pub good : IsTrue (list_all is_name_byte name)
  pub named : class_named classes name ≡ Some class

-- a component type, by its descriptor
abbrev pub SpellsComponent : List Class → List ℕ → Comp → Type 0
SpellsComponent classes text (comp.Prim p) = text ≡ primitive_text p
SpellsComponent classes text (comp.Class c) = SpellsClass classes text c

-- an item of the component type, in a text without a comma
pub record SpellsItemOf (classes : List Class) (component : Comp) (text : List ℕ) (item : Cell) : Type 0 where
  pub spelled : SpellsItem classes item text
  pub typed : IsTrue (is_item_of classes component item)
  pub cut : LacksByte 44 text

-- items, each after a comma
abbrev pub SpellsMore : List Class → Comp → List ℕ → List Cell → Type 0
SpellsMore classes component text [] = text ≡ []
SpellsMore classes component text (item ∷ items) =
    (front : List ℕ) × (rest : List ℕ) × (text ≡ codes "," ++ (front ++ rest)) × SpellsItemOf classes component front item
    × SpellsMore classes component rest items

-- items with commas between them
abbrev pub SpellsItems : List Class → Comp → List ℕ → List Cell → Type 0
SpellsItems classes component text [] = text ≡ []
SpellsItems classes component text (item ∷ items) =
    (front : List ℕ) × (rest : List ℕ) × (text ≡ front ++ rest) × SpellsItemOf classes component front item × SpellsMore classes component rest items

-- an array: the component type, and between brackets at most 254 items
pub record SpellsArray (classes : List Class) (component : Comp) (items : List Cell) (text : List ℕ) : Type 0 where
  pub front : List ℕ
  pub inside : List ℕ
  pub is : text ≡ front ++ (codes "[" ++ (inside ++ codes "]"))
  pub type : SpellsComponent classes front component
  pub items_are : SpellsItems classes component inside items
  pub few : length items ≤ most_items

-- ---- values

-- which tokens spell a value
abbrev pub Spells : List Class → Value → List ℕ → Type 0
Spells classes (value.Prim n) = SpellsItem classes (cell.Prim n)
Spells classes (value.Boxed n) = SpellsItem classes (cell.Boxed n)
Spells classes (value.Text s) = SpellsItem classes (cell.Text s)
Spells classes (value.Object c k) = SpellsItem classes (cell.Object c k)
Spells classes (value.Thrown e) = SpellsItem classes (cell.Thrown e)
Spells classes (value.Array c items) = Marked (codes "a:") (SpellsArray classes c items)
Spells classes value.Null = SpellsItem classes cell.Null

-- a value that was read is the only one that the token spells; a token that was refused spells none
abbrev pub TellsSpelling : List Class → List ℕ → Result Value LiteralError → Type 0
TellsSpelling classes token (Ok v) = Spells classes v token × ((other : Value) → Spells classes other token → other ≡ v)
TellsSpelling classes token (Err literal_error.NoMemory) = Unit {0}
TellsSpelling classes token (Err literal_error.Bad) = (v : Value) → Spells classes v token → ⊥
