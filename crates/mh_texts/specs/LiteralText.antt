-- Values as literals, also if the names of classes are written in another way.
use Rattle.std.specs.Prelude.{ℕ, ◌-◌, List, [], ◌∷◌, ◌++◌, codes, flat_map, Bool, true, false}
use Rattle.std.specs.Fmt.{decimal, signed_decimal}
use Rattle.mh_base.specs.Ascii.{colon, small_b, small_c, small_h, small_i, small_j, small_z}
use Rattle.mh_values.specs.declared.class.Class.{Class}
use Rattle.mh_values.specs.declared.class.ClassId.{ClassId}
use Rattle.mh_values.specs.declared.types.Primitive.{Primitive}
use Rattle.mh_values.specs.declared.types.Primitive.TheVariants as primitive
use Rattle.mh_values.specs.declared.types.Comp.{Comp}
use Rattle.mh_values.specs.declared.value.Num.{Num}
use Rattle.mh_values.specs.declared.value.Num.TheVariants as num
use Rattle.mh_values.specs.declared.value.Exc.{Exc}
use Rattle.mh_values.specs.declared.value.Cell.{Cell}
use Rattle.mh_values.specs.declared.value.Cell.TheVariants as cell
use Rattle.mh_values.specs.declared.value.Value.{Value}
use Rattle.mh_values.specs.declared.value.Value.TheVariants as value
use Rattle.mh_values.specs.Classes.{name_of}
use Rattle.mh_values.specs.Primitives.{primitive_of}
use Rattle.mh_values.specs.TypeText.{component_written}
use Rattle.mh_texts.specs.Text.{escaped}

-- ---- numbers and texts

-- `true` or `false`
abbrev pub bool_text : Bool → List ℕ
bool_text true = codes "true"
bool_text false = codes "false"

-- the letter before the numbers of a primitive type: that of the descriptor, but small, and `h` for short, since `s` stands before texts
abbrev pub mark_of : Primitive → ℕ
mark_of primitive.Z = small_z
mark_of primitive.B = small_b
mark_of primitive.C = small_c
mark_of primitive.S = small_h
mark_of primitive.I = small_i
mark_of primitive.J = small_j

-- what comes before a number
abbrev pub number_mark : Num → List ℕ
number_mark n = mark_of (primitive_of n) ∷ colon ∷ []

-- what comes before a boxed number: the letter is a capital
abbrev pub boxed_mark : Num → List ℕ
boxed_mark n = (mark_of (primitive_of n) - 32) ∷ colon ∷ []

-- a number without what comes before it
abbrev pub number_text : Num → List ℕ
number_text (num.Z b) = bool_text b
number_text (num.B n) = signed_decimal n
number_text (num.C n) = decimal n
number_text (num.S n) = signed_decimal n
number_text (num.I n) = signed_decimal n
number_text (num.J n) = signed_decimal n

-- a number of a primitive type
abbrev pub prim_text : Num → List ℕ
prim_text n = number_mark n ++ number_text n

-- a boxed number
abbrev pub boxed_text : Num → List ℕ
boxed_text n = boxed_mark n ++ number_text n

-- a text
abbrev pub string_text : List ℕ → List ℕ
string_text s = codes "s:" ++ escaped s

-- ---- by what is written as the name of a class

-- an object
abbrev pub object_written : (ClassId → List ℕ) → ClassId → ℕ → List ℕ
object_written name c k = codes "o:" ++ name c ++ codes "#" ++ decimal k

-- an exception as a value: its class alone
abbrev pub exception_written : (ClassId → List ℕ) → Exc → List ℕ
exception_written name e = codes "x:" ++ name e.class

-- an item of an array
abbrev pub item_written : (ClassId → List ℕ) → Cell → List ℕ
item_written name (cell.Prim n) = prim_text n
item_written name (cell.Boxed n) = boxed_text n
item_written name (cell.Text s) = string_text s
item_written name (cell.Object c k) = object_written name c k
item_written name (cell.Thrown e) = exception_written name e
item_written name cell.Null = codes "null"

-- items with a comma between them: each but the first has one before it
abbrev pub items_written : (ClassId → List ℕ) → List Cell → List ℕ
items_written name [] = []
items_written name (item ∷ items) = item_written name item ++ flat_map (λ other. codes "," ++ item_written name other) items

-- an array
abbrev pub array_written : (ClassId → List ℕ) → Comp → List Cell → List ℕ
array_written name c items = codes "a:" ++ component_written name c ++ codes "[" ++ items_written name items ++ codes "]"

-- a value
abbrev pub value_written : (ClassId → List ℕ) → Value → List ℕ
value_written name (value.Prim n) = prim_text n
value_written name (value.Boxed n) = boxed_text n
value_written name (value.Text s) = string_text s
value_written name (value.Object c k) = object_written name c k
value_written name (value.Thrown e) = exception_written name e
value_written name (value.Array c items) = array_written name c items
value_written name value.Null = codes "null"

-- ---- by the names of classes themselves

-- the literal of a value
abbrev pub literal_text : List Class → Value → List ℕ
literal_text classes = value_written (name_of classes)
