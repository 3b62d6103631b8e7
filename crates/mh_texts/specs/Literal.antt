-- Literals of values: what they are read as.
use Rattle.std.specs.Prelude.{◌≡◌, ℕ, ◌+◌, ◌-◌, ◌==◌, nat_le, Bool, true, false, ◌&&◌, ◌||◌, if◌then◌else◌, List, [], ◌∷◌, codes, length, take, drop, Option, None, Some, Result, Ok, Err, option_map, option_and_then}
use Rattle.std.specs.List.{slice_split}
use Rattle.std.specs.Str.{bytes_eq}
use Rattle.mh_base.specs.Ascii.{colon, comma, left_bracket, number_sign, small_a, small_b, small_c, small_h, small_i, small_j, small_o, small_s, small_x, small_z}
use Rattle.mh_base.specs.Lines.{cut_at}
use Rattle.mh_values.specs.declared.class.Class.{Class}
use Rattle.mh_values.specs.declared.class.ClassId.{ClassId}
use Rattle.mh_values.specs.declared.descriptor.DescriptorError.{DescriptorError}
use Rattle.mh_values.specs.declared.types.Primitive.{Primitive}
use Rattle.mh_values.specs.declared.types.Primitive.TheVariants as primitive
use Rattle.mh_values.specs.declared.types.Comp.{Comp}
use Rattle.mh_values.specs.declared.types.Comp.TheVariants as comp
use Rattle.mh_values.specs.declared.types.Ty.{Ty}
use Rattle.mh_values.specs.declared.types.Ty.TheVariants as ty
use Rattle.mh_values.specs.declared.value.Num.{Num}
use Rattle.mh_values.specs.declared.value.Num.TheVariants as num
use Rattle.mh_values.specs.declared.value.Cell.{Cell}
use Rattle.mh_values.specs.declared.value.Cell.TheVariants as cell
use Rattle.mh_values.specs.declared.value.Value.{Value}
use Rattle.mh_values.specs.declared.value.Value.TheVariants as value
use Rattle.mh_values.specs.Array.{value_of_item}
use Rattle.mh_values.specs.Class.{is_subclass, throwable_class}
use Rattle.mh_values.specs.Classes.{class_named}
use Rattle.mh_values.specs.Descriptor.{type_desc}
use Rattle.mh_values.specs.Exception.{bare}
use Rattle.mh_values.specs.HasType.{is_item_of}
use Rattle.mh_values.specs.Primitives.{number_as}
use Rattle.mh_values.specs.ValueLimits.{most_items}
use Rattle.mh_texts.specs.declared.literal.LiteralError.{LiteralError}
use Rattle.mh_texts.specs.declared.literal.LiteralError.TheVariants as literal_error
use Rattle.mh_texts.specs.Number.{long_of, unsigned_of}
use Rattle.mh_texts.specs.Escapes.{text_of}

-- ---- numbers

-- `true` or `false`
abbrev pub bool_of : List ℕ → Option Bool
bool_of text = if bytes_eq text (codes "true") then Some true else (if bytes_eq text (codes "false") then Some false else None)

-- the primitive type whose numbers follow a letter
abbrev pub primitive_marked : ℕ → Option Primitive
primitive_marked letter =
    if letter == small_z then Some primitive.Z
    else (if letter == small_b then Some primitive.B
    else (if letter == small_c then Some primitive.C
    else (if letter == small_h then Some primitive.S
    else (if letter == small_i then Some primitive.I
    else (if letter == small_j then Some primitive.J else None)))))

-- a number of a primitive type in decimal, if it is in the range
abbrev pub integer_meant : Primitive → List ℕ → Option Num
integer_meant p text = option_and_then (number_as p) (long_of text)

-- a number of a primitive type: of boolean by its word, of any other type in decimal
abbrev pub number_meant : Primitive → List ℕ → Option Num
number_meant primitive.Z text = option_map num.Z (bool_of text)
number_meant primitive.B text = integer_meant primitive.B text
number_meant primitive.C text = integer_meant primitive.C text
number_meant primitive.S text = integer_meant primitive.S text
number_meant primitive.I text = integer_meant primitive.I text
number_meant primitive.J text = integer_meant primitive.J text

-- a number of the primitive type whose numbers follow the letter
abbrev pub marked_number : ℕ → List ℕ → Option Num
marked_number letter text = option_and_then (λ p. number_meant p text) (primitive_marked letter)

-- ---- objects and exceptions

-- a class whose values have literals of their own: String and the six wrappers, which are built in with the numbers 2 to 8, and the exceptions
abbrev pub has_own_literal : List Class → ClassId → Bool
has_own_literal classes c = (nat_le 2 c.0 && nat_le c.0 8) || is_subclass classes c throwable_class

-- an object of a class
abbrev pub if_object : List Class → ℕ → ClassId → Option Cell
if_object classes k c = if has_own_literal classes c then None else Some (cell.Object c k)

-- `CLASS#N`
abbrev pub object_of : List Class → List ℕ → Option Cell
object_of classes text =
    option_and_then (λ parts.
    option_and_then (λ c. option_and_then (λ k. if_object classes k c) (unsigned_of parts.1)) (class_named classes parts.0)) (cut_at number_sign text)

-- an exception of a class, with an empty message
abbrev pub if_exception : List Class → ClassId → Option Cell
if_exception classes c = if is_subclass classes c throwable_class then Some (cell.Thrown (bare c)) else None

-- `CLASS` of an exception
abbrev pub exception_of : List Class → List ℕ → Option Cell
exception_of classes text = option_and_then (if_exception classes) (class_named classes text)

-- ---- items

-- what follows a letter and a colon: `z b c h i j` are numbers, `Z B C H I J` boxed ones, `s` is a text, `o` an object, `x` an exception
abbrev pub tagged : List Class → ℕ → List ℕ → Option Cell
tagged classes letter text =
    if letter == small_s then option_map cell.Text (text_of text)
    else (if letter == small_o then object_of classes text
    else (if letter == small_x then exception_of classes text
    else (if nat_le small_a letter then option_map cell.Prim (marked_number letter text)
    else option_map cell.Boxed (marked_number (letter + 32) text))))

-- a literal that is no array
abbrev pub item_of : List Class → List ℕ → Option Cell
item_of classes [] = None
item_of classes (b ∷ []) = None
item_of classes (letter ∷ b ∷ text) =
    if b == colon then tagged classes letter text
    else (if bytes_eq (letter ∷ b ∷ text) (codes "null") then Some cell.Null else None)

-- ---- arrays

-- a type that items may have
abbrev pub component_of : Result Ty DescriptorError → Option Comp
component_of (Ok (ty.Prim p)) = Some (comp.Prim p)
component_of (Ok (ty.Class c)) = Some (comp.Class c)
component_of _ = None

-- an item that has the component's type
abbrev pub if_item : List Class → Comp → Cell → Option Cell
if_item classes component item = if is_item_of classes component item then Some item else None

-- items, each of which has the component's type
abbrev pub items_of : List Class → Comp → List (List ℕ) → Option (List Cell)
items_of classes component [] = Some []
items_of classes component (text ∷ texts) =
    option_and_then (λ item. option_map (λ items. item ∷ items) (items_of classes component texts)) (option_and_then (if_item classes component)
    (item_of classes text))

-- the items between the brackets; commas separate them
abbrev pub listed : List Class → Comp → List ℕ → Option (List Cell)
listed classes component [] = Some []
listed classes component (b ∷ bs) = items_of classes component (slice_split (λ c. c == comma) (b ∷ bs))

-- at most 254 items
abbrev pub if_few : Comp → List Cell → Option Value
if_few component items = if nat_le (length items) most_items then Some (value.Array component items) else None

-- a text that ends with `]`, without it
abbrev pub unclosed : List ℕ → Option (List ℕ)
unclosed text = if bytes_eq (drop (length text - 1) text) (93 ∷ []) then Some (take (length text - 1) text) else None

-- `COMP[ITEM,ITEM]`
abbrev pub array_of_literal : List Class → List ℕ → Option Value
array_of_literal classes text =
    option_and_then (λ parts.
    option_and_then (λ component.
    option_and_then (λ inside. option_and_then (if_few component) (listed classes component inside)) (unclosed parts.1))
    (component_of (type_desc classes parts.0))) (cut_at left_bracket text)

-- ---- values

-- the value of a token, if it is a literal
abbrev pub literal_of : List Class → List ℕ → Option Value
literal_of classes token =
    if bytes_eq (take 2 token) (codes "a:") then array_of_literal classes (drop 2 token)
    else option_map value_of_item (item_of classes token)

-- the answer is the meaning of the token, or that it has none, unless memory ran out
abbrev pub TellsLiteral : {A : Type 0} → Result A LiteralError → Option A → Type 0
TellsLiteral (Ok a) meant = meant ≡ Some a
TellsLiteral (Err literal_error.NoMemory) meant = Unit {0}
TellsLiteral (Err literal_error.Bad) meant = meant ≡ None
