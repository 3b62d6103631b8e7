-- The text of a value in a string concatenation (JLS SE 17, 5.1.11 and 15.18.1; `String.valueOf`).
use Rattle.std.specs.Prelude.{ℕ, ◌==◌, nat_lt, nat_le, Bool, true, false, ◌&&◌, if◌then◌else◌, List, [], ◌∷◌, ◌++◌, codes, map}
use Rattle.std.specs.Fmt.{digits, signed_decimal}
use Rattle.mh_base.specs.Ascii.{full_stop, solidus}
use Rattle.mh_values.specs.declared.class.Class.{Class}
use Rattle.mh_values.specs.declared.class.ClassId.{ClassId}
use Rattle.mh_values.specs.declared.types.Comp.{Comp}
use Rattle.mh_values.specs.declared.types.Ty.TheVariants as ty
use Rattle.mh_values.specs.declared.value.Exc.{Exc}
use Rattle.mh_values.specs.declared.value.Num.{Num}
use Rattle.mh_values.specs.declared.value.Num.TheVariants as num
use Rattle.mh_values.specs.declared.value.Value.{Value}
use Rattle.mh_values.specs.declared.value.Value.TheVariants as value
use Rattle.mh_values.specs.Classes.{name_of}
use Rattle.mh_values.specs.TypeText.{type_written}

-- `true` or `false` (`String.valueOf` of a boolean)
abbrev pub bool_text : Bool → List ℕ
bool_text true = codes "true"
bool_text false = codes "false"

-- whether a UTF-16 unit is a half of a surrogate pair (`Character.isSurrogate`)
abbrev pub is_surrogate : ℕ → Bool
is_surrogate unit = nat_le 0xD800 unit && nat_lt unit 0xE000

-- the character of a char; a half of a surrogate pair is here without its other half, so it is U+FFFD, the replacement character
abbrev pub char_of : ℕ → ℕ
char_of unit = if is_surrogate unit then 0xFFFD else unit

-- a number of a primitive type: a boolean as its word, a char as itself, and any other number in decimal (`String.valueOf`)
abbrev pub number_text : Num → List ℕ
number_text (num.Z b) = bool_text b
number_text (num.C n) = char_of n ∷ []
number_text (num.B n) = signed_decimal n
number_text (num.S n) = signed_decimal n
number_text (num.I n) = signed_decimal n
number_text (num.J n) = signed_decimal n

-- a character of a class name in internal form, as `Class.getName` has it: a dot for a slash (JVMS SE 17, 4.2.1)
abbrev pub dotted_char : ℕ → ℕ
dotted_char b = if b == solidus then full_stop else b

-- the name of a class with dots for slashes (`Class.getName`)
abbrev pub dotted_name : List Class → ClassId → List ℕ
dotted_name classes c = map dotted_char (name_of classes c)

-- a number in lower-case hexadecimal, without a sign (`Integer.toHexString`)
abbrev pub hexadecimal : ℕ → List ℕ
hexadecimal n = digits 16 false n

-- an object: the name of its class, and its own number, as `Object.toString` has them with a hash code for the number
abbrev pub object_text : List Class → ClassId → ℕ → List ℕ
object_text classes c n = dotted_name classes c ++ codes "@" ++ hexadecimal n

-- what follows the class of an exception: its message, if that is not empty
abbrev pub message_text : List ℕ → List ℕ
message_text [] = []
message_text (c ∷ cs) = codes ": " ++ c ∷ cs

-- an exception: the name of its class, and its message (`Throwable.toString`); its cause is not shown
abbrev pub thrown_text : List Class → Exc → List ℕ
thrown_text classes e = dotted_name classes e.class ++ message_text e.message

-- an array: the name of its class (`Class.getName`), and 0, since an array has no number
abbrev pub array_text : List Class → Comp → List ℕ
array_text classes c = type_written (dotted_name classes) (ty.Array c) ++ codes "@0"

-- a value
abbrev pub text_of : List Class → Value → List ℕ
text_of classes (value.Prim n) = number_text n
text_of classes (value.Boxed n) = number_text n
text_of classes (value.Text s) = s
text_of classes (value.Object c n) = object_text classes c n
text_of classes (value.Thrown e) = thrown_text classes e
text_of classes (value.Array c items) = array_text classes c
text_of classes value.Null = codes "null"
