-- Literals, by computation.
use Rattle.std.proofs.Common.{◌≡◌, refl, [], ◌∷◌, codes, pos, negsuc, true, None, Some}
use Rattle.std.specs.Fmt.{digits}
use Rattle.mh_values.specs.declared.types.Comp.TheVariants as comp
use Rattle.mh_values.specs.declared.types.Primitive.TheVariants as primitive
use Rattle.mh_values.specs.declared.value.Cell.TheVariants as cell
use Rattle.mh_values.specs.declared.value.Num.TheVariants as num
use Rattle.mh_values.specs.declared.value.Value.TheVariants as value
use Rattle.mh_values.specs.Class.{class_at, builtin_classes, object_class, string_class, throwable_class}
use Rattle.mh_values.specs.Exception.{bare}
use Rattle.mh_texts.specs.Literal.{literal_of}
use Rattle.mh_texts.specs.Escapes.{text_of}

truth : literal_of builtin_classes (codes "z:true") ≡ Some (value.Prim (num.Z true))
truth = refl

negative : literal_of builtin_classes (codes "i:-12") ≡ Some (value.Prim (num.I (negsuc 11)))
unfolding digits
negative = refl

signed_zero : literal_of builtin_classes (codes "i:-0") ≡ Some (value.Prim (num.I (pos 0)))
unfolding digits
signed_zero = refl

needless_zero : literal_of builtin_classes (codes "i:01") ≡ None
unfolding digits
needless_zero = refl

plus : literal_of builtin_classes (codes "i:+1") ≡ None
unfolding digits
plus = refl

least_int : literal_of builtin_classes (codes "i:-2147483648") ≡ Some (value.Prim (num.I (negsuc 2147483647)))
unfolding digits
least_int = refl

past_int : literal_of builtin_classes (codes "i:2147483648") ≡ None
unfolding digits
past_int = refl

boxed_long : literal_of builtin_classes (codes "J:9223372036854775807") ≡ Some (value.Boxed (num.J (pos 9223372036854775807)))
unfolding digits
boxed_long = refl

text_with_escapes : literal_of builtin_classes (codes "s:a\\sb\\c\\n\\\\\\u{41}") ≡ Some (value.Text (97 ∷ 32 ∷ 98 ∷ 44 ∷ 10 ∷ 92 ∷ 65 ∷ []))
text_with_escapes = refl

text_with_a_comma : literal_of builtin_classes (codes "s:a,b") ≡ Some (value.Text (codes "a,b"))
text_with_a_comma = refl

surrogate : text_of (codes "\\u{d800}") ≡ None
surrogate = refl

last_character : text_of (codes "\\u{10ffff}") ≡ Some (0x10FFFF ∷ [])
last_character = refl

past_the_last : text_of (codes "\\u{110000}") ≡ None
past_the_last = refl

leading_zeros : text_of (codes "\\u{000041}") ≡ Some (65 ∷ [])
leading_zeros = refl

seven_digits : text_of (codes "\\u{0000041}") ≡ None
seven_digits = refl

capital_digit : text_of (codes "\\u{4A}") ≡ None
capital_digit = refl

no_digit : text_of (codes "\\u{}") ≡ None
no_digit = refl

cut_escape : text_of (codes "a\\") ≡ None
cut_escape = refl

unknown_escape : text_of (codes "\\t") ≡ None
unknown_escape = refl

nothing : literal_of builtin_classes (codes "null") ≡ Some value.Null
nothing = refl

object : literal_of builtin_classes (codes "o:java/lang/Object#7") ≡ Some (value.Object object_class 7)
unfolding digits
object = refl

number_is_no_wrapper : literal_of builtin_classes (codes "o:java/lang/Number#4294967295") ≡ Some (value.Object (class_at 1) 4294967295)
unfolding digits
number_is_no_wrapper = refl

no_object_of_string : literal_of builtin_classes (codes "o:java/lang/String#1") ≡ None
unfolding digits
no_object_of_string = refl

no_object_of_byte : literal_of builtin_classes (codes "o:java/lang/Byte#1") ≡ None
unfolding digits
no_object_of_byte = refl

no_object_below_throwable : literal_of builtin_classes (codes "o:java/lang/Error#1") ≡ None
unfolding digits
no_object_below_throwable = refl

object_number_with_sign : literal_of builtin_classes (codes "o:java/lang/Object#-0") ≡ None
unfolding digits
object_number_with_sign = refl

object_without_number : literal_of builtin_classes (codes "o:java/lang/Object") ≡ None
object_without_number = refl

exception : literal_of builtin_classes (codes "x:java/lang/Throwable") ≡ Some (value.Thrown (bare throwable_class))
exception = refl

no_exception : literal_of builtin_classes (codes "x:java/lang/Object") ≡ None
no_exception = refl

unknown_class : literal_of builtin_classes (codes "x:no/Such") ≡ None
unknown_class = refl

ints : literal_of builtin_classes (codes "a:I[i:1,i:2]") ≡ Some (value.Array (comp.Prim primitive.I) (cell.Prim (num.I (pos 1)) ∷ cell.Prim (num.I (pos 2)) ∷
    []))
unfolding digits
ints = refl

no_items : literal_of builtin_classes (codes "a:Ljava/lang/String;[]") ≡ Some (value.Array (comp.Class string_class) [])
no_items = refl

text_with_comma_within : literal_of builtin_classes (codes "a:Ljava/lang/Object;[s:a\\cb,null,s:]]") ≡ Some
    (value.Array (comp.Class object_class) (cell.Text (codes "a,b") ∷ cell.Null ∷ cell.Text (codes "]") ∷ []))
text_with_comma_within = refl

item_of_another_type : literal_of builtin_classes (codes "a:I[j:1]") ≡ None
unfolding digits
item_of_another_type = refl

nested : literal_of builtin_classes (codes "a:Ljava/lang/Object;[a:I[]]") ≡ None
nested = refl

empty_item : literal_of builtin_classes (codes "a:I[i:1,]") ≡ None
unfolding digits
empty_item = refl

unclosed_array : literal_of builtin_classes (codes "a:I[i:1]x") ≡ None
unfolding digits
unclosed_array = refl

left_out : literal_of builtin_classes (codes "a:F[]") ≡ None
left_out = refl

no_literal : literal_of builtin_classes (codes "q:1") ≡ None
no_literal = refl
