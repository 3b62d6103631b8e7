-- The built-in classes, by computation.
use Rattle.std.proofs.Common.{◌≡◌, refl, [], ◌∷◌, ◌++◌, true, false, codes, length, map, None, Some}
use Rattle.mh_values.specs.Class.{class_at, class_below, is_subclass, builtin_classes, object_class, integer_class, long_class, boolean_class, string_class, throwable_class, internal_error_class, wrong_method_type_class, class_cast_class, null_pointer_class, illegal_argument_class, arithmetic_class, string_concat_class}
use Rattle.mh_values.specs.Classes.{class_named, name_of}

how_many : length builtin_classes ≡ 28
how_many = refl

object_named : class_named builtin_classes (codes "java/lang/Object") ≡ Some object_class
object_named = refl

integer_named : class_named builtin_classes (codes "java/lang/Integer") ≡ Some integer_class
integer_named = refl

long_named : class_named builtin_classes (codes "java/lang/Long") ≡ Some long_class
long_named = refl

boolean_named : class_named builtin_classes (codes "java/lang/Boolean") ≡ Some boolean_class
boolean_named = refl

string_named : class_named builtin_classes (codes "java/lang/String") ≡ Some string_class
string_named = refl

throwable_named : class_named builtin_classes (codes "java/lang/Throwable") ≡ Some throwable_class
throwable_named = refl

errors_named : map (class_named builtin_classes) (codes "java/lang/InternalError" ∷ codes "java/lang/invoke/WrongMethodTypeException" ∷ codes
    "java/lang/ClassCastException" ∷ []) ≡ Some internal_error_class ∷ Some wrong_method_type_class ∷ Some class_cast_class ∷ []
errors_named = refl

exceptions_named : map (class_named builtin_classes) (codes "java/lang/NullPointerException" ∷ codes "java/lang/IllegalArgumentException" ∷ codes
    "java/lang/ArithmeticException" ∷ []) ≡ Some null_pointer_class ∷ Some illegal_argument_class ∷ Some arithmetic_class ∷ []
exceptions_named = refl

concat_named : class_named builtin_classes (codes "java/lang/invoke/StringConcatException") ≡ Some string_concat_class
concat_named = refl

unknown : class_named builtin_classes (codes "java/lang/Void") ≡ None
unknown = refl

declared : class_named (builtin_classes ++ class_below (codes "demo/Host") 0 ∷ []) (codes "demo/Host") ≡ Some (class_at 28)
declared = refl

its_name : name_of builtin_classes (class_at 20) ≡ codes "java/lang/invoke/WrongMethodTypeException"
its_name = refl

itself_below : is_subclass builtin_classes string_class string_class ≡ true
itself_below = refl

integer_below_object : is_subclass builtin_classes integer_class object_class ≡ true
integer_below_object = refl

internal_error_below_throwable : is_subclass builtin_classes internal_error_class throwable_class ≡ true
internal_error_below_throwable = refl

object_not_below_string : is_subclass builtin_classes object_class string_class ≡ false
object_not_below_string = refl

integer_not_below_long : is_subclass builtin_classes integer_class long_class ≡ false
integer_not_below_long = refl
