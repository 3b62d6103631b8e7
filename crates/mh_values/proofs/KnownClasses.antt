-- Each constant of a class's number is the class of its name, among the built-in classes.
use Rattle.std.proofs.Common.{◌≡◌, refl, [], ◌∷◌, codes, map, Some}
use Rattle.mh_values.specs.declared.class.TheConstants.ClassId as known
use Rattle.mh_values.specs.Class.{builtin_classes}
use Rattle.mh_values.specs.Classes.{class_named}

values : map (class_named builtin_classes) (codes "java/lang/Object" ∷ codes "java/lang/Integer" ∷ codes "java/lang/Long" ∷ codes "java/lang/Byte" ∷ codes
    "java/lang/Short" ∷ codes "java/lang/Boolean" ∷ codes "java/lang/Character" ∷ codes "java/lang/String" ∷ []) ≡ Some known.OBJECT ∷ Some known.INTEGER ∷
    Some known.LONG ∷ Some known.BYTE ∷ Some known.SHORT ∷ Some known.BOOLEAN ∷ Some known.CHARACTER ∷ Some known.STRING ∷ []
values = refl

throwables : map (class_named builtin_classes) (codes "java/lang/Throwable" ∷ codes "java/lang/Exception" ∷ codes "java/lang/RuntimeException" ∷ codes
    "java/lang/Error" ∷ []) ≡ Some known.THROWABLE ∷ Some known.EXCEPTION ∷ Some known.RUNTIME_EXCEPTION ∷ Some known.ERROR ∷ []
throwables = refl

linkage_errors : map (class_named builtin_classes) (codes "java/lang/BootstrapMethodError" ∷ codes "java/lang/NoClassDefFoundError" ∷ codes
    "java/lang/NoSuchMethodError" ∷ []) ≡ Some known.BOOTSTRAP_METHOD_ERROR ∷ Some known.NO_CLASS_DEF_FOUND ∷ Some known.NO_SUCH_METHOD ∷ []
linkage_errors = refl

machine_errors : map (class_named builtin_classes) (codes "java/lang/InternalError" ∷ codes "java/lang/StackOverflowError" ∷ []) ≡ Some known.INTERNAL_ERROR
    ∷ Some known.STACK_OVERFLOW ∷ []
machine_errors = refl

exceptions : map (class_named builtin_classes) (codes "java/lang/ClassCastException" ∷ codes "java/lang/NullPointerException" ∷ codes
    "java/lang/IllegalArgumentException" ∷ codes "java/lang/ArithmeticException" ∷ codes "java/lang/UnsupportedOperationException" ∷ []) ≡ Some known.CLASS_CAST
    ∷ Some known.NULL_POINTER ∷ Some known.ILLEGAL_ARGUMENT ∷ Some known.ARITHMETIC ∷ Some known.UNSUPPORTED_OPERATION ∷ []
exceptions = refl

of_invoke : map (class_named builtin_classes) (codes "java/lang/invoke/WrongMethodTypeException" ∷ codes "java/lang/invoke/StringConcatException" ∷ []) ≡
    Some known.WRONG_METHOD_TYPE ∷ Some known.STRING_CONCAT ∷ []
of_invoke = refl
