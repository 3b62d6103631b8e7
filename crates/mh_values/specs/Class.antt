-- Classes: a list in which each class names its superclass by its number.
use Rattle.std.specs.Prelude.{◌≡◌, ℕ, zero, suc, ◌==◌, Bool, false, ◌||◌, List, [], ◌∷◌, codes, length, Option, None, Some, slice_get}
use Rattle.std.specs.Option.{option_map_or}
use Rattle.mh_values.specs.declared.class.Class.{Class}
use Rattle.mh_values.specs.declared.class.ClassId.{ClassId}

-- the class of a number
abbrev pub class_at : ℕ → ClassId
class_at n = record { 0 = n }

-- the superclass of a class of the list
abbrev pub superclass_of : List Class → ClassId → Option ClassId
superclass_of classes c = option_map_or (λ class. class.superclass) (slice_get classes c.0) None

-- b is a, or superclasses lead from a to b
pub data IsSubclass (classes : List Class) : ClassId → ClassId → Type 0 where
  itself : {a : ClassId} → IsSubclass classes a a
  above : {a b c : ClassId} → superclass_of classes a ≡ Some b → IsSubclass classes b c → IsSubclass classes a c

-- the same as a test that looks this many classes up
abbrev pub reaches_within : ℕ → List Class → ClassId → ClassId → Bool
reaches_within zero classes a b = a.0 == b.0
reaches_within (suc steps) classes a b = a.0 == b.0 || option_map_or (λ c. reaches_within steps classes c b) (superclass_of classes a) false

-- whether a class is another one or below it; no way up is longer than the list
abbrev pub is_subclass : List Class → ClassId → ClassId → Bool
is_subclass classes a b = reaches_within (length classes) classes a b

-- `java/lang/Object`, which is built in with the number 0, and so on for those below
abbrev pub object_class : ClassId
object_class = class_at 0

-- `java/lang/Integer`
abbrev pub integer_class : ClassId
integer_class = class_at 2

-- `java/lang/Long`
abbrev pub long_class : ClassId
long_class = class_at 3

-- `java/lang/Byte`
abbrev pub byte_class : ClassId
byte_class = class_at 4

-- `java/lang/Short`
abbrev pub short_class : ClassId
short_class = class_at 5

-- `java/lang/Boolean`
abbrev pub boolean_class : ClassId
boolean_class = class_at 6

-- `java/lang/Character`
abbrev pub character_class : ClassId
character_class = class_at 7

-- `java/lang/String`
abbrev pub string_class : ClassId
string_class = class_at 8

-- `java/lang/Throwable`
abbrev pub throwable_class : ClassId
throwable_class = class_at 9

-- `java/lang/InternalError`
abbrev pub internal_error_class : ClassId
internal_error_class = class_at 19

-- `java/lang/invoke/WrongMethodTypeException`
abbrev pub wrong_method_type_class : ClassId
wrong_method_type_class = class_at 20

-- `java/lang/ClassCastException`
abbrev pub class_cast_class : ClassId
class_cast_class = class_at 21

-- `java/lang/NullPointerException`
abbrev pub null_pointer_class : ClassId
null_pointer_class = class_at 22

-- `java/lang/IllegalArgumentException`
abbrev pub illegal_argument_class : ClassId
illegal_argument_class = class_at 23

-- `java/lang/ArithmeticException`
abbrev pub arithmetic_class : ClassId
arithmetic_class = class_at 24

-- `java/lang/invoke/StringConcatException`
abbrev pub string_concat_class : ClassId
string_concat_class = class_at 26

-- a class below another one
abbrev pub class_below : List ℕ → ℕ → Class
class_below name superclass = record { name = name; superclass = Some (class_at superclass) }

-- the classes that are built in, numbered from 0
abbrev pub builtin_classes : List Class
builtin_classes =
    record { name = codes "java/lang/Object"; superclass = None }
    ∷ class_below (codes "java/lang/Number") 0
    ∷ class_below (codes "java/lang/Integer") 1
    ∷ class_below (codes "java/lang/Long") 1
    ∷ class_below (codes "java/lang/Byte") 1
    ∷ class_below (codes "java/lang/Short") 1
    ∷ class_below (codes "java/lang/Boolean") 0
    ∷ class_below (codes "java/lang/Character") 0
    ∷ class_below (codes "java/lang/String") 0
    ∷ class_below (codes "java/lang/Throwable") 0
    ∷ class_below (codes "java/lang/Exception") 9
    ∷ class_below (codes "java/lang/RuntimeException") 10
    ∷ class_below (codes "java/lang/Error") 9
    ∷ class_below (codes "java/lang/LinkageError") 12
    ∷ class_below (codes "java/lang/BootstrapMethodError") 13
    ∷ class_below (codes "java/lang/NoClassDefFoundError") 13
    ∷ class_below (codes "java/lang/IncompatibleClassChangeError") 13
    ∷ class_below (codes "java/lang/NoSuchMethodError") 16
    ∷ class_below (codes "java/lang/VirtualMachineError") 12
    ∷ class_below (codes "java/lang/InternalError") 18
    ∷ class_below (codes "java/lang/invoke/WrongMethodTypeException") 11
    ∷ class_below (codes "java/lang/ClassCastException") 11
    ∷ class_below (codes "java/lang/NullPointerException") 11
    ∷ class_below (codes "java/lang/IllegalArgumentException") 11
    ∷ class_below (codes "java/lang/ArithmeticException") 11
    ∷ class_below (codes "java/lang/UnsupportedOperationException") 11
    ∷ class_below (codes "java/lang/invoke/StringConcatException") 10
    ∷ class_below (codes "java/lang/StackOverflowError") 18
    ∷ []
