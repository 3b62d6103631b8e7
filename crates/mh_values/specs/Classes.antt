-- Lists of classes: which class has a name, and what holds of each list of classes.
use Rattle.std.specs.Prelude.{◌≡◌, ℕ, ◌+◌, ◌<◌, ◌≤◌, List, [], ◌∷◌, length, take, Option, None, Some, slice_get, if◌then◌else◌}
use Rattle.std.specs.Option.{option_map_or}
use Rattle.std.specs.Str.{bytes_eq}
use Rattle.mh_values.specs.declared.class.Class.{Class}
use Rattle.mh_values.specs.declared.class.ClassId.{ClassId}
use Rattle.mh_values.specs.Class.{class_at, superclass_of, builtin_classes}

-- the name of a class of the list
abbrev pub name_of : List Class → ClassId → List ℕ
name_of classes c = option_map_or (λ class. class.name) (slice_get classes c.0) []

-- the first class of a name, in a list that is counted from a number
abbrev pub named_from : ℕ → List Class → List ℕ → Option ClassId
named_from n [] name = None
named_from n (class ∷ classes) name = if bytes_eq class.name name then Some (class_at n) else named_from (n + 1) classes name

-- the class of a name, if the list has one
abbrev pub class_named : List Class → List ℕ → Option ClassId
class_named classes name = named_from 0 classes name

-- a class, by its name and its superclass
abbrev pub class_of : List ℕ → Option ClassId → Class
class_of name superclass = record { name = name; superclass = superclass }

-- each class stands after its superclass
abbrev pub IsAscending : List Class → Type 0
IsAscending classes = (a b : ClassId) → superclass_of classes a ≡ Some b → b.0 < a.0

-- no two classes have the same name: each class is the one that its name finds
abbrev pub IsDistinct : List Class → Type 0
IsDistinct classes = (c : ClassId) → c.0 < length classes → class_named classes (name_of classes c) ≡ Some c

-- classes in order: each after its superclass, and no two with the same name
pub record AreOrdered (classes : List Class) : Type 0 where
  pub ascending : IsAscending classes
  pub distinct : IsDistinct classes

-- as many classes as are built in, and as many as may be declared after them
abbrev pub most_classes : ℕ
most_classes = 28 + 1024

-- what holds of each list of classes: the built-in ones come first
pub record AreClasses (classes : List Class) : Type 0 where
  pub builtin : take 28 classes ≡ builtin_classes
  pub few : length classes ≤ most_classes
  pub ordered : AreOrdered classes
