-- The classes that a method descriptor names: those of the types that it spells.
use Rattle.std.specs.Prelude.{◌≡◌, Bool, true, List, [], ◌∷◌, ◌++◌, ℕ, Option, None, Some, is_some, IsTrue}
use Rattle.std.specs.List.{list_all}
use Rattle.mh_values.specs.declared.class.Class.{Class}
use Rattle.mh_values.specs.Classes.{class_named}
use Rattle.mh_values.specs.Spelling.{Element, letter, named, Spelled, IsMethodDescriptor}

-- the class name of a type that is no array, if it has one
abbrev pub element_names : Element → List (List ℕ)
element_names (letter b) = []
element_names (named name) = name ∷ []

-- the class names of types
abbrev pub type_names : List Spelled → List (List ℕ)
type_names [] = []
type_names (t ∷ ts) = element_names t.element ++ type_names ts

-- the class name of a return type
abbrev pub return_names : Option Spelled → List (List ℕ)
return_names None = []
return_names (Some t) = element_names t.element

-- the class names of a method descriptor: those of its parameters, and that of its return type
abbrev pub descriptor_names : {text : List ℕ} → IsMethodDescriptor text → List (List ℕ)
descriptor_names d = type_names d.params ++ return_names d.ret

-- whether each of these names is that of a class
abbrev pub are_classes : List Class → List (List ℕ) → Bool
are_classes classes names = list_all (λ name. is_some (class_named classes name)) names

-- whether the classes that a text names are declared: a method descriptor names those of its types, and any other text names none
pub record KnowsNames (classes : List Class) (text : List ℕ) (known : Bool) : Type 0 where
  pub descriptor : (d : IsMethodDescriptor text) → known ≡ are_classes classes (descriptor_names d)
  pub other : (IsMethodDescriptor text → ⊥) → known ≡ true

-- a method descriptor whose class names are all those of classes
pub record NamesClasses (classes : List Class) (text : List ℕ) : Type 0 where
  pub descriptor : IsMethodDescriptor text
  pub known : IsTrue (are_classes classes (descriptor_names descriptor))
