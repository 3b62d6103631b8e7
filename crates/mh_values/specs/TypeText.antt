-- Types as descriptors (JVMS SE 17, 4.3.2 and 4.3.3), also if the names of classes are written in another way.
use Rattle.std.specs.Prelude.{ℕ, List, [], ◌∷◌, ◌++◌, codes, flat_map, Option, Some, None}
use Rattle.mh_values.specs.declared.class.Class.{Class}
use Rattle.mh_values.specs.declared.class.ClassId.{ClassId}
use Rattle.mh_values.specs.declared.types.Primitive.{Primitive}
use Rattle.mh_values.specs.declared.types.Comp.{Comp}
use Rattle.mh_values.specs.declared.types.Comp.TheVariants as comp
use Rattle.mh_values.specs.declared.types.Ty.{Ty}
use Rattle.mh_values.specs.declared.types.Ty.TheVariants as ty
use Rattle.mh_values.specs.declared.types.MethodTy.{MethodTy}
use Rattle.mh_values.specs.Classes.{name_of}
use Rattle.mh_values.specs.Primitives.{letter_of}

-- a primitive type, by its letter
abbrev pub primitive_text : Primitive → List ℕ
primitive_text p = letter_of p ∷ []

-- ---- by what is written as the name of a class

-- a class
abbrev pub class_written : (ClassId → List ℕ) → ClassId → List ℕ
class_written name c = codes "L" ++ name c ++ codes ";"

-- the items of an array
abbrev pub component_written : (ClassId → List ℕ) → Comp → List ℕ
component_written name (comp.Prim p) = primitive_text p
component_written name (comp.Class c) = class_written name c

-- a type
abbrev pub type_written : (ClassId → List ℕ) → Ty → List ℕ
type_written name (ty.Prim p) = primitive_text p
type_written name (ty.Class c) = class_written name c
type_written name (ty.Array c) = codes "[" ++ component_written name c

-- a return type
abbrev pub return_written : (ClassId → List ℕ) → Option Ty → List ℕ
return_written name None = codes "V"
return_written name (Some t) = type_written name t

-- a method type
abbrev pub method_type_written : (ClassId → List ℕ) → MethodTy → List ℕ
method_type_written name t = codes "(" ++ flat_map (type_written name) t.params ++ codes ")" ++ return_written name t.ret

-- ---- by the names of classes themselves

-- a class in a descriptor
abbrev pub class_text : List Class → ClassId → List ℕ
class_text classes = class_written (name_of classes)

-- the descriptor of the items of an array
abbrev pub component_text : List Class → Comp → List ℕ
component_text classes = component_written (name_of classes)

-- the descriptor of a type
abbrev pub type_text : List Class → Ty → List ℕ
type_text classes = type_written (name_of classes)

-- the descriptor of a return type
abbrev pub return_text : List Class → Option Ty → List ℕ
return_text classes = return_written (name_of classes)

-- the descriptor of a method type
abbrev pub method_type_text : List Class → MethodTy → List ℕ
method_type_text classes = method_type_written (name_of classes)
