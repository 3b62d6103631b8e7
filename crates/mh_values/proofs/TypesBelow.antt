-- A reference type is below another one exactly where each of its values has the other.
use Rattle.std.proofs.Common.{◌≡◌, refl, ◌==◌, true, List, [], IsTrue, ◌↔◌}
use Rattle.std.proofs.lemmas.Bool.{and_parts, and_from}
use Rattle.mh_values.specs.declared.class.Class.{Class}
use Rattle.mh_values.specs.declared.types.Ty.{Ty}
use Rattle.mh_values.specs.declared.types.Ty.TheVariants as ty
use Rattle.mh_values.specs.declared.value.Value.{Value}
use Rattle.mh_values.specs.declared.value.Value.TheVariants as value
use Rattle.mh_values.specs.Classes.{AreClasses}
use Rattle.mh_values.specs.HasType.{is_component_below, has_type, is_type_below}
use Rattle.mh_values.proofs.BelowTypes.{component_below-itself, value-below}
use Rattle.mh_values.proofs.Subclasses.{is_subclass-itself}

-- a class or an array type
abbrev pub IsReference : Ty → Type 0
IsReference (ty.Prim p) = ⊥
IsReference (ty.Class c) = Unit {0}
IsReference (ty.Array c) = Unit {0}

-- a type above which each value of a type is, is above the type
type_down : (classes : List Class) (s t : Ty) → IsReference s → IsReference t → ((v : Value) → has_type classes v s ≡ true → has_type classes v t ≡ true) →
    is_type_below classes s t ≡ true
type_down classes (ty.Class c) (ty.Class d) r q all = all (value.Object c 0) (is_subclass-itself classes c)
type_down classes (ty.Class c) (ty.Array d) r q all = all (value.Object c 0) (is_subclass-itself classes c)
type_down classes (ty.Array c) (ty.Class d) r q all =
    (and_parts (d.0 == 0) true (all (value.Array c []) (and_from (is_component_below classes c c) true (component_below-itself classes c) refl))).0
type_down classes (ty.Array c) (ty.Array d) r q all =
    (and_parts (is_component_below classes c d) true (all (value.Array c []) (and_from (is_component_below classes c c) true (component_below-itself classes c)
    refl))).0
type_down classes (ty.Prim p) t r q all = absurd r
type_down classes (ty.Class c) (ty.Prim p) r q all = absurd q
type_down classes (ty.Array c) (ty.Prim p) r q all = absurd q

pub is_type_below-law : (classes : List Class) → AreClasses classes → (s t : Ty) → IsReference s → IsReference t →
    IsTrue (is_type_below classes s t) ↔ ((v : Value) → IsTrue (has_type classes v s) → IsTrue (has_type classes v t))
is_type_below-law classes sound s t r q = (value-below classes sound s t, type_down classes s t r q)
