-- Whether types are equal, as a test that computes.
use Rattle.std.specs.Prelude.{◌==◌, Bool, true, false, ◌&&◌, List, [], ◌∷◌, Option, Some, None}
use Rattle.mh_values.specs.declared.types.Comp.{Comp}
use Rattle.mh_values.specs.declared.types.Comp.TheVariants as comp
use Rattle.mh_values.specs.declared.types.Ty.{Ty}
use Rattle.mh_values.specs.declared.types.Ty.TheVariants as ty
use Rattle.mh_values.specs.declared.types.MethodTy.{MethodTy}
use Rattle.mh_values.specs.Primitives.{is_same_primitive}

-- whether two component types are equal
abbrev pub is_same_component : Comp → Comp → Bool
is_same_component (comp.Prim p) (comp.Prim q) = is_same_primitive p q
is_same_component (comp.Class c) (comp.Class d) = c.0 == d.0
is_same_component _ _ = false

-- whether two types are equal
abbrev pub is_same_type : Ty → Ty → Bool
is_same_type (ty.Prim p) (ty.Prim q) = is_same_primitive p q
is_same_type (ty.Class c) (ty.Class d) = c.0 == d.0
is_same_type (ty.Array c) (ty.Array d) = is_same_component c d
is_same_type _ _ = false

-- whether two return types are equal; each may be void
abbrev pub is_same_return : Option Ty → Option Ty → Bool
is_same_return None None = true
is_same_return (Some s) (Some t) = is_same_type s t
is_same_return _ _ = false

-- whether two lists of types are equal
abbrev pub are_same_types : List Ty → List Ty → Bool
are_same_types [] [] = true
are_same_types (s ∷ ss) (t ∷ ts) = is_same_type s t && are_same_types ss ts
are_same_types _ _ = false

-- whether the first types of a list are these
abbrev pub begins_with_types : List Ty → List Ty → Bool
begins_with_types ts [] = true
begins_with_types [] (s ∷ ss) = false
begins_with_types (t ∷ ts) (s ∷ ss) = is_same_type t s && begins_with_types ts ss

-- whether two method types are equal
abbrev pub is_same_method_type : MethodTy → MethodTy → Bool
is_same_method_type s t = are_same_types s.params t.params && is_same_return s.ret t.ret
