-- The bucket of a type, and the bucket of a slot.
use Rattle.std.specs.Prelude.{ℕ, ◌+◌, ◌*◌, ◌/◌, ◌%◌, List, [], ◌∷◌, Option, None, Some}
use Rattle.mh_values.specs.declared.types.Primitive.{Primitive}
use Rattle.mh_values.specs.declared.types.Primitive.TheVariants as primitive
use Rattle.mh_values.specs.declared.types.Comp.{Comp}
use Rattle.mh_values.specs.declared.types.Comp.TheVariants as comp
use Rattle.mh_values.specs.declared.types.Ty.{Ty}
use Rattle.mh_values.specs.declared.types.Ty.TheVariants as ty
use Rattle.mh_values.specs.declared.types.MethodTy.{MethodTy}

-- how many buckets a table has
abbrev pub buckets : ℕ
buckets = 64

-- how many slots a bucket has
abbrev pub bucket_slots : ℕ
bucket_slots = 32

-- how many slots a table has
abbrev pub slots : ℕ
slots = 2048

-- Z 1, B 2, C 3, S 4, I 5, J 6
abbrev pub primitive_code : Primitive → ℕ
primitive_code primitive.Z = 1
primitive_code primitive.B = 2
primitive_code primitive.C = 3
primitive_code primitive.S = 4
primitive_code primitive.I = 5
primitive_code primitive.J = 6

-- a class number c has the code 8 + 2c
abbrev pub component_code : Comp → ℕ
component_code (comp.Prim p) = primitive_code p
component_code (comp.Class c) = 8 + 2 * c.0

-- an array has the code 9 + 2 * the code of its component
abbrev pub type_code : Ty → ℕ
type_code (ty.Prim p) = primitive_code p
type_code (ty.Class c) = 8 + 2 * c.0
type_code (ty.Array c) = 9 + 2 * component_code c

-- void has the code 7
abbrev pub return_code : Option Ty → ℕ
return_code None = 7
return_code (Some t) = type_code t

-- the fold of the codes of the parameters, in order
abbrev pub folded : ℕ → List Ty → ℕ
folded h [] = h
folded h (t ∷ ts) = folded ((31 * h + type_code t) % buckets) ts

-- the bucket of a type: the fold begins with the code of the return type
abbrev pub bucket_of : MethodTy → ℕ
bucket_of t = folded (return_code t.ret % buckets) t.params

-- the bucket of a slot
abbrev pub bucket_at : ℕ → ℕ
bucket_at slot = slot / bucket_slots
