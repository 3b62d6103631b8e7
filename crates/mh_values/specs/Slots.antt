-- How many slots parameters take (JVMS SE 17, 4.3.3).
use Rattle.std.specs.Prelude.{ℕ, sum_by, List}
use Rattle.mh_values.specs.declared.types.Primitive.TheVariants as primitive
use Rattle.mh_values.specs.declared.types.Ty.{Ty}
use Rattle.mh_values.specs.declared.types.Ty.TheVariants as ty

-- two for a long, one for any other type
abbrev pub slots_of : Ty → ℕ
slots_of (ty.Prim primitive.J) = 2
slots_of _ = 1

-- the slots of all parameters together
abbrev pub slots_of_all : List Ty → ℕ
slots_of_all types = sum_by slots_of types
