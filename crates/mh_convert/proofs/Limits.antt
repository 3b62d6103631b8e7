-- Conversions of values within their limits give values within their limits.
use Rattle.std.proofs.Common.{◌≡◌, refl, Bool, true, false, ◌&&◌, cond, List, Result, Ok, Err}
use Rattle.mh_values.specs.declared.class.Class.{Class}
use Rattle.mh_values.specs.declared.types.Primitive.{Primitive}
use Rattle.mh_values.specs.declared.types.Ty.{Ty}
use Rattle.mh_values.specs.declared.types.Ty.TheVariants as ty
use Rattle.mh_values.specs.declared.value.Exc.{Exc}
use Rattle.mh_values.specs.declared.value.Value.{Value}
use Rattle.mh_values.specs.declared.value.Value.TheVariants as value
use Rattle.mh_values.specs.Class.{class_cast_class}
use Rattle.mh_values.specs.Exception.{bare}
use Rattle.mh_values.specs.HasType.{has_type}
use Rattle.mh_values.specs.Primitives.{primitive_of, is_within}
use Rattle.mh_values.specs.ValueLimits.{IsValueWithinLimits}
use Rattle.mh_values.proofs.TypedLimits.{typed-within}
use Rattle.mh_convert.specs.declared.conv.Rules.{Rules}
use Rattle.mh_convert.specs.declared.conv.Rules.TheVariants as rules
use Rattle.mh_convert.specs.Conversion.{serves_as, widened, widened_value, recast, recast_value, boxed, cast, unboxed, unboxed_explicitly, conv, fit, default_of}

-- a value within its limits, or an exception
abbrev pub ConvertsWithinLimits : Result Value Exc → Type 0
ConvertsWithinLimits (Ok v) = IsValueWithinLimits v
ConvertsWithinLimits (Err e) = Unit {0}

chosen : (b : Bool) (v : Value) (e : Exc) → (b ≡ true → IsValueWithinLimits v) → ConvertsWithinLimits (cond b (Ok v) (Err e))
chosen true v e h = h refl
chosen false v e h = tt

widened-limits : (v : Value) (q : Primitive) → IsValueWithinLimits v → IsValueWithinLimits (widened_value v q)
widened-limits (value.Prim n) q h = tt
widened-limits v q h = h

boxed-limits : (v : Value) → IsValueWithinLimits v → IsValueWithinLimits (boxed v)
boxed-limits (value.Prim n) h = tt
boxed-limits v h = h

unboxed-limits : (v : Value) (q : Primitive) → ConvertsWithinLimits (unboxed v q)
unboxed-limits value.Null q = tt
unboxed-limits (value.Boxed n) q = chosen (serves_as (primitive_of n) q && is_within n) (value.Prim (widened n q)) (bare class_cast_class) (λ is. tt)
unboxed-limits v q = tt

cast-limits : (classes : List Class) (v : Value) (t : Ty) → ConvertsWithinLimits (cast classes v t)
cast-limits classes v t = chosen (has_type classes v t) v (bare class_cast_class) (typed-within classes v t)

recast-limits : (v : Value) (q : Primitive) → IsValueWithinLimits v → IsValueWithinLimits (recast_value v q)
recast-limits (value.Prim n) q h = tt
recast-limits v q h = h

unboxed_explicitly-limits : (v : Value) (q : Primitive) → ConvertsWithinLimits (unboxed_explicitly v q)
unboxed_explicitly-limits value.Null q = tt
unboxed_explicitly-limits (value.Boxed n) q = chosen (is_within n) (value.Prim (recast n q)) (bare class_cast_class) (λ is. tt)
unboxed_explicitly-limits v q = tt

-- a converted value is within its limits
pub conv-limits : (by : Rules) (classes : List Class) (s t : Ty) (v : Value) → IsValueWithinLimits v → ConvertsWithinLimits (conv by classes s t v)
conv-limits rules.AsType classes (ty.Prim p) (ty.Prim q) v h = widened-limits v q h
conv-limits rules.AsType classes (ty.Prim p) (ty.Class c) v h = boxed-limits v h
conv-limits rules.AsType classes (ty.Prim p) (ty.Array c) v h = boxed-limits v h
conv-limits rules.AsType classes (ty.Class c) (ty.Prim q) v h = unboxed-limits v q
conv-limits rules.AsType classes (ty.Array c) (ty.Prim q) v h = unboxed-limits v q
conv-limits rules.AsType classes s t v h = cast-limits classes v t
conv-limits rules.Explicit classes (ty.Prim p) (ty.Prim q) v h = recast-limits v q h
conv-limits rules.Explicit classes (ty.Prim p) (ty.Class c) v h = boxed-limits v h
conv-limits rules.Explicit classes (ty.Prim p) (ty.Array c) v h = boxed-limits v h
conv-limits rules.Explicit classes (ty.Class c) (ty.Prim q) v h = unboxed_explicitly-limits v q
conv-limits rules.Explicit classes (ty.Array c) (ty.Prim q) v h = unboxed_explicitly-limits v q
conv-limits rules.Explicit classes s t v h = cast-limits classes v t

-- and so is one that was bound, or is constant, whatever it was before
pub fit-limits : (classes : List Class) (v : Value) (t : Ty) → ConvertsWithinLimits (fit classes v t)
fit-limits classes v (ty.Prim q) = unboxed-limits v q
fit-limits classes v t = cast-limits classes v t

-- the default of a type
pub default-limits : (t : Ty) → IsValueWithinLimits (default_of t)
default-limits (ty.Prim p) = tt
default-limits (ty.Class c) = tt
default-limits (ty.Array c) = tt
