-- Which conversions of a value from one type to another are allowed, and what each gives, by the rules of `MethodHandle.asType` and by those of
-- `MethodHandles.explicitCastArguments` (SE 17).
use Rattle.std.specs.Prelude.{ℕ, ◌^◌, ◌==◌, unsigned_abs, ℤ, pos, Bool, true, false, ◌&&◌, ◌||◌, if◌then◌else◌, List, [], ◌∷◌, Option, Some, None, Result, Ok, Err}
use Rattle.std.specs.Int.{w8, w16, w32, cast_signed, int_rem_euclid}
use Rattle.std.specs.List.{list_any}
use Rattle.std.specs.Result.{result_map_both}
use Rattle.mh_values.specs.declared.class.Class.{Class}
use Rattle.mh_values.specs.declared.class.ClassId.{ClassId}
use Rattle.mh_values.specs.declared.types.Primitive.{Primitive}
use Rattle.mh_values.specs.declared.types.Primitive.TheVariants as primitive
use Rattle.mh_values.specs.declared.types.Ty.{Ty}
use Rattle.mh_values.specs.declared.types.Ty.TheVariants as ty
use Rattle.mh_values.specs.declared.value.Num.{Num}
use Rattle.mh_values.specs.declared.value.Num.TheVariants as num
use Rattle.mh_values.specs.declared.value.Value.{Value}
use Rattle.mh_values.specs.declared.value.Value.TheVariants as value
use Rattle.mh_values.specs.declared.value.Exc.{Exc}
use Rattle.mh_values.specs.Class.{is_subclass, class_cast_class, null_pointer_class}
use Rattle.mh_values.specs.Exception.{bare}
use Rattle.mh_values.specs.HasType.{has_type, is_type_below}
use Rattle.mh_values.specs.Primitives.{wrapper_of, is_same_primitive, primitive_of, whole, is_within, number_of}
use Rattle.mh_convert.specs.declared.conv.Conv.{Conv}
use Rattle.mh_convert.specs.declared.conv.RetConv.{RetConv}
use Rattle.mh_convert.specs.declared.conv.RetConv.TheVariants as ret
use Rattle.mh_convert.specs.declared.conv.Rules.{Rules}
use Rattle.mh_convert.specs.declared.conv.Rules.TheVariants as rules

-- a primitive type widens to another one: byte to short, int and long, short and char to int and long, int to long (JLS SE 17, 5.1.2)
abbrev pub widens : Primitive → Primitive → Bool
widens primitive.Z q = false
widens primitive.B q = is_same_primitive q primitive.S || is_same_primitive q primitive.I || is_same_primitive q primitive.J
widens primitive.C q = is_same_primitive q primitive.I || is_same_primitive q primitive.J
widens primitive.S q = is_same_primitive q primitive.I || is_same_primitive q primitive.J
widens primitive.I q = is_same_primitive q primitive.J
widens primitive.J q = false

-- a number of the first primitive type serves as one of the second: they are equal, or the first widens to the second
abbrev pub serves_as : Primitive → Primitive → Bool
serves_as p q = is_same_primitive p q || widens p q

-- the primitive types
abbrev pub primitives : List Primitive
primitives = primitive.Z ∷ primitive.B ∷ primitive.C ∷ primitive.S ∷ primitive.I ∷ primitive.J ∷ []

-- a value of the class may be a boxed number that serves as the primitive type: some primitive type serves, and its wrapper is at or below the class
abbrev pub may_unbox : List Class → ClassId → Primitive → Bool
may_unbox classes s q = list_any (λ p. serves_as p q && is_subclass classes (wrapper_of p) s) primitives

-- whether a value of the first type may be converted to the second as `asType` does
abbrev pub can_as_type : List Class → Ty → Ty → Bool
can_as_type classes (ty.Prim p) (ty.Prim q) = serves_as p q
can_as_type classes (ty.Prim p) (ty.Class t) = is_subclass classes (wrapper_of p) t
can_as_type classes (ty.Prim p) (ty.Array d) = false
can_as_type classes (ty.Class s) (ty.Prim q) = may_unbox classes s q
can_as_type classes (ty.Array c) (ty.Prim q) = false
can_as_type classes _ _ = true

-- a value of the class may be a boxed number: the wrapper of some primitive type is at or below the class
abbrev pub may_hold_number : List Class → ClassId → Bool
may_hold_number classes s = list_any (λ p. is_subclass classes (wrapper_of p) s) primitives

-- Whether a value of the first type may be converted to the second explicitly. Each primitive type may be converted to each other one. A reference may be
-- converted to each primitive type if it can be a boxed number.
abbrev pub can_explicit : List Class → Ty → Ty → Bool
can_explicit classes (ty.Prim p) (ty.Prim q) = true
can_explicit classes (ty.Prim p) (ty.Class t) = is_subclass classes (wrapper_of p) t
can_explicit classes (ty.Prim p) (ty.Array d) = false
can_explicit classes (ty.Class s) (ty.Prim q) = may_hold_number classes s
can_explicit classes (ty.Array c) (ty.Prim q) = false
can_explicit classes _ _ = true

-- whether a value of the first type may be converted to the second by the rules
abbrev pub can : Rules → List Class → Ty → Ty → Bool
can rules.AsType classes s t = can_as_type classes s t
can rules.Explicit classes s t = can_explicit classes s t

-- a number as one of a primitive type that it serves as
abbrev pub widened : Num → Primitive → Num
widened n q = if widens (primitive_of n) q then number_of q (whole n) else n

-- a primitive value, widened
abbrev pub widened_value : Value → Primitive → Value
widened_value (value.Prim n) q = value.Prim (widened n q)
widened_value v q = v

-- a primitive value, boxed
abbrev pub boxed : Value → Value
boxed (value.Prim n) = value.Boxed n
boxed v = v

-- a reference as a value of a reference type: itself, if it has the type
abbrev pub cast : List Class → Value → Ty → Result Value Exc
cast classes v t = if has_type classes v t then Ok v else Err (bare class_cast_class)

-- a reference as a number of a primitive type: a boxed number in its range that serves as one, widened
abbrev pub unboxed : Value → Primitive → Result Value Exc
unboxed value.Null q = Err (bare null_pointer_class)
unboxed (value.Boxed n) q = if serves_as (primitive_of n) q && is_within n then Ok (value.Prim (widened n q)) else Err (bare class_cast_class)
unboxed v q = Err (bare class_cast_class)

-- what the conversion of a value of the first type to the second by `asType` gives, or the exception that it throws
abbrev pub conv_as_type : List Class → Ty → Ty → Value → Result Value Exc
conv_as_type classes (ty.Prim p) (ty.Prim q) v = Ok (widened_value v q)
conv_as_type classes (ty.Prim p) _ v = Ok (boxed v)
conv_as_type classes _ (ty.Prim q) v = unboxed v q
conv_as_type classes _ t v = cast classes v t

-- the low bits, this many, of a whole number, as a number without a sign
abbrev pub low_bits : ℕ → ℤ → ℕ
low_bits bits z = unsigned_abs (int_rem_euclid z (pos (2 ^ bits)))

-- The low bits of a whole number as a number of a primitive type (JLS SE 17, 5.1.3). A boolean is the lowest bit. A long has all bits.
abbrev pub narrowed : ℤ → Primitive → Num
narrowed z primitive.Z = num.Z (low_bits 1 z == 1)
narrowed z primitive.B = num.B (cast_signed w8 (low_bits 8 z))
narrowed z primitive.C = num.C (low_bits 16 z)
narrowed z primitive.S = num.S (cast_signed w16 (low_bits 16 z))
narrowed z primitive.I = num.I (cast_signed w32 (low_bits 32 z))
narrowed z primitive.J = num.J z

-- a number as one of any primitive type: itself if it has that type; true is 1, and false is 0
abbrev pub recast : Num → Primitive → Num
recast n q = if is_same_primitive (primitive_of n) q then n else narrowed (whole n) q

-- a primitive value as one of any primitive type
abbrev pub recast_value : Value → Primitive → Value
recast_value (value.Prim n) q = value.Prim (recast n q)
recast_value v q = v

-- a reference as a number of a primitive type, explicitly: null is zero, and a boxed number in its range is recast
abbrev pub unboxed_explicitly : Value → Primitive → Result Value Exc
unboxed_explicitly value.Null q = Ok (value.Prim (number_of q (pos 0)))
unboxed_explicitly (value.Boxed n) q = if is_within n then Ok (value.Prim (recast n q)) else Err (bare class_cast_class)
unboxed_explicitly v q = Err (bare class_cast_class)

-- what the explicit conversion of a value of the first type to the second gives, or the exception that it throws
abbrev pub conv_explicit : List Class → Ty → Ty → Value → Result Value Exc
conv_explicit classes (ty.Prim p) (ty.Prim q) v = Ok (recast_value v q)
conv_explicit classes (ty.Prim p) _ v = Ok (boxed v)
conv_explicit classes _ (ty.Prim q) v = unboxed_explicitly v q
conv_explicit classes _ t v = cast classes v t

-- what the conversion of a value of the first type to the second by the rules gives, or the exception that it throws
abbrev pub conv : Rules → List Class → Ty → Ty → Value → Result Value Exc
conv rules.AsType classes s t v = conv_as_type classes s t v
conv rules.Explicit classes s t v = conv_explicit classes s t v

-- a bound or constant value as a value of a type
abbrev pub fit : List Class → Value → Ty → Result Value Exc
fit classes v (ty.Prim q) = unboxed v q
fit classes v t = cast classes v t

-- the conversion from one type to another, if it is allowed
abbrev pub conversion_of : Rules → List Class → Ty → Ty → Option Conv
conversion_of by classes s t = if can by classes s t then Some (record { from = s; to = t }) else None

-- the conversion of a result, if it is allowed
abbrev pub value_conversion : Option Conv → Option RetConv
value_conversion (Some c) = Some (ret.Value c)
value_conversion None = None

-- the conversion from one return type to another, if it is allowed; void may become any type, and any type void
abbrev pub ret_conversion_of : Rules → List Class → Option Ty → Option Ty → Option RetConv
ret_conversion_of by classes None None = Some ret.Keep
ret_conversion_of by classes (Some s) None = Some ret.Discard
ret_conversion_of by classes None (Some t) = Some (ret.Default t)
ret_conversion_of by classes (Some s) (Some t) = value_conversion (conversion_of by classes s t)

-- the default of a type: false, zero or null
abbrev pub default_of : Ty → Value
default_of (ty.Prim p) = value.Prim (number_of p (pos 0))
default_of (ty.Class c) = value.Null
default_of (ty.Array c) = value.Null

-- what a return conversion gives of what was returned
abbrev pub ret_conv : Rules → List Class → RetConv → Option Value → Result (Option Value) Exc
ret_conv by classes ret.Keep r = Ok r
ret_conv by classes ret.Discard r = Ok None
ret_conv by classes (ret.Default t) r = Ok (Some (default_of t))
ret_conv by classes (ret.Value c) (Some v) = result_map_both (λ w. Some w) (λ e. e) (conv by classes c.from c.to v)
ret_conv by classes (ret.Value c) None = Ok None

-- a conversion that changes nothing: each value of the first type has the second
abbrev pub is_trivial : List Class → Ty → Ty → Bool
is_trivial classes s t = is_type_below classes s t

-- a conversion of a return type that changes nothing
abbrev pub is_trivial_ret : List Class → Option Ty → Option Ty → Bool
is_trivial_ret classes None None = true
is_trivial_ret classes (Some s) (Some t) = is_trivial classes s t
is_trivial_ret classes _ _ = false
