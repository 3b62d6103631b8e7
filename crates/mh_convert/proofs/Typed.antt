-- What conversions give has the type that was asked for, and what they throw is an exception.
use Rattle.std.proofs.Common.{◌≡◌, refl, ap, subst, Bool, true, false, ◌||◌, if◌then◌else◌, cond, List, Ok, Err}
use Rattle.std.proofs.lemmas.Bool.{and_parts}
use Rattle.mh_values.specs.declared.class.Class.{Class}
use Rattle.mh_values.specs.declared.types.Primitive.{Primitive}
use Rattle.mh_values.specs.declared.types.Primitive.TheVariants as primitive
use Rattle.mh_values.specs.declared.types.Ty.{Ty}
use Rattle.mh_values.specs.declared.types.Ty.TheVariants as ty
use Rattle.mh_values.specs.declared.value.Num.{Num}
use Rattle.mh_values.specs.declared.value.Value.{Value}
use Rattle.mh_values.specs.declared.value.Value.TheVariants as value
use Rattle.mh_values.specs.Class.{class_cast_class}
use Rattle.mh_values.specs.Classes.{AreClasses}
use Rattle.mh_values.specs.Exception.{bare}
use Rattle.mh_values.specs.HasType.{has_type, is_type_below}
use Rattle.mh_values.specs.Primitives.{is_same_primitive, primitive_of, whole, is_within, number_of}
use Rattle.mh_values.proofs.PrimitiveLaws.{same_primitive-is}
use Rattle.mh_values.proofs.BelowTypes.{value-below, type_below-itself}
use Rattle.mh_convert.specs.declared.conv.Rules.{Rules}
use Rattle.mh_convert.specs.declared.conv.Rules.TheVariants as rules
use Rattle.mh_convert.specs.Conversion.{widens, can_as_type, can_explicit, can, widened, widened_value, narrowed, recast_value, cast, conv_as_type, conv_explicit, conv, is_trivial}
pub use Rattle.mh_convert.proofs.TypedConversions.{
  cast-throws,
  cast-typed,
  conv-throws,
  conv-typed,
  fit-typed,
  if_err,
  if_ok,
  unboxed-throws,
  unboxed-typed,
  widened-typed,
}

-- ---- what changes nothing

trivial-as_type : (classes : List Class) (s t : Ty) → is_trivial classes s t ≡ true → can_as_type classes s t ≡ true
trivial-as_type classes (ty.Prim p) (ty.Prim q) h = ap (λ b. b || widens p q) h
trivial-as_type classes (ty.Class c) (ty.Class d) h = refl
trivial-as_type classes (ty.Array c) (ty.Class d) h = refl
trivial-as_type classes (ty.Array c) (ty.Array d) h = refl
trivial-as_type classes s t h = absurd cc

trivial-explicit : (classes : List Class) (s t : Ty) → is_trivial classes s t ≡ true → can_explicit classes s t ≡ true
trivial-explicit classes (ty.Prim p) (ty.Prim q) h = refl
trivial-explicit classes (ty.Class c) (ty.Class d) h = refl
trivial-explicit classes (ty.Array c) (ty.Class d) h = refl
trivial-explicit classes (ty.Array c) (ty.Array d) h = refl
trivial-explicit classes s t h = absurd cc

pub trivial-allowed : (by : Rules) (classes : List Class) (s t : Ty) → is_trivial classes s t ≡ true → can by classes s t ≡ true
trivial-allowed rules.AsType classes s t h = trivial-as_type classes s t h
trivial-allowed rules.Explicit classes s t h = trivial-explicit classes s t h

-- no type widens to itself
widens-itself : (p : Primitive) → widens p p ≡ false
widens-itself primitive.Z = refl
widens-itself primitive.B = refl
widens-itself primitive.C = refl
widens-itself primitive.S = refl
widens-itself primitive.I = refl
widens-itself primitive.J = refl

same_number : (n : Num) (q : Primitive) → is_same_primitive (primitive_of n) q ≡ true → widened n q ≡ n
same_number n q h =
    let P : Primitive → Type 0 = λ r. widens (primitive_of n) r ≡ false in
    ap (λ t. if t then number_of q (whole n) else n) (subst P (same_primitive-is (primitive_of n) q h) (widens-itself (primitive_of n)))

same_prim : (classes : List Class) (p q : Primitive) (v : Value) → is_same_primitive p q ≡ true → has_type classes v (ty.Prim p) ≡ true → widened_value v q ≡ v
same_prim classes p q (value.Prim n) h k =
    let P : Primitive → Type 0 = λ r. is_same_primitive (primitive_of n) r ≡ true in
    let parts = and_parts (is_same_primitive (primitive_of n) p) (is_within n) k in
    ap value.Prim (same_number n q (subst P (same_primitive-is p q h) parts.0))
same_prim classes p q v h k = absurd cc

recast_prim : (classes : List Class) (p q : Primitive) (v : Value) → is_same_primitive p q ≡ true → has_type classes v (ty.Prim p) ≡ true → recast_value v q ≡ v
recast_prim classes p q (value.Prim n) h k =
    let P : Primitive → Type 0 = λ r. is_same_primitive (primitive_of n) r ≡ true in
    let parts = and_parts (is_same_primitive (primitive_of n) p) (is_within n) k in
    ap (λ t. value.Prim (if t then n else narrowed (whole n) q)) (subst P (same_primitive-is p q h) parts.0)
recast_prim classes p q v h k = absurd cc

kept : (classes : List Class) → AreClasses classes → (s t : Ty) (v : Value) → is_type_below classes s t ≡ true → has_type classes v s ≡ true →
    cast classes v t ≡ Ok v
kept classes are s t v h k = ap (λ (b : Bool). cond b (Ok v) (Err (bare class_cast_class))) (value-below classes are s t h v k)

as_type-keeps : (classes : List Class) → AreClasses classes → (s t : Ty) (v : Value) → is_trivial classes s t ≡ true → has_type classes v s ≡ true →
    conv_as_type classes s t v ≡ Ok v
as_type-keeps classes are (ty.Prim p) (ty.Prim q) v h k = ap Ok (same_prim classes p q v h k)
as_type-keeps classes are (ty.Class c) (ty.Class d) v h k = kept classes are (ty.Class c) (ty.Class d) v h k
as_type-keeps classes are (ty.Array c) (ty.Class d) v h k = kept classes are (ty.Array c) (ty.Class d) v h k
as_type-keeps classes are (ty.Array c) (ty.Array d) v h k = kept classes are (ty.Array c) (ty.Array d) v h k
as_type-keeps classes are s t v h k = absurd cc

explicit-keeps : (classes : List Class) → AreClasses classes → (s t : Ty) (v : Value) → is_trivial classes s t ≡ true → has_type classes v s ≡ true →
    conv_explicit classes s t v ≡ Ok v
explicit-keeps classes are (ty.Prim p) (ty.Prim q) v h k = ap Ok (recast_prim classes p q v h k)
explicit-keeps classes are (ty.Class c) (ty.Class d) v h k = kept classes are (ty.Class c) (ty.Class d) v h k
explicit-keeps classes are (ty.Array c) (ty.Class d) v h k = kept classes are (ty.Array c) (ty.Class d) v h k
explicit-keeps classes are (ty.Array c) (ty.Array d) v h k = kept classes are (ty.Array c) (ty.Array d) v h k
explicit-keeps classes are s t v h k = absurd cc

-- a trivial conversion changes nothing
pub trivial-keeps : (by : Rules) (classes : List Class) → AreClasses classes → (s t : Ty) (v : Value) → is_trivial classes s t ≡ true →
    has_type classes v s ≡ true → conv by classes s t v ≡ Ok v
trivial-keeps rules.AsType classes are s t v h k = as_type-keeps classes are s t v h k
trivial-keeps rules.Explicit classes are s t v h k = explicit-keeps classes are s t v h k

-- a type converts to itself, and each of its values to itself
pub itself-allowed : (by : Rules) (classes : List Class) (t : Ty) → can by classes t t ≡ true
itself-allowed by classes t = trivial-allowed by classes t t (type_below-itself classes t)

pub itself-keeps : (by : Rules) (classes : List Class) → AreClasses classes → (t : Ty) (v : Value) → has_type classes v t ≡ true → conv by classes t t v ≡ Ok v
itself-keeps by classes are t v k = trivial-keeps by classes are t t v (type_below-itself classes t) k
