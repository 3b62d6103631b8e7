-- Casts, unboxing and conversions give values of the type that is asked for, or throw exceptions.
use Rattle.std.proofs.Common.{◌≡◌, refl, sym, ap, subst, ◌∙◌, inl, inr, ℕ, ◌^◌, ◌<◌, ◌==◌, ℤ, pos, negsuc, Bool, true, false, ◌&&◌, ◌||◌, if◌then◌else◌, cond, List, Result, Ok, Err, FitsSigned, rules as known_rules, arith}
use Rattle.std.proofs.lemmas.Bool.{cases_Bool, and_parts, and_from, lt-ltb}
use Rattle.std.specs.Int.{w8, w16, w32, cast_signed}
use Rattle.mh_base.proofs.Inversion.{ok_is, err_is}
use Rattle.mh_values.specs.declared.class.Class.{Class}
use Rattle.mh_values.specs.declared.class.ClassId.{ClassId}
use Rattle.mh_values.specs.declared.types.Primitive.{Primitive}
use Rattle.mh_values.specs.declared.types.Primitive.TheVariants as primitive
use Rattle.mh_values.specs.declared.types.Ty.{Ty}
use Rattle.mh_values.specs.declared.types.Ty.TheVariants as ty
use Rattle.mh_values.specs.declared.value.Num.{Num}
use Rattle.mh_values.specs.declared.value.Exc.{Exc}
use Rattle.mh_values.specs.declared.value.Value.{Value}
use Rattle.mh_values.specs.declared.value.Value.TheVariants as value
use Rattle.mh_values.specs.Class.{is_subclass, throwable_class, class_cast_class, null_pointer_class}
use Rattle.mh_values.specs.Classes.{AreClasses}
use Rattle.mh_values.specs.Exception.{bare}
use Rattle.mh_values.specs.HasType.{has_type}
use Rattle.mh_values.specs.Primitives.{wrapper_of, is_same_primitive, primitive_of, whole, is_signed, lies_in, is_within, is_number, number_of}
use Rattle.mh_values.proofs.PrimitiveLaws.{same_primitive-is}
use Rattle.mh_values.proofs.PrimitiveNumbers.{signed-wider, unsigned-wider, number-is, zero-lies, lies-long, boolean-within}
use Rattle.mh_values.proofs.BelowTypes.{class_cast-below, null_pointer-below}
use Rattle.mh_convert.specs.declared.conv.Rules.{Rules}
use Rattle.mh_convert.specs.declared.conv.Rules.TheVariants as rules
use Rattle.mh_convert.specs.Conversion.{widens, serves_as, can_as_type, can_explicit, can, widened, widened_value, low_bits, narrowed, recast, recast_value, boxed, cast, unboxed, unboxed_explicitly, conv_as_type, conv_explicit, conv, fit}

-- the two cases of a choice
chosen : (b : Bool) (r s : Result Value Exc) (P : Result Value Exc → Type 0) → (b ≡ true → P r) → (b ≡ false → P s) → P (cond b r s)
chosen true r s P f g = f refl
chosen false r s P f g = g refl

-- what lies in the range of a type lies in that of each type to which it widens
widens-lies : (p q : Primitive) (z : ℤ) → widens p q ≡ true → lies_in p z ≡ true → lies_in q z ≡ true
widens-lies primitive.B primitive.S z h lies = signed-wider 7 15 z (omega arith) lies
widens-lies primitive.B primitive.I z h lies = signed-wider 7 31 z (omega arith) lies
widens-lies primitive.B primitive.J z h lies = signed-wider 7 63 z (omega arith) lies
widens-lies primitive.C primitive.I z h lies = unsigned-wider 16 31 z (omega arith) lies
widens-lies primitive.C primitive.J z h lies = unsigned-wider 16 63 z (omega arith) lies
widens-lies primitive.S primitive.I z h lies = signed-wider 15 31 z (omega arith) lies
widens-lies primitive.S primitive.J z h lies = signed-wider 15 63 z (omega arith) lies
widens-lies primitive.I primitive.J z h lies = signed-wider 31 63 z (omega arith) lies
widens-lies p q z h lies = absurd cc

-- a widened number has the type that it was widened to
pub widened-typed : (classes : List Class) (n : Num) (q : Primitive) → serves_as (primitive_of n) q ≡ true → is_within n ≡ true →
    has_type classes (value.Prim (widened n q)) (ty.Prim q) ≡ true
widened-typed classes n q h within = elim (cases_Bool (widens (primitive_of n) q)) [
  | inl e ↦ ap (λ t. is_number (if t then number_of q (whole n) else n) q) e ∙ number-is q (whole n) (widens-lies (primitive_of n) q (whole n) e within)
  | inr e ↦ ap (λ t. is_number (if t then number_of q (whole n) else n) q) e ∙
      and_from (is_same_primitive (primitive_of n) q) (is_within n) (or_false_left (is_same_primitive (primitive_of n) q) e h) within
]
  where
    or_false_left : (a : Bool) → widens (primitive_of n) q ≡ false → (a || widens (primitive_of n) q) ≡ true → a ≡ true
    or_false_left true e h = refl
    or_false_left false e h = absurd cc

-- what a choice with an exception gives
pub if_ok : (b : Bool) (v w : Value) (e : Exc) → ◌≡◌ {A = Result Value Exc} (cond b (Ok v) (Err e)) (Ok w) → (b ≡ true) × (v ≡ w)
if_ok true v w e h = (refl, ok_is v w h)
if_ok false v w e h = absurd cc

pub if_err : (b : Bool) (v : Value) (d e : Exc) → ◌≡◌ {A = Result Value Exc} (cond b (Ok v) (Err d)) (Err e) → d ≡ e
if_err true v d e h = absurd cc
if_err false v d e h = err_is d e h

-- ---- casts

pub cast-typed : (classes : List Class) (v w : Value) (t : Ty) → cast classes v t ≡ Ok w → has_type classes w t ≡ true
cast-typed classes v w t h =
    let q = if_ok (has_type classes v t) v w (bare class_cast_class) h in subst (λ x. has_type classes x t ≡ true) q.1 q.0

pub cast-throws : (classes : List Class) → AreClasses classes → (v : Value) (t : Ty) (e : Exc) → cast classes v t ≡ Err e →
    is_subclass classes e.class throwable_class ≡ true
cast-throws classes are v t e h =
    subst (λ (x : Exc). is_subclass classes x.class throwable_class ≡ true) (if_err (has_type classes v t) v (bare class_cast_class) e h)
    (class_cast-below classes are)

-- ---- unboxing

pub unboxed-typed : (classes : List Class) (v w : Value) (q : Primitive) → unboxed v q ≡ Ok w → has_type classes w (ty.Prim q) ≡ true
unboxed-typed classes (value.Boxed n) w q h =
    let r = if_ok (serves_as (primitive_of n) q && is_within n) (value.Prim (widened n q)) w (bare class_cast_class) h in
    let parts = and_parts (serves_as (primitive_of n) q) (is_within n) r.0 in
    subst (λ x. has_type classes x (ty.Prim q) ≡ true) r.1 (widened-typed classes n q parts.0 parts.1)
unboxed-typed classes v w q h = absurd cc

thrown_is : (classes : List Class) (d e : Exc) → is_subclass classes d.class throwable_class ≡ true → ◌≡◌ {A = Result Value Exc} (Err d) (Err e) →
    is_subclass classes e.class throwable_class ≡ true
thrown_is classes d e below h = subst (λ (x : Exc). is_subclass classes x.class throwable_class ≡ true) (err_is d e h) below

pub unboxed-throws : (classes : List Class) → AreClasses classes → (v : Value) (q : Primitive) (e : Exc) → unboxed v q ≡ Err e →
    is_subclass classes e.class throwable_class ≡ true
unboxed-throws classes are value.Null q e h = thrown_is classes (bare null_pointer_class) e (null_pointer-below classes are) h
unboxed-throws classes are (value.Boxed n) q e h =
    let d = if_err (serves_as (primitive_of n) q && is_within n) (value.Prim (widened n q)) (bare class_cast_class) e h in
    subst (λ (x : Exc). is_subclass classes x.class throwable_class ≡ true) d (class_cast-below classes are)
unboxed-throws classes are v q e h = thrown_is classes (bare class_cast_class) e (class_cast-below classes are) h

-- ---- bound and constant values

pub fit-typed : (classes : List Class) (v w : Value) (t : Ty) → fit classes v t ≡ Ok w → has_type classes w t ≡ true
fit-typed classes v w (ty.Prim q) h = unboxed-typed classes v w q h
fit-typed classes v w t h = cast-typed classes v w t h

-- ---- conversions

prim-typed : (classes : List Class) (v w : Value) (p q : Primitive) → serves_as p q ≡ true → has_type classes v (ty.Prim p) ≡ true →
    ◌≡◌ {A = Result Value Exc} (Ok (widened_value v q)) (Ok w) → has_type classes w (ty.Prim q) ≡ true
prim-typed classes (value.Prim n) w p q allowed typed h =
    let P : Primitive → Type 0 = λ r. serves_as r q ≡ true in
    let parts = and_parts (is_same_primitive (primitive_of n) p) (is_within n) typed in
    subst (λ x. has_type classes x (ty.Prim q) ≡ true) (ok_is (value.Prim (widened n q)) w h)
    (widened-typed classes n q (subst P (sym (same_primitive-is (primitive_of n) p parts.0)) allowed) parts.1)
prim-typed classes v w p q allowed typed h = absurd cc

boxed-typed : (classes : List Class) (v w : Value) (p : Primitive) (c : ClassId) → is_subclass classes (wrapper_of p) c ≡ true →
    has_type classes v (ty.Prim p) ≡ true → ◌≡◌ {A = Result Value Exc} (Ok (boxed v)) (Ok w) → has_type classes w (ty.Class c) ≡ true
boxed-typed classes (value.Prim n) w p c allowed typed h =
    let P : Primitive → Type 0 = λ r. is_subclass classes (wrapper_of r) c ≡ true in
    let parts = and_parts (is_same_primitive (primitive_of n) p) (is_within n) typed in
    subst (λ x. has_type classes x (ty.Class c) ≡ true) (ok_is (value.Boxed n) w h)
    (and_from (is_subclass classes (wrapper_of (primitive_of n)) c) (is_within n)
    (subst P (sym (same_primitive-is (primitive_of n) p parts.0)) allowed) parts.1)
boxed-typed classes v w p c allowed typed h = absurd cc

as_type-typed : (classes : List Class) (s t : Ty) (v w : Value) → can_as_type classes s t ≡ true → has_type classes v s ≡ true →
    conv_as_type classes s t v ≡ Ok w → has_type classes w t ≡ true
as_type-typed classes (ty.Prim p) (ty.Prim q) v w allowed typed h = prim-typed classes v w p q allowed typed h
as_type-typed classes (ty.Prim p) (ty.Class c) v w allowed typed h = boxed-typed classes v w p c allowed typed h
as_type-typed classes (ty.Prim p) (ty.Array c) v w allowed typed h = absurd cc
as_type-typed classes (ty.Class s) (ty.Prim q) v w allowed typed h = unboxed-typed classes v w q h
as_type-typed classes (ty.Array s) (ty.Prim q) v w allowed typed h = unboxed-typed classes v w q h
as_type-typed classes s t v w allowed typed h = cast-typed classes v w t h

prim-throws : (classes : List Class) (v : Value) (e : Exc) → ◌≡◌ {A = Result Value Exc} (Ok v) (Err e) → is_subclass classes e.class throwable_class ≡ true
prim-throws classes v e h = absurd cc

as_type-throws : (classes : List Class) → AreClasses classes → (s t : Ty) (v : Value) (e : Exc) → conv_as_type classes s t v ≡ Err e →
    is_subclass classes e.class throwable_class ≡ true
as_type-throws classes are (ty.Prim p) (ty.Prim q) v e h = prim-throws classes (widened_value v q) e h
as_type-throws classes are (ty.Prim p) t v e h = prim-throws classes (boxed v) e h
as_type-throws classes are s (ty.Prim q) v e h = unboxed-throws classes are v q e h
as_type-throws classes are s t v e h = cast-throws classes are v t e h

-- ---- explicit conversions

-- a machine number is in the range of its type
byte-fits : (z : ℤ) → FitsSigned w8 z → is_signed 7 z ≡ true
byte-fits (pos n) fits = lt-ltb n (2 ^ 7) (omega (arith, fits.sfits))
byte-fits (negsuc n) fits = lt-ltb n (2 ^ 7) (omega (arith, fits.sfits))

short-fits : (z : ℤ) → FitsSigned w16 z → is_signed 15 z ≡ true
short-fits (pos n) fits = lt-ltb n (2 ^ 15) (omega (arith, fits.sfits))
short-fits (negsuc n) fits = lt-ltb n (2 ^ 15) (omega (arith, fits.sfits))

int-fits : (z : ℤ) → FitsSigned w32 z → is_signed 31 z ≡ true
int-fits (pos n) fits = lt-ltb n (2 ^ 31) (omega (arith, fits.sfits))
int-fits (negsuc n) fits = lt-ltb n (2 ^ 31) (omega (arith, fits.sfits))

-- so many bits make a number below that power of two
low-below : (bits : ℕ) (z : ℤ) → 0 < 2 ^ bits → low_bits bits z < 2 ^ bits
low-below bits (pos n) some = omega arith
low-below bits (negsuc n) some = omega arith

-- low bits are in the range of the type that they make a number of
narrowed-typed : (z : ℤ) (q : Primitive) → is_signed 63 z ≡ true → is_number (narrowed z q) q ≡ true
narrowed-typed z primitive.Z within = boolean-within (low_bits 1 z == 1)
narrowed-typed z primitive.B within =
    let fits : FitsSigned w8 (cast_signed w8 (low_bits 8 z)) = search known_rules in byte-fits (cast_signed w8 (low_bits 8 z)) fits
narrowed-typed z primitive.C within = lt-ltb (low_bits 16 z) (2 ^ 16) (low-below 16 z (omega arith))
narrowed-typed z primitive.S within =
    let fits : FitsSigned w16 (cast_signed w16 (low_bits 16 z)) = search known_rules in short-fits (cast_signed w16 (low_bits 16 z)) fits
narrowed-typed z primitive.I within =
    let fits : FitsSigned w32 (cast_signed w32 (low_bits 32 z)) = search known_rules in int-fits (cast_signed w32 (low_bits 32 z)) fits
narrowed-typed z primitive.J within = within

recast-typed : (classes : List Class) (n : Num) (q : Primitive) → is_within n ≡ true → has_type classes (value.Prim (recast n q)) (ty.Prim q) ≡ true
recast-typed classes n q within = elim (cases_Bool (is_same_primitive (primitive_of n) q)) [
  | inl e ↦ ap (λ t. is_number (if t then n else narrowed (whole n) q) q) e ∙ and_from (is_same_primitive (primitive_of n) q) (is_within n) e within
  | inr e ↦ ap (λ t. is_number (if t then n else narrowed (whole n) q) q) e ∙ narrowed-typed (whole n) q (lies-long (primitive_of n) (whole n) within)
]

unboxed_explicitly-typed : (classes : List Class) (v w : Value) (q : Primitive) → unboxed_explicitly v q ≡ Ok w → has_type classes w (ty.Prim q) ≡ true
unboxed_explicitly-typed classes value.Null w q h =
    subst (λ x. has_type classes x (ty.Prim q) ≡ true) (ok_is (value.Prim (number_of q (pos 0))) w h) (number-is q (pos 0) (zero-lies q))
unboxed_explicitly-typed classes (value.Boxed n) w q h =
    let r = if_ok (is_within n) (value.Prim (recast n q)) w (bare class_cast_class) h in
    subst (λ x. has_type classes x (ty.Prim q) ≡ true) r.1 (recast-typed classes n q r.0)
unboxed_explicitly-typed classes v w q h = absurd cc

unboxed_explicitly-throws : (classes : List Class) → AreClasses classes → (v : Value) (q : Primitive) (e : Exc) → unboxed_explicitly v q ≡ Err e →
    is_subclass classes e.class throwable_class ≡ true
unboxed_explicitly-throws classes are value.Null q e h = absurd cc
unboxed_explicitly-throws classes are (value.Boxed n) q e h =
    let d = if_err (is_within n) (value.Prim (recast n q)) (bare class_cast_class) e h in
    subst (λ (x : Exc). is_subclass classes x.class throwable_class ≡ true) d (class_cast-below classes are)
unboxed_explicitly-throws classes are v q e h = thrown_is classes (bare class_cast_class) e (class_cast-below classes are) h

recast-prim : (classes : List Class) (v w : Value) (p q : Primitive) → has_type classes v (ty.Prim p) ≡ true →
    ◌≡◌ {A = Result Value Exc} (Ok (recast_value v q)) (Ok w) → has_type classes w (ty.Prim q) ≡ true
recast-prim classes (value.Prim n) w p q typed h =
    let parts = and_parts (is_same_primitive (primitive_of n) p) (is_within n) typed in
    subst (λ x. has_type classes x (ty.Prim q) ≡ true) (ok_is (value.Prim (recast n q)) w h) (recast-typed classes n q parts.1)
recast-prim classes v w p q typed h = absurd cc

explicit-typed : (classes : List Class) (s t : Ty) (v w : Value) → can_explicit classes s t ≡ true → has_type classes v s ≡ true →
    conv_explicit classes s t v ≡ Ok w → has_type classes w t ≡ true
explicit-typed classes (ty.Prim p) (ty.Prim q) v w allowed typed h = recast-prim classes v w p q typed h
explicit-typed classes (ty.Prim p) (ty.Class c) v w allowed typed h = boxed-typed classes v w p c allowed typed h
explicit-typed classes (ty.Prim p) (ty.Array c) v w allowed typed h = absurd cc
explicit-typed classes (ty.Class s) (ty.Prim q) v w allowed typed h = unboxed_explicitly-typed classes v w q h
explicit-typed classes (ty.Array s) (ty.Prim q) v w allowed typed h = unboxed_explicitly-typed classes v w q h
explicit-typed classes s t v w allowed typed h = cast-typed classes v w t h

explicit-throws : (classes : List Class) → AreClasses classes → (s t : Ty) (v : Value) (e : Exc) → conv_explicit classes s t v ≡ Err e →
    is_subclass classes e.class throwable_class ≡ true
explicit-throws classes are (ty.Prim p) (ty.Prim q) v e h = prim-throws classes (recast_value v q) e h
explicit-throws classes are (ty.Prim p) t v e h = prim-throws classes (boxed v) e h
explicit-throws classes are s (ty.Prim q) v e h = unboxed_explicitly-throws classes are v q e h
explicit-throws classes are s t v e h = cast-throws classes are v t e h

-- ---- by the rules

pub conv-typed : (by : Rules) (classes : List Class) (s t : Ty) (v w : Value) → can by classes s t ≡ true → has_type classes v s ≡ true →
    conv by classes s t v ≡ Ok w → has_type classes w t ≡ true
conv-typed rules.AsType classes s t v w allowed typed h = as_type-typed classes s t v w allowed typed h
conv-typed rules.Explicit classes s t v w allowed typed h = explicit-typed classes s t v w allowed typed h

pub conv-throws : (by : Rules) (classes : List Class) → AreClasses classes → (s t : Ty) (v : Value) (e : Exc) → conv by classes s t v ≡ Err e →
    is_subclass classes e.class throwable_class ≡ true
conv-throws rules.AsType classes are s t v e h = as_type-throws classes are s t v e h
conv-throws rules.Explicit classes are s t v e h = explicit-throws classes are s t v e h
