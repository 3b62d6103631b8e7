-- A number of a type is what its erasure is typed as.
use Rattle.std.proofs.Common.{◌≡◌, refl, sym, ap, ap₂, subst, ◌∙◌, true, Some, List, ℤ, option_map, option_and_then}
use Rattle.std.proofs.lemmas.Bool.{and_parts, and_from}
use Rattle.mh_base.proofs.Inversion.{some_is, map_some, then_some}
use Rattle.mh_values.specs.declared.class.Class.{Class}
use Rattle.mh_values.specs.declared.types.Primitive.{Primitive}
use Rattle.mh_values.specs.declared.types.Primitive.TheVariants as primitive
use Rattle.mh_values.specs.declared.types.Ty.TheVariants as ty
use Rattle.mh_values.specs.declared.value.Num.{Num}
use Rattle.mh_values.specs.declared.value.Value.{Value}
use Rattle.mh_values.specs.declared.value.Value.TheVariants as value
use Rattle.mh_values.specs.HasType.{has_type}
use Rattle.mh_values.specs.Primitives.{is_same_primitive, primitive_of, whole, is_within, is_number, number_as}
use Rattle.mh_values.proofs.PrimitiveLaws.{same_primitive-is, same_primitive-itself}
use Rattle.mh_values.proofs.PrimitiveNumbers.{number_as-law}
use Rattle.mh_form.specs.declared.slot.Slot.{Slot}
use Rattle.mh_form.specs.declared.slot.Slot.TheVariants as slot
use Rattle.mh_form.specs.Erasure.{erased, int_in, long_in, number_in, number_slot, typed, whole_in}

int-slot : (s : Slot) (z : ℤ) → int_in s ≡ Some z → slot.I z ≡ s
int-slot (slot.I n) z h = ap slot.I (sym (some_is n z h))
int-slot (slot.J n) z h = absurd cc
int-slot (slot.L v) z h = absurd cc

long-slot : (s : Slot) (z : ℤ) → long_in s ≡ Some z → slot.J z ≡ s
long-slot (slot.I n) z h = absurd cc
long-slot (slot.J n) z h = ap slot.J (sym (some_is n z h))
long-slot (slot.L v) z h = absurd cc

-- a slot that has a whole number is the slot of that
whole_in-slot : (p : Primitive) (s : Slot) (z : ℤ) → whole_in p s ≡ Some z → number_slot p z ≡ s
whole_in-slot primitive.Z s z h = int-slot s z h
whole_in-slot primitive.B s z h = int-slot s z h
whole_in-slot primitive.C s z h = int-slot s z h
whole_in-slot primitive.S s z h = int-slot s z h
whole_in-slot primitive.I s z h = int-slot s z h
whole_in-slot primitive.J s z h = long-slot s z h

-- and the slot of a whole number has it
slot-whole_in : (p : Primitive) (z : ℤ) → whole_in p (number_slot p z) ≡ Some z
slot-whole_in primitive.Z z = refl
slot-whole_in primitive.B z = refl
slot-whole_in primitive.C z = refl
slot-whole_in primitive.S z = refl
slot-whole_in primitive.I z = refl
slot-whole_in primitive.J z = refl

-- a number that a slot has is of the type
pub number-typed : (classes : List Class) (p : Primitive) (s : Slot) (v : Value) → typed classes (ty.Prim p) s ≡ Some v →
    (has_type classes v (ty.Prim p) ≡ true) × (erased v ≡ s)
number-typed classes p s v h =
    let made = map_some value.Prim (number_in p s) v h in
    let read = then_some (number_as p) (whole_in p s) made.0 made.1 in
    let is = (number_as-law p read.0 made.0).0 read.2 in
    let same : is_same_primitive (primitive_of made.0) p ≡ true = ap (λ q. is_same_primitive q p) is.0 ∙ same_primitive-itself p in
    subst (λ u. (has_type classes u (ty.Prim p) ≡ true) × (erased u ≡ s)) made.2
    (and_from _ _ same is.2, ap₂ number_slot is.0 is.1 ∙ whole_in-slot p s read.0 read.1)

-- a number of a type is what its erasure is typed as
pub erased-number : (classes : List Class) (p : Primitive) (n : Num) → is_number n p ≡ true →
    typed classes (ty.Prim p) (number_slot (primitive_of n) (whole n)) ≡ Some (value.Prim n)
erased-number classes p n h =
    let parts = and_parts (is_same_primitive (primitive_of n) p) (is_within n) h in
    let s = number_slot (primitive_of n) (whole n) in
    ap (λ q. typed classes (ty.Prim q) s) (sym (same_primitive-is (primitive_of n) p parts.0))
    ∙ ap (λ o. option_map value.Prim (option_and_then (number_as (primitive_of n)) o)) (slot-whole_in (primitive_of n) (whole n))
    ∙ ap (option_map value.Prim) ((number_as-law (primitive_of n) (whole n) n).1 (refl, refl, parts.1))
