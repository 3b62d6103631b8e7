-- The letters of the primitive types: letters and types are one to one.
use Rattle.std.proofs.Common.{◌≡◌, refl, sym, ap, ◌∙◌, ℕ, ◌==◌, true, false, if◌then◌else◌, None, Some}
use Rattle.std.proofs.lemmas.Bool.{eqb-true, eq-eqb}
use Rattle.mh_base.proofs.Inversion.{by_test, some_is, none_is_not}
use Rattle.mh_values.specs.declared.descriptor.Place.{Place}
use Rattle.mh_values.specs.declared.descriptor.Standing.TheVariants as standing
use Rattle.mh_values.specs.declared.types.Primitive.{Primitive}
use Rattle.mh_values.specs.declared.types.Primitive.TheVariants as primitive
use Rattle.mh_values.specs.declared.types.Ty.TheVariants as ty
use Rattle.mh_values.specs.Grammar.{is_base, after_type, element, begun, slots_from}
use Rattle.mh_values.specs.Primitives.{letter_of, primitive_named, is_same_primitive, whole}
use Rattle.mh_values.specs.Slots.{slots_of}
use Rattle.mh_values.proofs.Beginnings.{base_other}

-- ---- letters

-- each letter is one of the grammar
letter-base : (p : Primitive) → is_base (letter_of p) ≡ true
letter-base primitive.Z = refl
letter-base primitive.B = refl
letter-base primitive.C = refl
letter-base primitive.S = refl
letter-base primitive.I = refl
letter-base primitive.J = refl

-- and so none of the other bytes
pub letter-apart : (p : Primitive) (b : ℕ) → is_base b ≡ false → (letter_of p == b) ≡ false
letter-apart p b other = base_other (letter_of p) b (letter-base p) other

pub letter-slots : (p : Primitive) → slots_from (letter_of p) ≡ slots_of (ty.Prim p)
letter-slots primitive.Z = refl
letter-slots primitive.B = refl
letter-slots primitive.C = refl
letter-slots primitive.S = refl
letter-slots primitive.I = refl
letter-slots primitive.J = refl

-- a type is that of its letter
pub letter-named : (p : Primitive) → primitive_named (letter_of p) ≡ Some p
letter-named primitive.Z = refl
letter-named primitive.B = refl
letter-named primitive.C = refl
letter-named primitive.S = refl
letter-named primitive.I = refl
letter-named primitive.J = refl

pub named-letter : (b : ℕ) (p : Primitive) → primitive_named b ≡ Some p → b ≡ letter_of p
named-letter b p told =
    let is : (c : ℕ) (q : Primitive) → letter_of q ≡ c → (b == c) ≡ true → Some q ≡ Some p → b ≡ letter_of p =
    λ c q of same some. eqb-true b c same ∙ sym of ∙ ap letter_of (some_is q p some) in
    by_test (b == 90) _ _ (Some p) told (is 90 primitive.Z refl) (λ e told.
    by_test (b == 66) _ _ (Some p) told (is 66 primitive.B refl) (λ e told.
    by_test (b == 67) _ _ (Some p) told (is 67 primitive.C refl) (λ e told.
    by_test (b == 83) _ _ (Some p) told (is 83 primitive.S refl) (λ e told.
    by_test (b == 73) _ _ (Some p) told (is 73 primitive.I refl) (λ e told.
    by_test (b == 74) _ _ (Some p) told (is 74 primitive.J refl) (λ e told. none_is_not p told))))))

-- a letter is a whole element of a type
pub letter-element : (p : Primitive) (at : Place) → element at (letter_of p) ≡ Some (after_type at)
letter-element p at =
    ap (λ t. if t then Some (standing.Name at false) else (if is_base (letter_of p) then Some (after_type at) else None)) (letter-apart p 76 refl)
    ∙ ap (λ t. if t then Some (after_type at) else None) (letter-base p)

-- and begins none that is an array
pub letter-begun : (p : Primitive) (at : Place) → begun at (letter_of p) ≡ Some (after_type at)
letter-begun p at = ap (λ t. if t then Some (standing.Dimensions at 1) else element at (letter_of p)) (letter-apart p 91 refl) ∙ letter-element p at

-- ---- equal types

pub same_primitive-is : (p q : Primitive) → is_same_primitive p q ≡ true → p ≡ q
same_primitive-is p q same =
    some_is p q (sym (letter-named p) ∙ ap primitive_named (eqb-true (letter_of p) (letter_of q) same) ∙ letter-named q)

pub same_primitive-itself : (p : Primitive) → is_same_primitive p p ≡ true
same_primitive-itself p = eq-eqb (letter_of p) (letter_of p) refl
