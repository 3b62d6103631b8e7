-- What stands before numbers in literals: letters and primitive types are one to one.
use Rattle.std.proofs.Common.{◌≡◌, refl, sym, ap, ◌∙◌, ℕ, ◌-◌, ◌≤◌, ◌==◌, true, List, Some, option_map, arith}
use Rattle.std.proofs.lemmas.Bool.{eqb-true}
use Rattle.mh_base.proofs.Inversion.{by_test, some_is, none_is_not}
use Rattle.mh_values.specs.declared.class.Class.{Class}
use Rattle.mh_values.specs.declared.types.Primitive.{Primitive}
use Rattle.mh_values.specs.declared.types.Primitive.TheVariants as primitive
use Rattle.mh_values.specs.declared.value.Cell.TheVariants as cell
use Rattle.mh_texts.specs.Literal.{primitive_marked, number_meant, tagged}
use Rattle.mh_texts.specs.LiteralText.{mark_of}

-- small letters
pub mark-low : (p : Primitive) → 97 ≤ mark_of p
mark-low primitive.Z = omega arith
mark-low primitive.B = omega arith
mark-low primitive.C = omega arith
mark-low primitive.S = omega arith
mark-low primitive.I = omega arith
mark-low primitive.J = omega arith

pub mark-high : (p : Primitive) → mark_of p ≤ 122
mark-high primitive.Z = omega arith
mark-high primitive.B = omega arith
mark-high primitive.C = omega arith
mark-high primitive.S = omega arith
mark-high primitive.I = omega arith
mark-high primitive.J = omega arith

-- a type is that of its letter
pub mark-tagged : (classes : List Class) (p : Primitive) (text : List ℕ) → tagged classes (mark_of p) text ≡ option_map cell.Prim (number_meant p text)
mark-tagged classes primitive.Z text = refl
mark-tagged classes primitive.B text = refl
mark-tagged classes primitive.C text = refl
mark-tagged classes primitive.S text = refl
mark-tagged classes primitive.I text = refl
mark-tagged classes primitive.J text = refl

pub boxed-tagged : (classes : List Class) (p : Primitive) (text : List ℕ) → tagged classes (mark_of p - 32) text ≡ option_map cell.Boxed (number_meant p text)
boxed-tagged classes primitive.Z text = refl
boxed-tagged classes primitive.B text = refl
boxed-tagged classes primitive.C text = refl
boxed-tagged classes primitive.S text = refl
boxed-tagged classes primitive.I text = refl
boxed-tagged classes primitive.J text = refl

pub marked-is : (b : ℕ) (p : Primitive) → primitive_marked b ≡ Some p → b ≡ mark_of p
marked-is b p told =
    let is : (c : ℕ) (q : Primitive) → mark_of q ≡ c → (b == c) ≡ true → Some q ≡ Some p → b ≡ mark_of p =
    λ c q of same some. eqb-true b c same ∙ sym of ∙ ap mark_of (some_is q p some) in
    by_test (b == 122) _ _ (Some p) told (is 122 primitive.Z refl) (λ e told.
    by_test (b == 98) _ _ (Some p) told (is 98 primitive.B refl) (λ e told.
    by_test (b == 99) _ _ (Some p) told (is 99 primitive.C refl) (λ e told.
    by_test (b == 104) _ _ (Some p) told (is 104 primitive.S refl) (λ e told.
    by_test (b == 105) _ _ (Some p) told (is 105 primitive.I refl) (λ e told.
    by_test (b == 106) _ _ (Some p) told (is 106 primitive.J refl) (λ e told. none_is_not p told))))))
