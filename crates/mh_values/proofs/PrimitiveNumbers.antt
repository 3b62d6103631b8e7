-- The numbers of a primitive type are the whole numbers in its range.
use Rattle.std.proofs.Common.{◌≡◌, refl, sym, ap, ap₂, subst, ◌∙◌, ℕ, zero, suc, ◌^◌, ◌<◌, ◌≤◌, ℤ, pos, negsuc, Bool, true, false, if◌then◌else◌, None, Some, ◌↔◌, arith}
use Rattle.std.proofs.lemmas.Bool.{and_from, lt-ltb, ltb-true}
use Rattle.mh_base.proofs.Inversion.{if_some}
use Rattle.mh_values.specs.declared.types.Primitive.{Primitive}
use Rattle.mh_values.specs.declared.types.Primitive.TheVariants as primitive
use Rattle.mh_values.specs.declared.value.Num.{Num}
use Rattle.mh_values.specs.declared.value.Num.TheVariants as num
use Rattle.mh_values.proofs.PrimitiveLaws.{same_primitive-itself}
use Rattle.mh_values.specs.Primitives.{is_same_primitive, primitive_of, whole, is_signed, is_unsigned, lies_in, is_within, is_number, number_of, number_as, IsNumber}

-- ---- numbers

pub number-type : (p : Primitive) (z : ℤ) → primitive_of (number_of p z) ≡ p
number-type primitive.Z z = refl
number-type primitive.B z = refl
number-type primitive.C z = refl
number-type primitive.S z = refl
number-type primitive.I z = refl
number-type primitive.J z = refl

pub number-whole : (p : Primitive) (z : ℤ) → lies_in p z ≡ true → whole (number_of p z) ≡ z
number-whole primitive.Z (pos zero) lies = refl
number-whole primitive.Z (pos (suc zero)) lies = refl
number-whole primitive.Z (pos (suc (suc n))) lies = let few : suc (suc n) < 2 = ltb-true (suc (suc n)) 2 lies in absurd (omega arith)
number-whole primitive.Z (negsuc n) lies = absurd cc
number-whole primitive.B z lies = refl
number-whole primitive.C (pos n) lies = refl
number-whole primitive.C (negsuc n) lies = absurd cc
number-whole primitive.S z lies = refl
number-whole primitive.I z lies = refl
number-whole primitive.J z lies = refl

-- a number is the one of its type that its whole number is
pub whole-number : (n : Num) → number_of (primitive_of n) (whole n) ≡ n
whole-number (num.Z true) = refl
whole-number (num.Z false) = refl
whole-number (num.B n) = refl
whole-number (num.C n) = refl
whole-number (num.S n) = refl
whole-number (num.I n) = refl
whole-number (num.J n) = refl

-- the law of the table: the numbers of a type are the whole numbers in its range
pub number_as-law : (p : Primitive) (z : ℤ) (n : Num) → (number_as p z ≡ Some n) ↔ IsNumber p z n
number_as-law p z n = (
  λ told.
      let made = if_some (lies_in p z) (number_of p z) n told in
      let type = number-type p z in
      let is = number-whole p z made.0 in
      subst (IsNumber p z) made.1 (type, is, ap₂ lies_in type is ∙ made.0),
  λ is.
      ap₂ number_as (sym is.0) (sym is.1)
      ∙ ap (λ t. if t then Some (number_of (primitive_of n) (whole n)) else None) is.2
      ∙ ap Some (whole-number n),
)

-- ---- ranges

pub signed-wider : (few more : ℕ) (z : ℤ) → 2 ^ few ≤ 2 ^ more → is_signed few z ≡ true → is_signed more z ≡ true
signed-wider few more (pos n) wide within = let small : n < 2 ^ few = ltb-true n (2 ^ few) within in lt-ltb n (2 ^ more) (omega arith)
signed-wider few more (negsuc n) wide within = let small : n < 2 ^ few = ltb-true n (2 ^ few) within in lt-ltb n (2 ^ more) (omega arith)

pub unsigned-wider : (few more : ℕ) (z : ℤ) → 2 ^ few ≤ 2 ^ more → is_unsigned few z ≡ true → is_signed more z ≡ true
unsigned-wider few more (pos n) wide within = let small : n < 2 ^ few = ltb-true n (2 ^ few) within in lt-ltb n (2 ^ more) (omega arith)
unsigned-wider few more (negsuc n) wide within = absurd cc

-- 0 is in each range
pub zero-lies : (p : Primitive) → lies_in p (pos 0) ≡ true
zero-lies primitive.Z = refl
zero-lies primitive.B = refl
zero-lies primitive.C = refl
zero-lies primitive.S = refl
zero-lies primitive.I = refl
zero-lies primitive.J = refl

-- each range is within that of long
pub lies-long : (p : Primitive) (z : ℤ) → lies_in p z ≡ true → is_signed 63 z ≡ true
lies-long primitive.Z z lies = unsigned-wider 1 63 z (omega arith) lies
lies-long primitive.B z lies = signed-wider 7 63 z (omega arith) lies
lies-long primitive.C z lies = unsigned-wider 16 63 z (omega arith) lies
lies-long primitive.S z lies = signed-wider 15 63 z (omega arith) lies
lies-long primitive.I z lies = signed-wider 31 63 z (omega arith) lies
lies-long primitive.J z lies = lies

pub boolean-within : (b : Bool) → is_within (num.Z b) ≡ true
boolean-within true = refl
boolean-within false = refl

-- the number that a whole number in the range is, is of the type
pub number-is : (p : Primitive) (z : ℤ) → lies_in p z ≡ true → is_number (number_of p z) p ≡ true
number-is p z lies =
    and_from (is_same_primitive (primitive_of (number_of p z)) p) (is_within (number_of p z))
    (ap (λ q. is_same_primitive q p) (number-type p z) ∙ same_primitive-itself p)
    (ap₂ lies_in (number-type p z) (number-whole p z lies) ∙ lies)
