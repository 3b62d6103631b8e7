-- Numbers: what is read is what the text spells.
use Rattle.std.proofs.Common.{◌≡◌, refl, sym, ap, subst, ◌∙◌, ℕ, ◌^◌, ◌<◌, inl, inr, ℤ, pos, Bool, true, false, ◌&&◌, if◌then◌else◌, nat_lt, List, codes, None, Some, option_map, option_and_then, IsTrue}
use Rattle.std.proofs.lemmas.Bool.{and_parts, or_cases, or_right, ltb-true}
use Rattle.std.proofs.lemmas.Slice.Eq.{bytes_eq-Decides}
use Rattle.std.specs.Fmt.{decimal, signed_decimal}
use Rattle.std.specs.Str.{bytes_eq}
use Rattle.std.specs.Str.Parse.{digits_value, signed_digits_value, without_leading_plus}
use Rattle.mh_values.specs.declared.types.Primitive.{Primitive}
use Rattle.mh_values.specs.declared.types.Primitive.TheVariants as primitive
use Rattle.mh_values.specs.declared.value.Num.{Num}
use Rattle.mh_values.specs.declared.value.Num.TheVariants as num
use Rattle.mh_values.specs.Primitives.{primitive_of, whole, is_within, number_as}
use Rattle.mh_values.proofs.PrimitiveNumbers.{number_as-law}
use Rattle.mh_texts.specs.Literal.{bool_of, primitive_marked, integer_meant, number_meant, marked_number}
use Rattle.mh_texts.specs.Number.{is_long, writes, long_of, unsigned_of}
use Rattle.mh_texts.specs.LiteralText.{bool_text, mark_of}
use Rattle.mh_texts.specs.Spells.{SpellsInteger, SpellsUnsigned, SpellsNumber}
use Rattle.mh_base.proofs.Inversion.{by_test, some_is, none_is_not, map_some, then_some}
use Rattle.mh_texts.proofs.Marks.{marked-is}
use Rattle.mh_texts.proofs.NumberTrip.{bool_trip, long_trip, unsigned_trip, within_long}

-- ---- integers

long_spelled : (text : List ℕ) (n : ℤ) → long_of text ≡ Some n → (is_long n ≡ true) × SpellsInteger text n
long_spelled text n told =
    let m : ℤ = signed_digits_value 10 text in
    by_test (is_long m && writes m text) (Some m) None (Some n) told
    (λ fits is.
    let parts = and_parts (is_long m) (writes m text) fits in
    let same : m ≡ n = some_is m n is in (
      ap is_long (sym same) ∙ parts.0,
      elim (or_cases (bytes_eq (signed_decimal m) text) (bytes_eq (codes "-0") text) parts.1) [
        | inl e ↦ inl (sym ((bytes_eq-Decides _ _).0 e) ∙ ap signed_decimal same)
        | inr e ↦ let zero : codes "-0" ≡ text = (bytes_eq-Decides _ _).0 e in inr (sym zero, sym same ∙ ap (signed_digits_value 10) (sym zero))
      ],
    ))
    (λ fits is. none_is_not n is)

minus_zero : long_of (codes "-0") ≡ Some (pos 0)
minus_zero =
    ap (λ t. if t then Some (pos 0) else None) (or_right (bytes_eq (signed_decimal (pos 0)) (codes "-0")) (bytes_eq (codes "-0") (codes "-0")) refl)

long_read : (text : List ℕ) (n : ℤ) → is_long n ≡ true → SpellsInteger text n → long_of text ≡ Some n
long_read text n fits (inl is) = ap long_of is ∙ long_trip n fits
long_read text n fits (inr is) = ap long_of is.0 ∙ minus_zero ∙ ap Some (sym is.1)

pub unsigned_spelled : (text : List ℕ) (n : ℕ) → unsigned_of text ≡ Some n → SpellsUnsigned text n
unsigned_spelled text n told =
    let m : ℕ = digits_value 10 (without_leading_plus text) in
    by_test (nat_lt m (2 ^ 32) && bytes_eq (decimal m) text) (Some m) None (Some n) told
    (λ fits is.
    let parts = and_parts (nat_lt m (2 ^ 32)) (bytes_eq (decimal m) text) fits in
    let same : m ≡ n = some_is m n is in
    (subst (λ k. k < 2 ^ 32) same (ltb-true m (2 ^ 32) parts.0), sym ((bytes_eq-Decides _ _).0 parts.1) ∙ ap decimal same))
    (λ fits is. none_is_not n is)

pub unsigned_read : (text : List ℕ) (n : ℕ) → SpellsUnsigned text n → unsigned_of text ≡ Some n
unsigned_read text n is = ap unsigned_of is.1 ∙ unsigned_trip n is.0

-- ---- truth values

bool_spelled : (text : List ℕ) (b : Bool) → bool_of text ≡ Some b → text ≡ bool_text b
bool_spelled text b told =
    by_test (bytes_eq text (codes "true")) _ _ (Some b) told (λ e is. (bytes_eq-Decides _ _).0 e ∙ ap bool_text (some_is true b is)) (λ e is.
    by_test (bytes_eq text (codes "false")) _ _ (Some b) is (λ e is. (bytes_eq-Decides _ _).0 e ∙ ap bool_text (some_is false b is))
    (λ e is. none_is_not b is))

-- ---- numbers of a primitive type

integer_spelled : (p : Primitive) (text : List ℕ) (n : Num) → integer_meant p text ≡ Some n →
    (primitive_of n ≡ p) × IsTrue (is_within n) × SpellsInteger text (whole n)
integer_spelled p text n told =
    let read = then_some (number_as p) (long_of text) n told in
    let is = (number_as-law p read.0 n).0 read.2 in
    (is.0, is.2, subst (SpellsInteger text) (sym is.1) (long_spelled text read.0 read.1).1)

integer_read : (text : List ℕ) (n : Num) → is_within n ≡ true → SpellsInteger text (whole n) → integer_meant (primitive_of n) text ≡ Some n
integer_read text n fits is =
    ap (option_and_then (number_as (primitive_of n))) (long_read text (whole n) (within_long n fits) is)
    ∙ (number_as-law (primitive_of n) (whole n) n).1 (refl, refl, fits)

-- a number of another type than boolean is spelled in decimal
in_decimal : (text : List ℕ) (n : Num) → (primitive_of n ≡ primitive.Z → ⊥) → IsTrue (is_within n) → SpellsInteger text (whole n) → SpellsNumber text n
in_decimal text (num.Z b) other fits is = absurd (other refl)
in_decimal text (num.B n) other fits is = (fits, is)
in_decimal text (num.C n) other fits is = (fits, is)
in_decimal text (num.S n) other fits is = (fits, is)
in_decimal text (num.I n) other fits is = (fits, is)
in_decimal text (num.J n) other fits is = (fits, is)

decimal_spelled : (p : Primitive) (text : List ℕ) (n : Num) → (p ≡ primitive.Z → ⊥) → integer_meant p text ≡ Some n →
    (primitive_of n ≡ p) × SpellsNumber text n
decimal_spelled p text n other told =
    let said = integer_spelled p text n told in (said.0, in_decimal text n (λ e. other (sym said.0 ∙ e)) said.1 said.2)

typed_spelled : (p : Primitive) (text : List ℕ) (n : Num) → number_meant p text ≡ Some n → (primitive_of n ≡ p) × SpellsNumber text n
typed_spelled primitive.Z text n told =
    let read = map_some num.Z (bool_of text) n told in
    subst (λ m. (primitive_of m ≡ primitive.Z) × SpellsNumber text m) read.2 (refl, bool_spelled text read.0 read.1)
typed_spelled primitive.B text n told = decimal_spelled primitive.B text n (λ e. cc) told
typed_spelled primitive.C text n told = decimal_spelled primitive.C text n (λ e. cc) told
typed_spelled primitive.S text n told = decimal_spelled primitive.S text n (λ e. cc) told
typed_spelled primitive.I text n told = decimal_spelled primitive.I text n (λ e. cc) told
typed_spelled primitive.J text n told = decimal_spelled primitive.J text n (λ e. cc) told

pub number_spelled : (letter : ℕ) (text : List ℕ) (n : Num) → marked_number letter text ≡ Some n →
    (letter ≡ mark_of (primitive_of n)) × SpellsNumber text n
number_spelled letter text n told =
    let read = then_some (λ p. number_meant p text) (primitive_marked letter) n told in
    let said = typed_spelled read.0 text n read.2 in
    (marked-is letter read.0 read.1 ∙ ap mark_of (sym said.0), said.1)

pub number_read : (text : List ℕ) (n : Num) → SpellsNumber text n → number_meant (primitive_of n) text ≡ Some n
number_read text (num.Z b) is = ap (λ t. option_map num.Z (bool_of t)) is ∙ ap (option_map num.Z) (bool_trip b)
number_read text (num.B n) is = integer_read text (num.B n) is.0 is.1
number_read text (num.C n) is = integer_read text (num.C n) is.0 is.1
number_read text (num.S n) is = integer_read text (num.S n) is.0 is.1
number_read text (num.I n) is = integer_read text (num.I n) is.0 is.1
number_read text (num.J n) is = integer_read text (num.J n) is.0 is.1
