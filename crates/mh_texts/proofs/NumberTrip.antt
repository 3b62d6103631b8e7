-- A printed number reads back.
use Rattle.std.proofs.Common.{◌≡◌, refl, ap, ◌∙◌, suc, codes, lit<, nat_lt, ℕ, ◌^◌, ◌<◌, ◌==◌, ℤ, pos, negsuc, neg_ℤ, Bool, true, false, ◌&&◌, ◌||◌, cond, if◌then◌else◌, List, [], ◌∷◌, length, drop, get_or, None, Some, option_map, option_and_then, arith}
use Rattle.std.proofs.lemmas.Bool.{and_from, or_left, ltb-true, lt-ltb, ne_eqb}
use Rattle.std.proofs.lemmas.Fmt.{decimal_is_IsNumeral}
use Rattle.std.proofs.lemmas.Str.Parse.{digit_from_value}
use Rattle.std.specs.Fmt.{decimal, signed_decimal}
use Rattle.std.specs.Str.{bytes_eq}
use Rattle.std.specs.Str.Parse.{AllDigits, digits_value, signed_digits_value, without_leading_plus}
use Rattle.mh_base.proofs.Tests.{text_itself}
use Rattle.mh_values.specs.declared.value.Num.{Num}
use Rattle.mh_values.specs.declared.value.Num.TheVariants as num
use Rattle.mh_values.specs.Primitives.{primitive_of, whole, is_within, number_as}
use Rattle.mh_values.proofs.PrimitiveNumbers.{lies-long, number_as-law}
use Rattle.mh_texts.specs.Literal.{bool_of, integer_meant, number_meant}
use Rattle.mh_texts.specs.Number.{is_long, long_of, unsigned_of}
use Rattle.mh_texts.specs.LiteralText.{bool_text, number_text}

-- digits begin neither with a plus nor with a minus
pub no_sign : (ds : List ℕ) (sign : ℕ) → sign < 48 → 0 < length ds → AllDigits 10 ds → (get_or ds 0 0 == sign) ≡ false
no_sign [] sign low some digits = absurd (omega (arith, some))
no_sign (d ∷ ds) sign low some digits = let range = digit_from_value d digits.0 in ne_eqb d sign (λ e. omega (arith, range.0, e))

-- the value of digits without a sign
pub unsigned_value : (n : ℕ) → n < 2 ^ 64 → digits_value 10 (without_leading_plus (decimal n)) ≡ n
unsigned_value n small =
    let k = decimal_is_IsNumeral n small in
    ap (λ t. digits_value 10 (drop (cond t 1 0) (decimal n))) (no_sign (decimal n) 43 (lit< tt) k.0.0 k.0.1) ∙ k.1

pub unsigned_trip : (n : ℕ) → n < 2 ^ 32 → unsigned_of (decimal n) ≡ Some n
unsigned_trip n small =
    let value = unsigned_value n (omega arith) in
    ap (λ m. if nat_lt m (2 ^ 32) && bytes_eq (decimal m) (decimal n) then Some m else None) value
    ∙ ap (λ t. if t then Some n else None) (and_from _ _ (lt-ltb n (2 ^ 32) small) (text_itself (decimal n)))

signed_value : (z : ℤ) → is_long z ≡ true → signed_digits_value 10 (signed_decimal z) ≡ z
signed_value (pos n) long =
    let small : n < 2 ^ 63 = ltb-true n (2 ^ 63) long in
    let k = decimal_is_IsNumeral n (omega arith) in
    ap (λ t. cond t (neg_ℤ (pos (digits_value 10 (cond t (drop 1 (decimal n)) (without_leading_plus (decimal n))))))
    (pos (digits_value 10 (cond t (drop 1 (decimal n)) (without_leading_plus (decimal n)))))) (no_sign (decimal n) 45 (lit< tt) k.0.0 k.0.1)
    ∙ ap pos (unsigned_value n (omega arith))
signed_value (negsuc n) long =
    let small : n < 2 ^ 63 = ltb-true n (2 ^ 63) long in
    ap (λ m. neg_ℤ (pos m)) (decimal_is_IsNumeral (suc n) (omega arith)).1

pub long_trip : (z : ℤ) → is_long z ≡ true → long_of (signed_decimal z) ≡ Some z
long_trip z long =
    ap (λ m. if is_long m && (bytes_eq (signed_decimal m) (signed_decimal z) || bytes_eq (codes "-0") (signed_decimal z)) then Some m else None)
    (signed_value z long)
    ∙ ap (λ t. if t then Some z else None) (and_from _ _ long (or_left _ _ (text_itself (signed_decimal z))))

pub bool_trip : (b : Bool) → bool_of (bool_text b) ≡ Some b
bool_trip true = refl
bool_trip false = refl

-- a number in the range of its type has 64 bits
pub within_long : (n : Num) → is_within n ≡ true → is_long (whole n) ≡ true
within_long n h = lies-long (primitive_of n) (whole n) h

integer_trip : (n : Num) → is_within n ≡ true → integer_meant (primitive_of n) (signed_decimal (whole n)) ≡ Some n
integer_trip n is =
    ap (option_and_then (number_as (primitive_of n))) (long_trip (whole n) (within_long n is))
    ∙ (number_as-law (primitive_of n) (whole n) n).1 (refl, refl, is)

pub number_trip : (n : Num) → is_within n ≡ true → number_meant (primitive_of n) (number_text n) ≡ Some n
number_trip (num.Z b) is = ap (option_map num.Z) (bool_trip b)
number_trip (num.B n) is = integer_trip (num.B n) is
number_trip (num.C n) is = integer_trip (num.C n) is
number_trip (num.S n) is = integer_trip (num.S n) is
number_trip (num.I n) is = integer_trip (num.I n) is
number_trip (num.J n) is = integer_trip (num.J n) is
