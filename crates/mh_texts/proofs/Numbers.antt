-- Numbers: what is read is what is written.
use Rattle.std.proofs.Common.{◌≡◌, refl, sym, ◌∙◌, ap, subst, zero, suc, lit<, codes, ℕ, ◌^◌, ◌<◌, inl, inr, ℤ, pos, negsuc, neg_ℤ, Bool, true, ◌&&◌, if◌then◌else◌, List, ◌∷◌, None, Some, Result, Ok, Err, FitsSigned, w64, nat_lt, arith}
use Rattle.std.proofs.lemmas.Bool.{and_parts, or_cases, ltb-true, lt-ltb}
use Rattle.std.proofs.lemmas.Fmt.{decimal_is_IsNumeral, parse-decimal, IsAscii-decimal}
use Rattle.std.proofs.lemmas.Result.{Ok-from_Ok_iff}
use Rattle.std.proofs.lemmas.Slice.Eq.{bytes_eq-Decides}
use Rattle.std.proofs.lemmas.Str.{IsUtf8-from_ascii}
use Rattle.std.proofs.lemmas.Str.Parse.{numerals_by_value, tells_digits, parse_signed_digits, parse_signed_minus}
use Rattle.std.specs.Fmt.{decimal, signed_decimal}
use Rattle.std.specs.Str.{bytes_eq, IsUtf8, IsAscii}
use Rattle.std.specs.Str.Parse.{digits_value, signed_digits_value, without_leading_plus, ParsesSigned, ParsesUnsigned}
use Rattle.mh_base.proofs.Inversion.{if_none}
use Rattle.mh_texts.specs.Number.{is_long, writes, long_of, unsigned_of}

-- ---- numbers with a sign

is_long-fits : (z : ℤ) → is_long z ≡ true → FitsSigned w64 z
is_long-fits (pos n) h = grind arith
is_long-fits (negsuc n) h = grind arith

parse_long : {E : Type 0} (z : ℤ) (text : List ℕ) (r : Result ℤ E) → is_long z ≡ true → text ≡ signed_decimal z → ParsesSigned w64 10 text r → r ≡ Ok z
parse_long (pos n) text r long is h =
    let small : n < 2 ^ 63 = ltb-true n (2 ^ 63) long in
    let k = decimal_is_IsNumeral n (omega arith) in
    let fits = is_long-fits (pos n) long in
    let read = parse_signed_digits (numerals_by_value _ tells_digits) w64 (decimal n) r (subst (λ l. ParsesSigned w64 10 l r) is h) k.0.1 in
    Ok-from_Ok_iff r _ _ read (k.0.0, omega (arith, k.1, fits.sfits)) ∙ ap (λ m. Ok (pos m)) k.1
parse_long (negsuc n) text r long is h =
    let small : n < 2 ^ 63 = ltb-true n (2 ^ 63) long in
    let k = decimal_is_IsNumeral (suc n) (omega arith) in
    let fits = is_long-fits (negsuc n) long in
    let read = parse_signed_minus (numerals_by_value _ tells_digits) w64 (45 ∷ decimal (suc n)) r (subst (λ l. ParsesSigned w64 10 l r) is h) refl in
    Ok-from_Ok_iff r _ _ read (k.0.1, k.0.0, omega (arith, k.1, fits.sfits)) ∙ ap (λ m. Ok (neg_ℤ (pos m))) k.1

parse_minus_zero : {E : Type 0} (r : Result ℤ E) → ParsesSigned w64 10 (codes "-0") r → r ≡ Ok (pos 0)
parse_minus_zero r h = Ok-from_Ok_iff r _ _ h ((lit< tt, (lit< tt, tt)), is_long-fits (pos 0) refl)

-- where the digits are refused, no number is written so
pub long_of-refused : {E : Type 0} (text : List ℕ) (r : Result ℤ E) (e : E) → ParsesSigned w64 10 text r → r ≡ Err e → None ≡ long_of text
long_of-refused text r e parses refused =
    if_none (is_long (signed_digits_value 10 text) && writes (signed_digits_value 10 text) text) (signed_digits_value 10 text) (λ so.
    let parts = and_parts _ _ so in
    elim (or_cases (bytes_eq (signed_decimal (signed_digits_value 10 text)) text) (bytes_eq (codes "-0") text) parts.1) [
      | inl w ↦
          let read : r ≡ Ok (signed_digits_value 10 text) = parse_long (signed_digits_value 10 text) text r parts.0 (sym ((bytes_eq-Decides _ _).0 w)) parses in
          cc
      | inr w ↦
          let read : r ≡ Ok (pos 0) = parse_minus_zero r (subst (λ t. ParsesSigned w64 10 t r) (sym ((bytes_eq-Decides (codes "-0") text).0 w)) parses) in cc
    ])

signed-ascii : (z : ℤ) → is_long z ≡ true → IsAscii (signed_decimal z)
signed-ascii (pos n) long i = let small : n < 2 ^ 63 = ltb-true n (2 ^ 63) long in IsAscii-decimal n (omega arith) i
signed-ascii (negsuc n) long zero = lit< tt
signed-ascii (negsuc n) long (suc i) = let small : n < 2 ^ 63 = ltb-true n (2 ^ 63) long in IsAscii-decimal (suc n) (omega arith) i

minus_zero-ascii : IsAscii (codes "-0")
minus_zero-ascii zero = lit< tt
minus_zero-ascii (suc zero) = lit< tt
minus_zero-ascii (suc (suc i)) = lit< tt

-- what is no text is no number
pub long_of-no_text : (text : List ℕ) → (IsUtf8 text → ⊥) → None ≡ long_of text
long_of-no_text text no_text =
    if_none (is_long (signed_digits_value 10 text) && writes (signed_digits_value 10 text) text) (signed_digits_value 10 text) (λ so.
    let parts = and_parts _ _ so in
    elim (or_cases (bytes_eq (signed_decimal (signed_digits_value 10 text)) text) (bytes_eq (codes "-0") text) parts.1) [
      | inl w ↦ no_text (subst IsUtf8 ((bytes_eq-Decides _ _).0 w) (IsUtf8-from_ascii _ (signed-ascii (signed_digits_value 10 text) parts.0)))
      | inr w ↦ no_text (subst IsUtf8 ((bytes_eq-Decides (codes "-0") text).0 w) (IsUtf8-from_ascii (codes "-0") minus_zero-ascii))
    ])

-- ---- numbers without a sign

pub unsigned_of-refused : {E : Type 0} (text : List ℕ) (r : Result ℕ E) (e : E) → ParsesUnsigned 32 10 text r → r ≡ Err e → None ≡ unsigned_of text
unsigned_of-refused text r e parses refused =
    let n : ℕ = digits_value 10 (without_leading_plus text) in
    if_none (nat_lt n (2 ^ 32) && bytes_eq (decimal n) text) n (λ so.
    let parts = and_parts _ _ so in
    let small : n < 2 ^ 32 = ltb-true n (2 ^ 32) parts.0 in
    let read : r ≡ Ok n = parse-decimal 32 n text r small (omega arith) (sym ((bytes_eq-Decides _ _).0 parts.1)) parses in cc)

pub unsigned_of-no_text : (text : List ℕ) → (IsUtf8 text → ⊥) → None ≡ unsigned_of text
unsigned_of-no_text text no_text =
    let n : ℕ = digits_value 10 (without_leading_plus text) in
    if_none (nat_lt n (2 ^ 32) && bytes_eq (decimal n) text) n (λ so.
    let parts = and_parts _ _ so in
    let small : n < 2 ^ 32 = ltb-true n (2 ^ 32) parts.0 in
    no_text (subst IsUtf8 ((bytes_eq-Decides _ _).0 parts.1) (IsUtf8-from_ascii _ (IsAscii-decimal n (omega arith)))))

-- a number that was parsed is the one that is written so, where its own text is the text
pub unsigned_of-read : (text : List ℕ) (n : ℕ) (b : Bool) → digits_value 10 (without_leading_plus text) < 2 ^ 32 →
    n ≡ digits_value 10 (without_leading_plus text) → b ≡ bytes_eq (decimal n) text → unsigned_of text ≡ (if b then Some n else None)
unsigned_of-read text n b small is test =
    let fits : nat_lt (digits_value 10 (without_leading_plus text)) (2 ^ 32) ≡ true = lt-ltb _ _ small in
    ap (λ t. if t && bytes_eq (decimal (digits_value 10 (without_leading_plus text))) text then Some (digits_value 10 (without_leading_plus text)) else None)
    fits
    ∙ ap (λ m. if bytes_eq (decimal m) text then Some m else None) (sym is)
    ∙ ap (λ t. if t then Some n else None) (sym test)
