-- Bytes that any item may have, and the texts that have such bytes alone.
use Rattle.std.proofs.Common.{◌≡◌, refl, ap, ◌∙◌, suc, ℕ, ◌^◌, ◌<◌, ◌≤◌, ◌==◌, ℤ, pos, negsuc, inl, inr, Bool, true, false, not, ◌&&◌, nat_le, List, [], ◌∷◌, codes, arith}
use Rattle.std.proofs.lemmas.Bool.{and_parts, and_from, or_cases, not_from_false, ne_eqb, le-leb, leb-true, ltb-true}
use Rattle.std.proofs.lemmas.Fmt.{decimal_is_IsNumeral}
use Rattle.std.proofs.lemmas.List.Concat.{flat_map-cons}
use Rattle.std.proofs.lemmas.List.Folds.{list_all-append}
use Rattle.std.proofs.lemmas.Str.Parse.{digit_from_value}
use Rattle.std.specs.Fmt.{decimal, digits, signed_decimal}
use Rattle.std.specs.List.{list_all}
use Rattle.std.specs.Str.Parse.{AllDigits}
use Rattle.mh_texts.specs.Characters.{is_graphic, is_hex_digit}
use Rattle.mh_texts.specs.LiteralText.{bool_text}
use Rattle.mh_texts.specs.Number.{is_long}
use Rattle.mh_texts.specs.Text.{escaped_char, escaped}
use Rattle.mh_texts.proofs.HexTrip.{AreHexDigits, digits-hex}
use Rattle.mh_texts.proofs.SpelledDigits.{hex_is}
use Rattle.mh_texts.proofs.TextTrip.{printed_by}

-- ---- bytes that any item may have

-- a graphic byte that is no comma
abbrev pub is_of_item : ℕ → Bool
is_of_item b = is_graphic b && not (b == 44)

-- each byte of a text is one
abbrev pub AreOfItem : List ℕ → Type 0
AreOfItem text = list_all is_of_item text ≡ true

pub from_minus : (b : ℕ) → 45 ≤ b → b ≤ 126 → is_of_item b ≡ true
from_minus b low high =
    and_from (is_graphic b) (not (b == 44)) (and_from (nat_le 0x21 b) (nat_le b 0x7E) (le-leb 0x21 b (omega arith)) (le-leb b 0x7E high))
    (not_from_false (b == 44) (ne_eqb b 44 (λ e. omega arith)))

digits_are : (ds : List ℕ) → AllDigits 10 ds → AreOfItem ds
digits_are [] digits = refl
digits_are (d ∷ ds) digits =
    let range = digit_from_value d digits.0 in
    and_from (is_of_item d) (list_all is_of_item ds) (from_minus d (omega (arith, range.0)) (omega (arith, range.1))) (digits_are ds digits.1)

decimal_is : (n : ℕ) → n < 2 ^ 64 → AreOfItem (decimal n)
decimal_is n small = digits_are (decimal n) (decimal_is_IsNumeral n small).0.1

pub signed_is : (z : ℤ) → is_long z ≡ true → AreOfItem (signed_decimal z)
signed_is (pos n) long = let small : n < 2 ^ 63 = ltb-true n (2 ^ 63) long in decimal_is n (omega arith)
signed_is (negsuc n) long = let small : n < 2 ^ 63 = ltb-true n (2 ^ 63) long in decimal_is (suc n) (omega arith)

pub bool_is : (b : Bool) → AreOfItem (bool_text b)
bool_is true = refl
bool_is false = refl

hex_digit_is : (d : ℕ) → is_hex_digit d ≡ true → is_of_item d ≡ true
hex_digit_is d is =
    elim (or_cases (nat_le 48 d && nat_le d 57) (nat_le 97 d && nat_le d 102) is) [
      | inl e ↦
          let parts = and_parts _ _ e in
          let low : 48 ≤ d = leb-true _ _ parts.0 in
          let high : d ≤ 57 = leb-true _ _ parts.1 in
          from_minus d (omega arith) (omega arith)
      | inr e ↦
          let parts = and_parts _ _ e in
          let low : 97 ≤ d = leb-true _ _ parts.0 in
          let high : d ≤ 102 = leb-true _ _ parts.1 in
          from_minus d (omega arith) (omega arith)
    ]

hex_are : (ds : List ℕ) → AreHexDigits ds → AreOfItem ds
hex_are [] hex = refl
hex_are (d ∷ ds) hex = and_from (is_of_item d) (list_all is_of_item ds) (hex_digit_is d (hex_is d _ hex.0.0).0) (hex_are ds hex.1)

-- ---- texts

char_by : (c : ℕ) (space comma line backslash graphic : Bool) → (comma ≡ false → graphic ≡ true → is_of_item c ≡ true) →
    AreOfItem (printed_by c space comma line backslash graphic)
char_by c true comma line backslash graphic itself = refl
char_by c false true line backslash graphic itself = refl
char_by c false false true backslash graphic itself = refl
char_by c false false false true graphic itself = refl
char_by c false false false false true itself = and_from (is_of_item c) true (itself refl refl) refl
char_by c false false false false false itself =
    list_all-append is_of_item (digits 16 false c) (codes "}") ∙
    and_from (list_all is_of_item (digits 16 false c)) true (hex_are (digits 16 false c) (digits-hex c)) refl

char_is : (c : ℕ) → AreOfItem (escaped_char c)
char_is c =
    char_by c (c == 32) (c == 44) (c == 10) (c == 92) (is_graphic c)
    (λ comma graphic. and_from (is_graphic c) (not (c == 44)) graphic (not_from_false (c == 44) comma))

pub text_is : (cs : List ℕ) → AreOfItem (escaped cs)
text_is [] = refl
text_is (c ∷ cs) =
    ap (list_all is_of_item) (flat_map-cons escaped_char c cs) ∙ list_all-append is_of_item (escaped_char c) (escaped cs) ∙
    and_from (list_all is_of_item (escaped_char c)) (list_all is_of_item (escaped cs)) (char_is c) (text_is cs)
