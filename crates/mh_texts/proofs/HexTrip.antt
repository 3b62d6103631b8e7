-- The number of a printed character reads back, digit by digit.
use Rattle.std.proofs.Common.{◌≡◌, refl, sym, ap, subst, ◌∙◌, zero, suc, ℕ, ◌+◌, ◌*◌, ◌/◌, ◌%◌, ◌<◌, ◌≤◌, ◌==◌, inl, inr, Bool, true, false, ◌&&◌, ◌||◌, if◌then◌else◌, nat_lt, nat_le, not, List, [], ◌∷◌, ◌++◌, length, Option, None, Some, option_map, option_and_then, arith}
use Rattle.std.proofs.lemmas.Bool.{cases_Bool, eqb-true, eq-eqb, cases_lt, lt-ltb, le-ltb, le-leb, and_from, and_parts, and_right, not-true, agree_below_at}
use Rattle.std.specs.Char.{digit_value}
use Rattle.std.specs.Fmt.{digits, digits_onto, digit_glyph}
use Rattle.std.specs.Str.Parse.{digits_value_after}
use Rattle.mh_texts.specs.declared.escape.Escape.{Escape}
use Rattle.mh_texts.specs.declared.escape.Escape.TheVariants as escape
use Rattle.mh_texts.specs.Escapes.{hex_value, scalar, whole, goes_on, one_digit_more, step, in_front, characters_from}

-- what follows a byte that was read
abbrev pub rest_of : List ℕ → Escape × Option ℕ → Option (List ℕ)
rest_of bs s = option_map (in_front s.1) (characters_from s.0 bs)

pub none_in_front : (o : Option (List ℕ)) → option_map (in_front None) o ≡ o
none_in_front None = refl
none_in_front (Some cs) = refl

-- ---- numbers of characters

-- a lower-case hexadecimal digit
abbrev pub IsHexDigit : ℕ → Type 0
IsHexDigit d = (hex_value d ≡ Some (digit_value d)) × ((d == 125) ≡ false)

abbrev pub AreHexDigits : List ℕ → Type 0
AreHexDigits [] = Unit {0}
AreHexDigits (d ∷ ds) = IsHexDigit d × AreHexDigits ds

-- a digit's glyph, tried for each of the sixteen
abbrev is_some_of : Option ℕ → ℕ → Bool
is_some_of None n = false
is_some_of (Some m) n = m == n

abbrev is_hex_glyph : ℕ → Bool
is_hex_glyph d = is_some_of (hex_value (digit_glyph false d)) (digit_value (digit_glyph false d)) && not (digit_glyph false d == 125)

some_of : (o : Option ℕ) (n : ℕ) → is_some_of o n ≡ true → o ≡ Some n
some_of None n h = cc
some_of (Some m) n h = ap Some (eqb-true m n h)

glyph-hex : (d : ℕ) → d < 16 → IsHexDigit (digit_glyph false d)
glyph-hex d low =
    let parts = and_parts _ _ (agree_below_at is_hex_glyph (λ _. true) 16 d refl low) in
    (some_of _ _ parts.0, not-true _ parts.1)

onto-hex : (k n : ℕ) (acc : List ℕ) → AreHexDigits acc → AreHexDigits (digits_onto k 16 false n acc)
onto-hex zero n acc hex = hex
onto-hex (suc k) n acc hex =
    let glyph = glyph-hex (n % 16) (omega arith) in
    elim (cases_Bool (n / 16 == 0)) [
      | inl e ↦ subst (λ t. AreHexDigits (if t then digit_glyph false (n % 16) ∷ acc else digits_onto k 16 false (n / 16) (digit_glyph false (n % 16) ∷ acc)))
          (sym e) (glyph, hex)
      | inr e ↦ subst (λ t. AreHexDigits (if t then digit_glyph false (n % 16) ∷ acc else digits_onto k 16 false (n / 16) (digit_glyph false (n % 16) ∷ acc)))
          (sym e) (onto-hex k (n / 16) (digit_glyph false (n % 16) ∷ acc) (glyph, hex))
    ]

-- the first number that needs so many digits and one more
abbrev limit : ℕ → ℕ
limit zero = 16
limit (suc m) = 16 * limit m

onto-short : (m k n : ℕ) (acc : List ℕ) → n < limit m → length (digits_onto k 16 false n acc) ≤ suc m + length acc
onto-short m zero n acc small = omega arith
onto-short zero (suc k) n acc small =
    let none : (n / 16 == 0) ≡ true = eq-eqb (n / 16) 0 (omega arith) in
    subst (λ t. length (if t then digit_glyph false (n % 16) ∷ acc else digits_onto k 16 false (n / 16) (digit_glyph false (n % 16) ∷ acc)) ≤ 1 + length acc)
    (sym none) (omega arith)
onto-short (suc m) (suc k) n acc small =
    let low : n / 16 < limit m = omega arith in
    let more = onto-short m k (n / 16) (digit_glyph false (n % 16) ∷ acc) low in
    elim (cases_Bool (n / 16 == 0)) [
      | inl e ↦ subst (λ t. length (if t then digit_glyph false (n % 16) ∷ acc else digits_onto k 16 false (n / 16) (digit_glyph false (n % 16) ∷ acc)) ≤ suc
          (suc m) + length acc) (sym e) (omega arith)
      | inr e ↦ subst (λ t. length (if t then digit_glyph false (n % 16) ∷ acc else digits_onto k 16 false (n / 16) (digit_glyph false (n % 16) ∷ acc)) ≤ suc
          (suc m) + length acc) (sym e) (omega (arith, more))
    ]

le_after : (n : ℕ) (ds : List ℕ) → n ≤ digits_value_after 16 n ds
le_after n [] = omega arith
le_after n (d ∷ ds) = omega (arith, le_after (n * 16 + digit_value d) ds)

pub hex_read : (ds : List ℕ) (count n : ℕ) (rest : List ℕ) → AreHexDigits ds → count + length ds ≤ 6 → digits_value_after 16 n ds ≤ 0x10FFFF →
    characters_from (escape.Digits count n) (ds ++ rest) ≡ characters_from (escape.Digits (count + length ds) (digits_value_after 16 n ds)) rest
hex_read [] count n rest hex few low = ap (λ k. characters_from (escape.Digits k n) rest) (omega arith)
hex_read (d ∷ ds) count n rest hex few low =
    let m : ℕ = n * 16 + digit_value d in
    let same : 16 * n + digit_value d ≡ m = omega arith in
    let within : (nat_lt count 6 && nat_le (16 * n + digit_value d) 0x10FFFF) ≡ true =
    and_from _ _ (lt-ltb count 6 (omega arith)) (le-leb (16 * n + digit_value d) 0x10FFFF (omega (arith, le_after m ds))) in
    let one : step (escape.Digits count n) d ≡ goes_on (escape.Digits (count + 1) m) =
    ap (λ t. if t then (if nat_lt 0 count then option_and_then whole (scalar n) else None) else option_and_then (one_digit_more count n) (hex_value d)) hex.0.1
    ∙ ap (option_and_then (one_digit_more count n)) hex.0.0
    ∙ ap (λ t. if t then goes_on (escape.Digits (count + 1) (16 * n + digit_value d)) else None) within
    ∙ ap (λ k. goes_on (escape.Digits (count + 1) k)) same in
    ap (option_and_then (rest_of (ds ++ rest))) one
    ∙ none_in_front (characters_from (escape.Digits (count + 1) m) (ds ++ rest))
    ∙ hex_read ds (count + 1) m rest hex.1 (omega arith) low
    ∙ ap (λ k. characters_from (escape.Digits k (digits_value_after 16 m ds)) rest) (omega arith)

-- the digits of a character's number
pub digits-hex : (n : ℕ) → AreHexDigits (digits 16 false n)
unfolding digits
digits-hex n = onto-hex 64 n [] tt

pub digits-short : (n : ℕ) → n < 0x110000 → length (digits 16 false n) ≤ 6
unfolding digits
digits-short n low = let short = onto-short 5 64 n [] (omega arith) in omega (arith, short)

pub scalar-low : (c : ℕ) → scalar c ≡ Some c → c < 0x110000
scalar-low c is =
    elim (cases_lt c 0x110000) [
      | inl w ↦ w
      | inr past ↦
          let low : nat_lt c 0xD800 ≡ false = le-ltb c 0xD800 (omega arith) in
          let high : (nat_le 0xE000 c && nat_lt c 0x110000) ≡ false = and_right _ _ (le-ltb c 0x110000 past) in
          let none : scalar c ≡ None =
          ap (λ t. if t || (nat_le 0xE000 c && nat_lt c 0x110000) then Some c else None) low ∙ ap (λ t. if t then Some c else None) high in
          cc
    ]
