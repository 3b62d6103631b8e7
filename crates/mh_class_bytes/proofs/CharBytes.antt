-- The units of a character, and the bytes that spell them.
use Rattle.std.proofs.Common.{◌≡◌, ℕ, ◌+◌, ◌-◌, ◌*◌, ◌/◌, ◌%◌, ◌^◌, ◌<◌, ◌≤◌, true, false, ◌&&◌, ltb, List, [], ◌∷◌, ◌++◌, refl, ap, ◌∙◌, arith}
use Rattle.std.proofs.lemmas.Bool.Decides.{nat_tests}
use Rattle.std.proofs.lemmas.List.{append-nil}
use Rattle.std.proofs.lemmas.List.Concat.{flat_map-cons}
use Rattle.std.specs.List.{flat_map}
use Rattle.mh_class_bytes.specs.Mutf8.{unit_bytes}
use Rattle.mh_class_bytes.specs.Chars.{is_high, is_low, pair_value, units_of}

pub units_of-joined : (u v : ℕ) → (is_high u && is_low v) ≡ true → units_of (pair_value u v) ≡ u ∷ v ∷ []
units_of-joined u v h =
    let u1 : 0xD800 ≤ u = grind (arith, nat_tests) in
    let u2 : u < 0xDC00 = grind (arith, nat_tests) in
    let v1 : 0xDC00 ≤ v = grind (arith, nat_tests) in
    let v2 : v < 0xE000 = grind (arith, nat_tests) in
    let p = u - 0xD800 in
    let q = v - 0xDC00 in
    let big : ltb (0x10000 + 1024 * p + q) 0x10000 ≡ false = grind (arith, nat_tests) in
    let over : (0x10000 + 1024 * p + q) - 0x10000 ≡ 1024 * p + q = omega arith in
    let d : (1024 * p + q) / 1024 ≡ p = omega arith in
    let m : (1024 * p + q) % 1024 ≡ q = omega arith in
    let pu : 0xD800 + p ≡ u = omega arith in
    let qv : 0xDC00 + q ≡ v = omega arith in
    rw (big, over, d, m, pu, qv) refl

pub units_of-small : (u : ℕ) → u < 2 ^ 16 → units_of u ≡ u ∷ []
units_of-small u h = let small : ltb u 0x10000 ≡ true = grind (arith, nat_tests) in rw small refl

-- the bytes that spell a character
abbrev pub char_bytes : ℕ → List ℕ
char_bytes c = flat_map unit_bytes (units_of c)

pub char_bytes-small : (u : ℕ) → u < 2 ^ 16 → char_bytes u ≡ unit_bytes u
char_bytes-small u h = ap (flat_map unit_bytes) (units_of-small u h) ∙ flat_map-cons unit_bytes u [] ∙ append-nil (unit_bytes u)

pub char_bytes-joined : (u v : ℕ) → (is_high u && is_low v) ≡ true → char_bytes (pair_value u v) ≡ unit_bytes u ++ unit_bytes v
char_bytes-joined u v h = ap (flat_map unit_bytes) (units_of-joined u v h) ∙ flat_map-cons unit_bytes u (v ∷ []) ∙ ap (λ (x : List ℕ). unit_bytes u ++ x)
    (flat_map-cons unit_bytes v [] ∙ append-nil (unit_bytes v))
