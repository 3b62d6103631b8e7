-- The spelling of a UTF-16 unit in one, two or three bytes, and its value.
use Rattle.std.proofs.Common.{◌≡◌, ℕ, ◌+◌, ◌*◌, ◌/◌, ◌%◌, ◌^◌, ◌<◌, ◌≤◌, ◌⊎◌, [], ◌∷◌, length, refl, subst, arith, inl, inr}
use Rattle.std.proofs.lemmas.Bool.{cases_lt}
use Rattle.std.proofs.lemmas.Bool.Decides.{nat_tests}
use Rattle.mh_class_bytes.specs.Mutf8.{unit_bytes}
use Rattle.mh_class_bytes.specs.Chars.{unit_value}

pub unit_bytes-1 : (u : ℕ) → 0 < u → u < 0x80 → unit_bytes u ≡ u ∷ []
unit_bytes-1 u h k = grind (arith, nat_tests)

pub unit_bytes-2 : (p q : ℕ) → q < 64 → p < 32 → (64 * p + q ≡ 0) ⊎ (0x80 ≤ 64 * p + q) → unit_bytes (64 * p + q) ≡ (0xC0 + p) ∷ (0x80 + q) ∷ []
unit_bytes-2 p q hq hp (inl z) =
    let pz : p ≡ 0 = omega arith in let qz : q ≡ 0 = omega arith in rw (pz, qz) refl
unit_bytes-2 p q hq hp (inr big) =
    let dp : (64 * p + q) / 64 ≡ p = omega arith in
    let mq : (64 * p + q) % 64 ≡ q = omega arith in
    grind (arith, nat_tests)

pub unit_bytes-3 : (p q r : ℕ) → p < 16 → q < 64 → r < 64 → 0x800 ≤ 4096 * p + 64 * q + r → unit_bytes (4096 * p + 64 * q + r) ≡ (0xE0 + p) ∷ (0x80 + q) ∷
    (0x80 + r) ∷ []
unit_bytes-3 p q r hp hq hr big =
    let d1 : (4096 * p + 64 * q + r) / 4096 ≡ p = omega arith in
    let d2 : (4096 * p + 64 * q + r) / 64 ≡ 64 * p + q = omega arith in
    let d3 : (64 * p + q) % 64 ≡ q = omega arith in
    let d4 : (4096 * p + 64 * q + r) % 64 ≡ r = omega arith in
    grind (arith, nat_tests)

value_1 : (u : ℕ) → 0 < u → u < 0x80 → unit_value (length (unit_bytes u)) (unit_bytes u) ≡ u
value_1 u h k = rw (unit_bytes-1 u h k) refl

value_2 : (p q : ℕ) → q < 64 → p < 32 → (64 * p + q ≡ 0) ⊎ (0x80 ≤ 64 * p + q) → unit_value (length (unit_bytes (64 * p + q))) (unit_bytes (64 * p + q)) ≡ 64 *
    p + q
value_2 p q hq hp range = rw (unit_bytes-2 p q hq hp range) (omega arith)

value_3 : (p q r : ℕ) → p < 16 → q < 64 → r < 64 → 0x800 ≤ 4096 * p + 64 * q + r →
    unit_value (length (unit_bytes (4096 * p + 64 * q + r))) (unit_bytes (4096 * p + 64 * q + r)) ≡ 4096 * p + 64 * q + r
value_3 p q r hp hq hr big = rw (unit_bytes-3 p q r hp hq hr big) (omega arith)

-- The value of a unit's spelling is the unit.
pub unit_value-bytes : (u : ℕ) → u < 2 ^ 16 → unit_value (length (unit_bytes u)) (unit_bytes u) ≡ u
unit_value-bytes u h =
    let P : ℕ → Type 0 = λ v. unit_value (length (unit_bytes v)) (unit_bytes v) ≡ v in
    let two : 64 * (u / 64) + u % 64 ≡ u = omega arith in
    let three : 4096 * (u / 4096) + 64 * (u / 64 % 64) + u % 64 ≡ u = omega arith in
    elim (cases_lt u 0x80) [
      | inl low ↦ elim (cases_lt 0 u) [
        | inl pos ↦ value_1 u pos low
        | inr none ↦ subst P two (value_2 (u / 64) (u % 64) (omega arith) (omega arith) (inl (omega arith)))
      ]
      | inr high ↦ elim (cases_lt u 0x800) [
        | inl mid ↦ subst P two (value_2 (u / 64) (u % 64) (omega arith) (omega arith) (inr (omega arith)))
        | inr top ↦ subst P three (value_3 (u / 4096) (u / 64 % 64) (u % 64) (omega arith) (omega arith) (omega arith) (omega arith))
      ]
    ]
