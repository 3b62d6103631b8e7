-- A unit that is spelled is found, with its length.
use Rattle.std.proofs.Common.{◌≡◌, ℕ, zero, suc, ◌+◌, ◌-◌, ◌*◌, ◌/◌, ◌%◌, ◌^◌, ◌<◌, ◌≤◌, List, ◌∷◌, ◌++◌, length, refl, subst, arith, inl, inr}
use Rattle.std.proofs.lemmas.Bool.{cases_lt}
use Rattle.std.proofs.lemmas.Bool.Decides.{nat_tests}
use Rattle.mh_class_bytes.specs.Mutf8.{unit_bytes, unit_len}
use Rattle.mh_class_bytes.proofs.UnitSpelling.{unit_bytes-1, unit_bytes-2, unit_bytes-3}

pub len_1 : (a : ℕ) (rest : List ℕ) → 0 < a → a < 0x80 → unit_len (a ∷ rest) ≡ 1
unfolding unit_len
len_1 a rest h k = grind (arith, nat_tests)

len_2 : (a b : ℕ) (rest : List ℕ) → 0xC2 ≤ a → a < 0xE0 → 0x80 ≤ b → b < 0xC0 → unit_len (a ∷ b ∷ rest) ≡ 2
unfolding unit_len
len_2 a b rest h1 h2 h3 h4 = grind (arith, nat_tests)

len_3 : (a b c : ℕ) (rest : List ℕ) → 0xE0 ≤ a → a < 0xF0 → 0x80 ≤ b → b < 0xC0 → 0x80 ≤ c → c < 0xC0 → 0x800 ≤ 4096 * (a - 0xE0) + 64 * (b - 0x80) →
    unit_len (a ∷ b ∷ c ∷ rest) ≡ 3
unfolding unit_len
len_3 a b c rest h1 h2 h3 h4 h5 h6 h7 = grind (arith, nat_tests)

complete_1 : (u : ℕ) (rest : List ℕ) → u < 0x80 → unit_len (unit_bytes u ++ rest) ≡ length (unit_bytes u)
unfolding unit_len
complete_1 zero rest h = refl
complete_1 (suc v) rest h = rw (unit_bytes-1 (suc v) (omega arith) h) (len_1 (suc v) rest (omega arith) h)

complete_2 : (p q : ℕ) (rest : List ℕ) → q < 64 → p < 32 → 0x80 ≤ 64 * p + q → unit_len (unit_bytes (64 * p + q) ++ rest) ≡ length (unit_bytes (64 * p + q))
complete_2 p q rest hq hp big =
    rw (unit_bytes-2 p q hq hp (inr big)) (len_2 (0xC0 + p) (0x80 + q) rest (omega arith) (omega arith) (omega arith) (omega arith))

complete_3 : (p q r : ℕ) (rest : List ℕ) → p < 16 → q < 64 → r < 64 → 0x800 ≤ 4096 * p + 64 * q + r →
    unit_len (unit_bytes (4096 * p + 64 * q + r) ++ rest) ≡ length (unit_bytes (4096 * p + 64 * q + r))
complete_3 p q r rest hp hq hr big =
    rw (unit_bytes-3 p q r hp hq hr big) (len_3 (0xE0 + p) (0x80 + q) (0x80 + r) rest (omega arith) (omega arith) (omega arith) (omega arith) (omega arith)
    (omega arith) (omega arith))

-- A unit that is spelled is found, whatever follows it.
pub unit_len-complete : (u : ℕ) (rest : List ℕ) → u < 2 ^ 16 → unit_len (unit_bytes u ++ rest) ≡ length (unit_bytes u)
unit_len-complete u rest h =
    let P : ℕ → Type 0 = λ v. unit_len (unit_bytes v ++ rest) ≡ length (unit_bytes v) in
    let two : 64 * (u / 64) + u % 64 ≡ u = omega arith in
    let three : 4096 * (u / 4096) + 64 * (u / 64 % 64) + u % 64 ≡ u = omega arith in
    elim (cases_lt u 0x80) [
      | inl low ↦ complete_1 u rest low
      | inr high ↦ elim (cases_lt u 0x800) [
        | inl mid ↦ subst P two (complete_2 (u / 64) (u % 64) rest (omega arith) (omega arith) (omega arith))
        | inr top ↦ subst P three (complete_3 (u / 4096) (u / 64 % 64) (u % 64) rest (omega arith) (omega arith) (omega arith) (omega arith))
      ]
    ]
