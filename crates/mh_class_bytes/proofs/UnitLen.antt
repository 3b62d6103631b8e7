-- How many bytes the first unit takes: just what its spelling has.
use Rattle.std.proofs.Common.{◌≡◌, ℕ, ◌+◌, ◌-◌, ◌*◌, ◌^◌, ◌<◌, ◌≤◌, ◌⊎◌, Bool, true, false, ◌&&◌, ◌||◌, cond, ltb, leb, eqb, List, [], ◌∷◌, length, get_or, take, refl, sym, ap, subst, ◌∙◌, arith, inl, inr}
use Rattle.std.proofs.lemmas.Bool.{cases_lt}
use Rattle.std.proofs.lemmas.Bool.Decides.{nat_tests}
use Rattle.mh_class_bytes.specs.Mutf8.{unit_bytes, unit_len, is_continuation}
use Rattle.mh_class_bytes.proofs.UnitSpelling.{unit_bytes-1, unit_bytes-2, unit_bytes-3}

-- What a unit at the front is.
pub record IsFront (bytes : List ℕ) (len : ℕ) : Type 0 where
  pub unit : ℕ
  pub small : unit < 2 ^ 16
  pub len_is : len ≡ length (unit_bytes unit)
  pub front : take len bytes ≡ unit_bytes unit
  pub within : len ≤ length bytes

abbrev len_by : Bool → Bool → Bool → ℕ
len_by t1 t2 t3 = cond t1 1 (cond t2 2 (cond t3 3 0))

three_ways : (t1 t2 t3 : Bool) → 0 < len_by t1 t2 t3 → ((t1 ≡ true) × (len_by t1 t2 t3 ≡ 1)) ⊎ (((t2 ≡ true) × (len_by t1 t2 t3 ≡ 2))
    ⊎ ((t3 ≡ true) × (len_by t1 t2 t3 ≡ 3)))
three_ways true t2 t3 h = inl (refl, refl)
three_ways false true t3 h = inr (inl (refl, refl))
three_ways false false true h = inr (inr (refl, refl))
three_ways false false false h = absurd (omega arith)

second : (rest : List ℕ) → 0 < get_or rest 0 0 → (take 1 rest ≡ get_or rest 0 0 ∷ []) × (1 ≤ length rest)
second [] h = absurd (omega arith)
second (b ∷ rest) h = (refl, omega arith)

third : (rest : List ℕ) → 0 < get_or rest 0 0 → 0 < get_or rest 1 0 → (take 2 rest ≡ get_or rest 0 0 ∷ get_or rest 1 0 ∷ []) × (2 ≤ length rest)
third [] h k = absurd (omega arith)
third (b ∷ []) h k = absurd (omega arith)
third (b ∷ c ∷ rest) h k = (refl, omega arith)

abbrev two_test : ℕ → ℕ → Bool
two_test a b = (eqb a 0xC0 && eqb b 0x80) || (leb 0xC2 a && ltb a 0xE0 && is_continuation b)

abbrev three_test : ℕ → ℕ → ℕ → Bool
three_test a b c = ((eqb a 0xE0 && leb 0xA0 b) || (ltb 0xE0 a && ltb a 0xF0)) && is_continuation b && is_continuation c

is_two : (a b : ℕ) → two_test a b ≡ true → (0xC0 ≤ a) × (a < 0xE0) × (0x80 ≤ b) × (b < 0xC0)
is_two a b h = (grind (arith, nat_tests), grind (arith, nat_tests), grind (arith, nat_tests), grind (arith, nat_tests))

short_zero : (a b : ℕ) → two_test a b ≡ true → 64 * (a - 0xC0) + (b - 0x80) < 0x80 → 64 * (a - 0xC0) + (b - 0x80) ≡ 0
short_zero a b h k = grind (arith, nat_tests)

is_three : (a b c : ℕ) → three_test a b c ≡ true → (0xE0 ≤ a) × (a < 0xF0) × (0x80 ≤ b) × (b < 0xC0) × (0x80 ≤ c) × (c < 0xC0)
    × (0x800 ≤ 4096 * (a - 0xE0) + 64 * (b - 0x80) + (c - 0x80))
is_three a b c h = (
  grind (arith, nat_tests),
  grind (arith, nat_tests),
  grind (arith, nat_tests),
  grind (arith, nat_tests),
  grind (arith, nat_tests),
  grind (arith, nat_tests),
  grind (arith, nat_tests),
)

front_1 : (a : ℕ) (rest : List ℕ) → (ltb 0 a && ltb a 0x80) ≡ true → IsFront (a ∷ rest) 1
front_1 a rest h =
    let pos : 0 < a = grind (arith, nat_tests) in
    let low : a < 0x80 = grind (arith, nat_tests) in
    let e = unit_bytes-1 a pos low in
    record { unit = a; small = omega arith; len_is = rw e refl; front = sym e; within = omega arith }

front_2 : (a : ℕ) (rest : List ℕ) → two_test a (get_or rest 0 0) ≡ true → IsFront (a ∷ rest) 2
front_2 a rest h =
    let t = is_two a (get_or rest 0 0) h in
    let p = a - 0xC0 in
    let q = get_or rest 0 0 - 0x80 in
    let s = second rest (omega arith) in
    let range : (64 * p + q ≡ 0) ⊎ (0x80 ≤ 64 * p + q) = elim (cases_lt (64 * p + q) 0x80) [
      | inl lt ↦ inl (short_zero a (get_or rest 0 0) h lt)
      | inr le ↦ inr le
    ] in
    let e = unit_bytes-2 p q (omega arith) (omega arith) range in
    let pa : 0xC0 + p ≡ a = omega arith in
    let qb : 0x80 + q ≡ get_or rest 0 0 = omega arith in
    let whole : unit_bytes (64 * p + q) ≡ a ∷ take 1 rest = e ∙ ap (λ (x : ℕ). x ∷ (0x80 + q) ∷ []) pa ∙ ap (λ (y : ℕ). a ∷ y ∷ []) qb ∙
    ap (λ (ys : List ℕ). a ∷ ys) (sym s.0) in
    record { unit = 64 * p + q; small = omega arith; len_is = sym (ap length e); front = sym whole; within = omega (arith, s.1) }

front_3 : (a : ℕ) (rest : List ℕ) → three_test a (get_or rest 0 0) (get_or rest 1 0) ≡ true → IsFront (a ∷ rest) 3
front_3 a rest h =
    let t = is_three a (get_or rest 0 0) (get_or rest 1 0) h in
    let p = a - 0xE0 in
    let q = get_or rest 0 0 - 0x80 in
    let r = get_or rest 1 0 - 0x80 in
    let s = third rest (omega arith) (omega arith) in
    let e = unit_bytes-3 p q r (omega arith) (omega arith) (omega arith) (omega arith) in
    let pa : 0xE0 + p ≡ a = omega arith in
    let qb : 0x80 + q ≡ get_or rest 0 0 = omega arith in
    let rc : 0x80 + r ≡ get_or rest 1 0 = omega arith in
    let whole : unit_bytes (4096 * p + 64 * q + r) ≡ a ∷ take 2 rest = e ∙ ap (λ (x : ℕ). x ∷ (0x80 + q) ∷ (0x80 + r) ∷ []) pa ∙
    ap (λ (y : ℕ). a ∷ y ∷ (0x80 + r) ∷ []) qb ∙ ap (λ (z : ℕ). a ∷ get_or rest 0 0 ∷ z ∷ []) rc ∙ ap (λ (ys : List ℕ). a ∷ ys) (sym s.0) in
    record { unit = 4096 * p + 64 * q + r; small = omega arith; len_is = sym (ap length e); front = sym whole; within = omega (arith, s.1) }

-- A unit that is found is spelled there.
pub unit_len-sound : (bytes : List ℕ) → 0 < unit_len bytes → IsFront bytes (unit_len bytes)
unfolding unit_len
unit_len-sound [] h = absurd (omega arith)
unit_len-sound (a ∷ rest) h =
    let t1 = ltb 0 a && ltb a 0x80 in
    let t2 = two_test a (get_or rest 0 0) in
    let t3 = three_test a (get_or rest 0 0) (get_or rest 1 0) in
    let P : ℕ → Type 0 = λ n. IsFront (a ∷ rest) n in
    elim (three_ways t1 t2 t3 h) [
      | inl w ↦ subst P (sym w.1) (front_1 a rest w.0)
      | inr (inl w) ↦ subst P (sym w.1) (front_2 a rest w.0)
      | inr (inr w) ↦ subst P (sym w.1) (front_3 a rest w.0)
    ]
