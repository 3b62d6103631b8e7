-- The digits of a number in hexadecimal, from the last one on.
use Rattle.std.proofs.Common.{◌≡◌, refl, sym, ap, ◌∙◌, zero, suc, ℕ, ◌+◌, ◌/◌, ◌%◌, ◌^◌, ◌<◌, ◌≤◌, false, inl, inr, cond, List, [], ◌∷◌, ◌++◌, length, append_assoc, length-append, eq-eqb, ne_eqb, arith}
use Rattle.std.proofs.lemmas.Bool.{cases_lt}
use Rattle.std.proofs.lemmas.Fmt.{hex_one_digit}
use Rattle.std.specs.Fmt.{digits, digits_onto, digit_glyph}

-- at most so many digits of a number, before others
abbrev onto : ℕ → ℕ → List ℕ → List ℕ
onto k n acc = digits_onto k 16 false n acc

-- its last digit
abbrev last : ℕ → ℕ
last n = digit_glyph false (n % 16)

onto-last : (k n : ℕ) (acc : List ℕ) → n < 16 → onto (suc k) n acc ≡ last n ∷ acc
onto-last k n acc h = ap (λ t. cond t (last n ∷ acc) (onto k (n / 16) (last n ∷ acc))) (eq-eqb (n / 16) 0 (omega arith))

onto-next : (k n : ℕ) (acc : List ℕ) → 16 ≤ n → onto (suc k) n acc ≡ onto k (n / 16) (last n ∷ acc)
onto-next k n acc h = ap (λ t. cond t (last n ∷ acc) (onto k (n / 16) (last n ∷ acc))) (ne_eqb (n / 16) 0 (λ e. omega arith))

onto-append : (k n : ℕ) (acc : List ℕ) → onto k n acc ≡ onto k n [] ++ acc
onto-append zero n acc = refl
onto-append (suc k) n acc =
    elim (cases_lt n 16) [
      | inl l ↦ onto-last k n acc l ∙ ap (λ x. x ++ acc) (sym (onto-last k n [] l))
      | inr l ↦ onto-next k n acc l
          ∙ (onto-append k (n / 16) (last n ∷ acc)
          ∙ (sym (append_assoc (onto k (n / 16) []) (last n ∷ []) acc)
          ∙ ap (λ x. x ++ acc) (sym (onto-next k n [] l ∙ onto-append k (n / 16) (last n ∷ [])))))
    ]

-- how many digits there may be does not matter where there are enough
onto-enough : (j k n : ℕ) (acc : List ℕ) → n < 16 ^ suc j → n < 16 ^ suc k → onto (suc j) n acc ≡ onto (suc k) n acc
onto-enough zero k n acc p q = onto-last zero n acc (omega arith) ∙ sym (onto-last k n acc (omega arith))
onto-enough (suc j) zero n acc p q = onto-last (suc j) n acc (omega arith) ∙ sym (onto-last zero n acc (omega arith))
onto-enough (suc j) (suc k) n acc p q =
    elim (cases_lt n 16) [
      | inl l ↦ onto-last (suc j) n acc l ∙ sym (onto-last (suc k) n acc l)
      | inr l ↦ onto-next (suc j) n acc l
          ∙ (onto-enough j k (n / 16) (last n ∷ acc) (omega arith) (omega arith)
          ∙ sym (onto-next (suc k) n acc l))
    ]

onto-all : (n : ℕ) → onto 64 n [] ≡ digits 16 false n
unfolding digits
onto-all n = refl

pub hexadecimal_one : (n : ℕ) → n < 16 → digits 16 false n ≡ digit_glyph false n ∷ []
hexadecimal_one n small = hex_one_digit false n small

pub hexadecimal_more : (n : ℕ) → 16 ≤ n → n < 2 ^ 32 → digits 16 false n ≡ digits 16 false (n / 16) ++ digit_glyph false (n % 16) ∷ []
hexadecimal_more n h small =
    sym (onto-all n)
    ∙ (onto-next 63 n [] h
    ∙ (onto-enough 62 63 (n / 16) (last n ∷ []) (omega arith) (omega arith)
    ∙ (onto-append 64 (n / 16) (last n ∷ []) ∙ ap (λ x. x ++ last n ∷ []) (onto-all (n / 16)))))

pub hexadecimal_length_one : (n : ℕ) → n < 16 → length (digits 16 false n) ≡ 1
hexadecimal_length_one n small = ap (λ (ds : List ℕ). length ds) (hexadecimal_one n small)

pub hexadecimal_length_more : (n : ℕ) → 16 ≤ n → n < 2 ^ 32 → length (digits 16 false n) ≡ length (digits 16 false (n / 16)) + 1
hexadecimal_length_more n h small =
    ap (λ (ds : List ℕ). length ds) (hexadecimal_more n h small) ∙ length-append (digits 16 false (n / 16)) (digit_glyph false (n % 16) ∷ [])

-- how long the digits are
pub ruleset length_steps = (hexadecimal_length_one, hexadecimal_length_more)

-- the last digit behind the others, behind what stands before them
pub hexadecimal_written : (before front : List ℕ) (n d : ℕ) → 16 ≤ n → n < 2 ^ 32 →
    front ≡ before ++ digits 16 false (n / 16) → d ≡ digit_glyph false (n % 16) →
    front ++ d ∷ [] ≡ before ++ digits 16 false n
hexadecimal_written before front n d h small is last_is =
    ap (λ x. x ++ d ∷ []) is
    ∙ (append_assoc before (digits 16 false (n / 16)) (d ∷ [])
    ∙ (ap (λ e. before ++ (digits 16 false (n / 16) ++ e ∷ [])) last_is ∙ ap (λ x. before ++ x) (sym (hexadecimal_more n h small))))
