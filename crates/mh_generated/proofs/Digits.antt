-- The digits of numbers, and where texts with digits are cut.
use Rattle.std.proofs.Common.{◌≡◌, ◌∙◌, ap, refl, ℕ, ◌+◌, ◌<◌, ◌≤◌, ◌^◌, ◌%◌, ◌==◌, false, cond, List, [], ◌∷◌, ◌++◌, arith}
use Rattle.std.specs.Fmt.{decimal}
use Rattle.std.specs.List.{AllByRecursion, onto_first, slice_split}
use Rattle.std.proofs.lemmas.Bool.{eq-eqb, ne_eqb}
use Rattle.std.proofs.lemmas.Fmt.{decimal_by_steps}

-- a decimal digit
abbrev pub IsDigit : ℕ → Type 0
IsDigit b = (48 ≤ b) × (b ≤ 57)

-- a text without a byte
abbrev pub Lacks : ℕ → List ℕ → Type 0
Lacks byte = AllByRecursion (λ b. (b == byte) ≡ false)

pub all-append : (P : ℕ → Type 0) (xs ys : List ℕ) → AllByRecursion P xs → AllByRecursion P ys → AllByRecursion P (xs ++ ys)
all-append P [] ys h k = k
all-append P (x ∷ xs) ys h k = (h.0, all-append P xs ys h.1 k)

pub all-of : (P Q : ℕ → Type 0) → ((b : ℕ) → P b → Q b) → (xs : List ℕ) → AllByRecursion P xs → AllByRecursion Q xs
all-of P Q each [] h = tt
all-of P Q each (x ∷ xs) h = (each x h.0, all-of P Q each xs h.1)

-- a number is written in digits
pub are-digits : (n : ℕ) → n < 2 ^ 64 → AllByRecursion IsDigit (decimal n)
are-digits n small = decimal_by_steps (λ _ ds. AllByRecursion IsDigit ds) one more n small
  where
    one : (n : ℕ) → n < 10 → AllByRecursion IsDigit ((48 + n) ∷ [])
    one n h = ((omega arith, omega arith), tt)

    more : (n : ℕ) (ds : List ℕ) → 10 ≤ n → AllByRecursion IsDigit ds → AllByRecursion IsDigit (ds ++ ((48 + n % 10) ∷ []))
    more n ds h front =
        let low : n % 10 < 10 = omega arith in
        all-append IsDigit ds ((48 + n % 10) ∷ []) front ((omega arith, omega arith), tt)

-- which has neither a space nor LF
pub digits-lack : (byte : ℕ) → byte < 48 → (ds : List ℕ) → AllByRecursion IsDigit ds → Lacks byte ds
digits-lack byte low ds = all-of IsDigit (λ b. (b == byte) ≡ false) (λ b h. ne_eqb b byte (λ e. omega (arith, e, h.0))) ds

-- a text is cut at the first such byte
pub split-at : (byte : ℕ) (xs ys : List ℕ) → Lacks byte xs → slice_split (λ b. b == byte) (xs ++ byte ∷ ys) ≡ xs ∷ slice_split (λ b. b == byte) ys
split-at byte [] ys lacks =
    ap (λ t. cond t ([] ∷ slice_split (λ b. b == byte) ys) (onto_first byte (slice_split (λ b. b == byte) ys))) (eq-eqb byte byte refl)
split-at byte (x ∷ xs) ys lacks =
    ap (λ t. cond t ([] ∷ slice_split (λ b. b == byte) (xs ++ byte ∷ ys)) (onto_first x (slice_split (λ b. b == byte) (xs ++ byte ∷ ys)))) lacks.0
    ∙ ap (onto_first x) (split-at byte xs ys lacks.1)

-- and not at all where there is none
pub split-end : (byte : ℕ) (xs : List ℕ) → Lacks byte xs → slice_split (λ b. b == byte) xs ≡ xs ∷ []
split-end byte [] lacks = refl
split-end byte (x ∷ xs) lacks =
    ap (λ t. cond t ([] ∷ slice_split (λ b. b == byte) xs) (onto_first x (slice_split (λ b. b == byte) xs))) lacks.0
    ∙ ap (onto_first x) (split-end byte xs lacks.1)
