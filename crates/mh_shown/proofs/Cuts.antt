-- Texts that end by themselves: what follows such a text is known once the whole is.
use Rattle.std.proofs.Common.{◌≡◌, refl, sym, ◌∙◌, ap, ℕ, ◌<◌, ◌≤◌, ◌^◌, ◌+◌, ◌%◌, ◌==◌, false, List, [], ◌∷◌, ◌++◌, flat_map, get_or, drop, append_assoc, arith}
use Rattle.std.specs.Fmt.{decimal}
use Rattle.std.specs.List.{AllByRecursion}
use Rattle.std.proofs.lemmas.Bool.{eqb-false}
use Rattle.std.proofs.lemmas.Fmt.{decimal_by_steps, decimal_injective}
use Rattle.std.proofs.lemmas.List.{append-nil}

-- two texts of values, with whatever follows them, are the same only for one value and if the same follows
abbrev pub Cuts : {A : Type 0} → (A → List ℕ) → Type 0
Cuts f = (a b : _) (r s : List ℕ) → f a ++ r ≡ f b ++ s → (a ≡ b) × (r ≡ s)

-- no text of a value begins with this character
abbrev pub Avoids : {A : Type 0} → ℕ → (A → List ℕ) → Type 0
Avoids c f = (a : _) (r s : List ℕ) → f a ++ r ≡ c ∷ s → ⊥

-- the first character, or 0
abbrev pub first : List ℕ → ℕ
first text = get_or text 0 0

-- texts that begin differently differ
pub apart : (xs ys : List ℕ) → (first xs == first ys) ≡ false → xs ≡ ys → ⊥
apart xs ys differ e = eqb-false (first xs) (first ys) differ (ap first e)

-- two values have the same text only if they are the same
pub whole : {A : Type 0} (f : A → List ℕ) → Cuts f → (a b : A) → f a ≡ f b → a ≡ b
whole f cuts a b e = (cuts a b [] [] (append-nil (f a) ∙ e ∙ sym (append-nil (f b)))).0

-- a list of texts up to a parenthesis that none of them begins with
pub list-cut : {A : Type 0} (f : A → List ℕ) → Cuts f → Avoids 41 f → (xs ys : List A) (r s : List ℕ) →
    flat_map f xs ++ 41 ∷ r ≡ flat_map f ys ++ 41 ∷ s → (xs ≡ ys) × (r ≡ s)
list-cut f cuts avoids [] [] r s e = (refl, ap (drop 1) e)
list-cut f cuts avoids [] (b ∷ ys) r s e = absurd (avoids b (flat_map f ys ++ 41 ∷ s) r (sym (append_assoc (f b) (flat_map f ys) (41 ∷ s)) ∙ sym e))
list-cut f cuts avoids (a ∷ xs) [] r s e = absurd (avoids a (flat_map f xs ++ 41 ∷ r) s (sym (append_assoc (f a) (flat_map f xs) (41 ∷ r)) ∙ e))
list-cut f cuts avoids (a ∷ xs) (b ∷ ys) r s e =
    let k = cuts a b (flat_map f xs ++ 41 ∷ r) (flat_map f ys ++ 41 ∷ s)
    (sym (append_assoc (f a) (flat_map f xs) (41 ∷ r)) ∙ e ∙ append_assoc (f b) (flat_map f ys) (41 ∷ s)) in
    let m = list-cut f cuts avoids xs ys r s k.1 in
    (ap (λ x. x ∷ xs) k.0 ∙ ap (λ xs. b ∷ xs) m.0, m.1)

-- ---- numbers

-- a decimal digit
abbrev pub IsDigit : ℕ → Type 0
IsDigit b = (48 ≤ b) × (b ≤ 57)

-- what follows a number is no digit
abbrev pub Stops : List ℕ → Type 0
Stops [] = Unit {0}
Stops (c ∷ cs) = c < 48

all-append : (xs ys : List ℕ) → AllByRecursion IsDigit xs → AllByRecursion IsDigit ys → AllByRecursion IsDigit (xs ++ ys)
all-append [] ys h k = k
all-append (x ∷ xs) ys h k = (h.0, all-append xs ys h.1 k)

-- a number is written in digits
are-digits : (n : ℕ) → n < 2 ^ 64 → AllByRecursion IsDigit (decimal n)
are-digits n small = decimal_by_steps (λ _ ds. AllByRecursion IsDigit ds) one more n small
  where
    one : (n : ℕ) → n < 10 → AllByRecursion IsDigit ((48 + n) ∷ [])
    one n h = ((omega arith, omega arith), tt)

    more : (n : ℕ) (ds : List ℕ) → 10 ≤ n → AllByRecursion IsDigit ds → AllByRecursion IsDigit (ds ++ ((48 + n % 10) ∷ []))
    more n ds h front =
        let low : n % 10 < 10 = omega arith in
        all-append ds ((48 + n % 10) ∷ []) front ((omega arith, omega arith), tt)

-- what stops is not what begins with a digit
no-digit : (r : List ℕ) (d : ℕ) (ds : List ℕ) → Stops r → IsDigit d → r ≡ d ∷ ds → ⊥
no-digit [] d ds stops digit e = let k : 0 ≡ d = ap first e in omega (arith, k, digit.0)
no-digit (c ∷ cs) d ds stops digit e = let k : c ≡ d = ap first e in omega (arith, k, digit.0, stops)

digits-cut : (ds es r s : List ℕ) → AllByRecursion IsDigit ds → AllByRecursion IsDigit es → Stops r → Stops s → ds ++ r ≡ es ++ s → (ds ≡ es) × (r ≡ s)
digits-cut [] [] r s h k p q e = (refl, e)
digits-cut [] (x ∷ es) r s h k p q e = absurd (no-digit r x (es ++ s) p k.0 e)
digits-cut (d ∷ ds) [] r s h k p q e = absurd (no-digit s d (ds ++ r) q h.0 (sym e))
digits-cut (d ∷ ds) (x ∷ es) r s h k p q e =
    let same : d ≡ x = ap first e in
    let m = digits-cut ds es r s h.1 k.1 p q (ap (drop 1) e) in
    (ap (λ y. y ∷ ds) same ∙ ap (λ ys. x ∷ ys) m.0, m.1)

-- two numbers of 8 bits, and what follows them
pub number-cut : (m n : ℕ) (r s : List ℕ) → m < 2 ^ 8 → n < 2 ^ 8 → Stops r → Stops s → decimal m ++ r ≡ decimal n ++ s → (m ≡ n) × (r ≡ s)
number-cut m n r s low small p q e =
    let k = digits-cut (decimal m) (decimal n) r s (are-digits m (omega arith)) (are-digits n (omega arith)) p q e in
    (decimal_injective m n (omega arith) (omega arith) k.0, k.1)

pub number-whole : (m n : ℕ) → m < 2 ^ 8 → n < 2 ^ 8 → decimal m ≡ decimal n → m ≡ n
number-whole m n low small = decimal_injective m n (omega arith) (omega arith)
