-- A text is cut at the first place of a byte.
use Rattle.std.proofs.Common.{◌≡◌, refl, ap, ◌∙◌, zero, suc, ℕ, ◌+◌, ◌==◌, true, false, not, cond, nat_lt, List, [], ◌∷◌, ◌++◌, length, take, drop, None, Some, option_map, length-append, arith}
use Rattle.std.proofs.lemmas.Bool.{eq-eqb, lt-ltb, le-ltb}
use Rattle.std.specs.List.{All, position_or_len}
use Rattle.mh_base.specs.Lines.{cut_at}

-- a text without a byte
abbrev pub Lacks : ℕ → List ℕ → Type 0
Lacks byte [] = Unit {0}
Lacks byte (b ∷ bs) = ((b == byte) ≡ false) × Lacks byte bs

pub all_lack : (byte : ℕ) (xs : List ℕ) → Lacks byte xs → All (λ b. (b == byte) ≡ false) xs
all_lack byte [] lacks k d within = absurd (omega (arith, within))
all_lack byte (x ∷ xs) lacks zero d within = lacks.0
all_lack byte (x ∷ xs) lacks (suc k) d within = all_lack byte xs lacks.1 k d (omega arith)

pub Lacks-append : (byte : ℕ) (xs ys : List ℕ) → Lacks byte xs → Lacks byte ys → Lacks byte (xs ++ ys)
Lacks-append byte [] ys h k = k
Lacks-append byte (x ∷ xs) ys h k = (h.0, Lacks-append byte xs ys h.1 k)

first_place : (byte : ℕ) (front rest : List ℕ) → Lacks byte front → position_or_len (λ b. b == byte) (front ++ byte ∷ rest) ≡ length front
first_place byte [] rest lacks = ap (λ t. cond (not t) (1 + position_or_len (λ b. b == byte) rest) 0) (eq-eqb byte byte refl)
first_place byte (b ∷ front) rest lacks =
    ap (λ t. cond (not t) (1 + position_or_len (λ x. x == byte) (front ++ byte ∷ rest)) 0) lacks.0 ∙ ap (λ n. 1 + n) (first_place byte front rest lacks.1) ∙
    omega arith

no_place : (byte : ℕ) (text : List ℕ) → Lacks byte text → position_or_len (λ b. b == byte) text ≡ length text
no_place byte [] lacks = refl
no_place byte (b ∷ bs) lacks =
    ap (λ t. cond (not t) (1 + position_or_len (λ x. x == byte) bs) 0) lacks.0 ∙ ap (λ n. 1 + n) (no_place byte bs lacks.1) ∙ omega arith

pub front_of : (xs ys : List ℕ) → take (length xs) (xs ++ ys) ≡ xs
front_of [] ys = refl
front_of (x ∷ xs) ys = ap (λ zs. x ∷ zs) (front_of xs ys)

pub drop_front : (xs ys : List ℕ) → drop (length xs) (xs ++ ys) ≡ ys
drop_front [] ys = refl
drop_front (x ∷ xs) ys = drop_front xs ys

after_of : (xs : List ℕ) (y : ℕ) (ys : List ℕ) → drop (length xs + 1) (xs ++ y ∷ ys) ≡ ys
after_of [] y ys = refl
after_of (x ∷ xs) y ys = ap (λ n. drop n (x ∷ (xs ++ y ∷ ys))) one_more ∙ after_of xs y ys
  where
    one_more : length (x ∷ xs) + 1 ≡ suc (length xs + 1)
    one_more = omega arith

pub cut_found : (byte : ℕ) (front rest : List ℕ) → Lacks byte front → cut_at byte (front ++ byte ∷ rest) ≡ Some (front, rest)
cut_found byte front rest lacks =
    let whole : List ℕ = front ++ byte ∷ rest in
    let place = first_place byte front rest lacks in
    let within : nat_lt (length front) (length whole) ≡ true = lt-ltb _ _ (omega (arith, length-append front (byte ∷ rest))) in
    ap (λ n. option_map (λ k. (take k whole, drop (k + 1) whole)) (cond (nat_lt n (length whole)) (Some n) None)) place
    ∙ ap (λ t. option_map (λ k. (take k whole, drop (k + 1) whole)) (cond t (Some (length front)) None)) within
    ∙ ap (λ f. Some (f, drop (length front + 1) whole)) (front_of front (byte ∷ rest))
    ∙ ap (λ r. Some (front, r)) (after_of front byte rest)

-- a text without the byte has no such place
pub cut_none : (byte : ℕ) (text : List ℕ) → Lacks byte text → cut_at byte text ≡ None
cut_none byte text lacks =
    ap (λ n. option_map (λ k. (take k text, drop (k + 1) text)) (cond (nat_lt n (length text)) (Some n) None)) (no_place byte text lacks)
    ∙ ap (λ t. option_map (λ k. (take k text, drop (k + 1) text)) (cond t (Some (length text)) None)) (le-ltb (length text) (length text) (omega arith))
