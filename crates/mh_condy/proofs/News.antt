-- Numbers where they first stand, but for those that pass a test.
use Rattle.std.proofs.Common.{◌≡◌, refl, sym, ◌∙◌, ap, ap₂, ℕ, Bool, true, false, ◌||◌, if◌then◌else◌, List, [], ◌∷◌, ◌++◌}
use Rattle.std.specs.Prelude.{◌==◌}
use Rattle.std.proofs.lemmas.Bool.{both_ways, eqb-true, ne_eqb, eqb-false, or_parts}
use Rattle.mh_link.specs.Places.{is_in, Has, first_new, first_places}
use Rattle.mh_link.proofs.walking.Places.{has-here, has-there}

pub new-same : (p q : ℕ → Bool) (xs : List ℕ) → ((k : ℕ) → p k ≡ q k) → first_new p xs ≡ first_new q xs
new-same p q [] same = refl
new-same p q (x ∷ xs) same =
    ap (λ b. if b then first_new p xs else x ∷ first_new (λ k. (x == k) || p k) xs) (same x)
    ∙ ap₂ (λ a b. if q x then a else x ∷ b) (new-same p q xs same)
    (new-same (λ k. (x == k) || p k) (λ k. (x == k) || q k) xs (λ k. ap (λ b. (x == k) || b) (same k)))

pub new-none : (p : ℕ → Bool) (xs : List ℕ) → ((k : ℕ) → Has xs k → p k ≡ true) → first_new p xs ≡ []
new-none p [] each = refl
new-none p (x ∷ xs) each =
    ap (λ b. if b then first_new p xs else x ∷ first_new (λ k. (x == k) || p k) xs) (each x (has-here x xs))
    ∙ new-none p xs (λ k h. each k (has-there x xs k h))

old-again : (a b c : Bool) → (b ≡ true → a ≡ true) → (a || c) ≡ (a || (b || c))
old-again true b c h = refl
old-again false true c h = absurd (both_ways false refl (h refl))
old-again false false c h = refl

turn : (a b c : Bool) → ((a || b) || c) ≡ (b || (a || c))
turn true true c = refl
turn true false c = refl
turn false b c = refl

pub new-append : (p : ℕ → Bool) (xs ys : List ℕ) → first_new p (xs ++ ys) ≡ first_new p xs ++ first_new (λ k. p k || is_in xs k) ys
new-append p [] ys = new-same p (λ k. p k || false) ys (λ k. cases (p k))
  where
    cases : (b : Bool) → b ≡ (b || false)
    cases true = refl
    cases false = refl
new-append p (x ∷ xs) ys = cases (p x) refl (new-append p xs ys) (new-append (λ k. (x == k) || p k) xs ys)
  where
    cases : (t : Bool) → p x ≡ t → first_new p (xs ++ ys) ≡ first_new p xs ++ first_new (λ k. p k || is_in xs k) ys →
        first_new (λ k. (x == k) || p k) (xs ++ ys) ≡ first_new (λ k. (x == k) || p k) xs ++ first_new (λ k. ((x == k) || p k) || is_in xs k) ys →
        (if t then first_new p (xs ++ ys) else x ∷ first_new (λ k. (x == k) || p k) (xs ++ ys))
        ≡ (if t then first_new p xs else x ∷ first_new (λ k. (x == k) || p k) xs) ++ first_new (λ k. p k || ((x == k) || is_in xs k)) ys
    cases true there before after =
        before
        ∙ ap (λ zs. first_new p xs ++ zs) (new-same (λ k. p k || is_in xs k) (λ k. p k || ((x == k) || is_in xs k)) ys
        (λ k. old-again (p k) (x == k) (is_in xs k) (λ e. ap p (sym (eqb-true x k e)) ∙ there)))
    cases false new before after =
        ap (λ zs. x ∷ zs) (after
        ∙ ap (λ zs. first_new (λ k. (x == k) || p k) xs ++ zs)
        (new-same (λ k. ((x == k) || p k) || is_in xs k) (λ k. p k || ((x == k) || is_in xs k)) ys (λ k. turn (x == k) (p k) (is_in xs k))))

-- a number that is not in the list changes nothing
pub new-other : (p : ℕ → Bool) (c : ℕ) (xs : List ℕ) → is_in xs c ≡ false → first_new (λ k. (c == k) || p k) xs ≡ first_new p xs
new-other p c [] none = refl
new-other p c (x ∷ xs) none =
    let apart = or_parts (x == c) (is_in xs c) none in
    let off : (c == x) ≡ false = ne_eqb c x (λ e. eqb-false x c apart.0 (sym e)) in
    ap (λ b. if b || p x then first_new (λ k. (c == k) || p k) xs else x ∷ first_new (λ k. (x == k) || ((c == k) || p k)) xs) off
    ∙ ap₂ (λ a b. if p x then a else x ∷ b) (new-other p c xs apart.1)
    (new-same (λ k. (x == k) || ((c == k) || p k)) (λ k. (c == k) || ((x == k) || p k)) xs (λ k. over (x == k) (c == k) (p k))
    ∙ new-other (λ k. (x == k) || p k) c xs apart.1)
  where
    over : (a b c : Bool) → (a || (b || c)) ≡ (b || (a || c))
    over true true c = refl
    over true false c = refl
    over false b c = refl

-- where the test is whether a number was seen
pub new-places : (p : ℕ → Bool) (seen xs : List ℕ) → ((k : ℕ) → p k ≡ is_in seen k) → first_new p xs ≡ first_places seen xs
new-places p seen [] same = refl
new-places p seen (x ∷ xs) same =
    ap (λ b. if b then first_new p xs else x ∷ first_new (λ k. (x == k) || p k) xs) (same x)
    ∙ ap₂ (λ a b. if is_in seen x then a else x ∷ b) (new-places p seen xs same)
    (new-places (λ k. (x == k) || p k) (x ∷ seen) xs (λ k. ap (λ b. (x == k) || b) (same k)))
