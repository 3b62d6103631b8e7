-- Lists of sites: whether one is among them, and where each first stands.
use Rattle.std.proofs.Common.{◌≡◌, refl, sym, ◌∙◌, ap, ap₂, ℕ, suc, Bool, true, false, ◌||◌, cond, if◌then◌else◌, List, [], ◌∷◌, ◌++◌, arith}
use Rattle.std.specs.Prelude.{◌==◌, Contains, filter}
use Rattle.std.specs.List.{list_any}
use Rattle.std.proofs.lemmas.Bool.{eqb-true, eqb-false, eq-eqb, ne_eqb, or_parts}
use Rattle.std.proofs.lemmas.List.Folds.{list_any-append, list_any_at}
use Rattle.mh_base.proofs.Tests.{or_false}
use Rattle.mh_plan.specs.Naming.{first_places}

-- the site is one of a list
abbrev pub is_in : List ℕ → ℕ → Bool
is_in sites k = list_any (λ s. s == k) sites

pub in-push : (sites : List ℕ) (x k : ℕ) → is_in (sites ++ x ∷ []) k ≡ (is_in sites k || (x == k))
in-push sites x k = list_any-append (λ s. s == k) sites (x ∷ []) ∙ ap (λ b. is_in sites k || b) (or_false (x == k))

pub contains-in : (sites : List ℕ) (k : ℕ) → Contains sites k → is_in sites k ≡ true
contains-in sites k h = list_any_at (λ s. s == k) sites h.0 k h.1 (eq-eqb _ _ h.2)

pub in-contains : (sites : List ℕ) (k : ℕ) → is_in sites k ≡ true → Contains sites k
in-contains [] k none = cc
in-contains (s ∷ sites) k there = cases (s == k) refl there (in-contains sites k)
  where
    cases : (b : Bool) → (s == k) ≡ b → (b || is_in sites k) ≡ true → (is_in sites k ≡ true → Contains sites k) → Contains (s ∷ sites) k
    cases true same h rest = (0, omega arith, eqb-true s k same)
    cases false other h rest = let c = rest h in (suc c.0, omega (arith, c.1), c.2)

-- ---- where each first stands

seen-same : (s x : ℕ) (seen sites : List ℕ) → is_in seen s ≡ true → (is_in seen x || ((s == x) || is_in sites x)) ≡ (is_in seen x || is_in sites x)
seen-same s x seen sites there = cases (s == x) refl
  where
    cases : (t : Bool) → (s == x) ≡ t → (is_in seen x || (t || is_in sites x)) ≡ (is_in seen x || is_in sites x)
    cases true same =
        let here : is_in seen x ≡ true = ap (is_in seen) (sym (eqb-true s x same)) ∙ there in
        ap (λ t. t || (true || is_in sites x)) here ∙ sym (ap (λ t. t || is_in sites x) here)
    cases false other = refl

seen-next : (a b c : Bool) → ((a || b) || c) ≡ (b || (a || c))
seen-next true true c = refl
seen-next true false c = refl
seen-next false b c = refl

pub first-push : (seen sites : List ℕ) (x : ℕ) →
    first_places seen (sites ++ x ∷ []) ≡ first_places seen sites ++ (if is_in seen x || is_in sites x then [] else x ∷ [])
first-push seen [] x = ap (λ b. if b then [] else x ∷ []) (sym (or_false (is_in seen x)))
first-push seen (s ∷ sites) x = cases (is_in seen s) refl (first-push seen sites x) (first-push (s ∷ seen) sites x)
  where
    cases : (b : Bool) → is_in seen s ≡ b →
        first_places seen (sites ++ x ∷ []) ≡ first_places seen sites ++ (if is_in seen x || is_in sites x then [] else x ∷ []) →
        first_places (s ∷ seen) (sites ++ x ∷ []) ≡ first_places (s ∷ seen) sites ++ (if is_in (s ∷ seen) x || is_in sites x then [] else x ∷ []) →
        (if b then first_places seen (sites ++ x ∷ []) else s ∷ first_places (s ∷ seen) (sites ++ x ∷ []))
        ≡ (if b then first_places seen sites else s ∷ first_places (s ∷ seen) sites) ++ (if is_in seen x || is_in (s ∷ sites) x then [] else x ∷ [])
    cases true there before after =
        before ∙ ap (λ b. first_places seen sites ++ (if b then [] else x ∷ [])) (sym (seen-same s x seen sites there))
    cases false new before after =
        ap (λ ks. s ∷ ks) (after ∙ ap (λ b. first_places (s ∷ seen) sites ++ (if b then [] else x ∷ [])) (seen-next (s == x) (is_in seen x) (is_in sites x)))

-- none but those of the list
pub first-within : (seen sites : List ℕ) (k : ℕ) → is_in sites k ≡ false → is_in (first_places seen sites) k ≡ false
first-within seen [] k none = refl
first-within seen (s ∷ sites) k none = cases (is_in seen s) (or_parts (s == k) (is_in sites k) none)
    (first-within seen sites k (or_parts (s == k) (is_in sites k) none).1) (first-within (s ∷ seen) sites k (or_parts (s == k) (is_in sites k) none).1)
  where
    cases : (b : Bool) → ((s == k) ≡ false) × (is_in sites k ≡ false) → is_in (first_places seen sites) k ≡ false →
        is_in (first_places (s ∷ seen) sites) k ≡ false → is_in (if b then first_places seen sites else s ∷ first_places (s ∷ seen) sites) k ≡ false
    cases true apart before after = before
    cases false apart before after = ap₂ (λ a b. a || b) apart.0 after

-- ---- what a list keeps of another

-- one site more, which the other list does not have
pub kept-other : (made : List ℕ) (x : ℕ) (sites : List ℕ) → is_in sites x ≡ false → filter (is_in (made ++ x ∷ [])) sites ≡ filter (is_in made) sites
kept-other made x [] none = refl
kept-other made x (s ∷ sites) none =
    let apart = or_parts (s == x) (is_in sites x) none in
    ap₂ (λ b ks. cond b (s ∷ ks) ks)
    (in-push made x s ∙ (ap (λ b. is_in made s || b) (ne_eqb x s (λ e. eqb-false s x apart.0 (sym e))) ∙ or_false (is_in made s)))
    (kept-other made x sites apart.1)
