-- Lists of numbers: what is among them, and where each first stands.
use Rattle.std.proofs.Common.{◌≡◌, refl, sym, ◌∙◌, ap, ap₂, subst, ℕ, Bool, true, false, ◌||◌, ◌⊎◌, inl, inr, if◌then◌else◌, List, [], ◌∷◌, ◌++◌, append-nil}
use Rattle.std.specs.Prelude.{◌==◌}
use Rattle.std.specs.List.{flat_map}
use Rattle.std.proofs.lemmas.Bool.{both_ways, eqb-true, eq-eqb, or_cases, or_left, or_right}
use Rattle.std.proofs.lemmas.List.Folds.{list_any-append}
use Rattle.mh_link.specs.Places.{is_in, Has, first_places}

-- ---- what is among some numbers

pub in-append : (xs ys : List ℕ) (k : ℕ) → is_in (xs ++ ys) k ≡ (is_in xs k || is_in ys k)
in-append xs ys k = list_any-append (λ x. x == k) xs ys

pub has-append : (xs ys : List ℕ) (k : ℕ) → Has (xs ++ ys) k → Has xs k ⊎ Has ys k
has-append xs ys k h = or_cases (is_in xs k) (is_in ys k) (sym (in-append xs ys k) ∙ h)

pub has-left : (xs ys : List ℕ) (k : ℕ) → Has xs k → Has (xs ++ ys) k
has-left xs ys k h = in-append xs ys k ∙ or_left (is_in xs k) (is_in ys k) h

pub has-right : (xs ys : List ℕ) (k : ℕ) → Has ys k → Has (xs ++ ys) k
has-right xs ys k h = in-append xs ys k ∙ or_right (is_in xs k) (is_in ys k) h

pub has-here : (x : ℕ) (xs : List ℕ) → Has (x ∷ xs) x
has-here x xs = or_left (x == x) (is_in xs x) (eq-eqb x x refl)

pub has-there : (x : ℕ) (xs : List ℕ) (k : ℕ) → Has xs k → Has (x ∷ xs) k
has-there x xs k h = or_right (x == k) (is_in xs k) h

pub has-cons : (x : ℕ) (xs : List ℕ) (k : ℕ) → Has (x ∷ xs) k → (x ≡ k) ⊎ Has xs k
has-cons x xs k h = elim (or_cases (x == k) (is_in xs k) h) [ inl e ↦ inl (eqb-true x k e) | inr there ↦ inr there ]

-- one of a list's numbers has it below
pub record HasBelow (f : ℕ → List ℕ) (xs : List ℕ) (k : ℕ) : Type 0 where
  pub over : ℕ
  pub is : Has xs over
  pub has : Has (f over) k

pub has-flat : (f : ℕ → List ℕ) (xs : List ℕ) (k : ℕ) → Has (flat_map f xs) k → HasBelow f xs k
has-flat f [] k h = absurd (both_ways false refl h)
has-flat f (x ∷ xs) k h = elim (has-append (f x) (flat_map f xs) k h) [
  | inl here ↦ record { over = x; is = has-here x xs; has = here }
  | inr there ↦ later (has-flat f xs k there)
]
  where
    later : HasBelow f xs k → HasBelow f (x ∷ xs) k
    later h = record { over = h.over; is = has-there x xs h.over h.is; has = h.has }

pub flat-has : (f : ℕ → List ℕ) (xs : List ℕ) (x k : ℕ) → Has xs x → Has (f x) k → Has (flat_map f xs) k
flat-has f [] x k is h = absurd (both_ways false refl is)
flat-has f (y ∷ xs) x k is h = elim (has-cons y xs x is) [
  | inl e ↦ has-left (f y) (flat_map f xs) k (subst (λ z. Has (f z) k) (sym e) h)
  | inr there ↦ has-right (f y) (flat_map f xs) k (flat-has f xs x k there h)
]

-- ---- where each first stands

-- all of some numbers are among others
abbrev pub Within : List ℕ → List ℕ → Type 0
Within xs ys = (k : ℕ) → Has xs k → Has ys k

pub first-same : (seen more xs : List ℕ) → ((k : ℕ) → is_in seen k ≡ is_in more k) → first_places seen xs ≡ first_places more xs
first-same seen more [] same = refl
first-same seen more (x ∷ xs) same =
    ap (λ b. if b then first_places seen xs else x ∷ first_places (x ∷ seen) xs) (same x)
    ∙ ap₂ (λ a b. if is_in more x then a else x ∷ b) (first-same seen more xs same)
    (first-same (x ∷ seen) (x ∷ more) xs (λ k. ap (λ b. (x == k) || b) (same k)))

pub first-none : (seen xs : List ℕ) → Within xs seen → first_places seen xs ≡ []
first-none seen [] within = refl
first-none seen (x ∷ xs) within =
    ap (λ b. if b then first_places seen xs else x ∷ first_places (x ∷ seen) xs) (within x (has-here x xs))
    ∙ first-none seen xs (λ k h. within k (has-there x xs k h))

-- among what was seen and the first places are the numbers that were seen, and those of the list
pub in-first : (seen xs : List ℕ) (k : ℕ) → (is_in seen k || is_in (first_places seen xs) k) ≡ (is_in seen k || is_in xs k)
in-first seen [] k = refl
in-first seen (x ∷ xs) k = cases (is_in seen x) refl (in-first seen xs k) (in-first (x ∷ seen) xs k)
  where
    old : (a b c : Bool) → (a ≡ true → b ≡ true) → (b || c) ≡ (b || (a || c))
    old true true c h = refl
    old true false c h = absurd (both_ways false refl (h refl))
    old false b c h = refl

    swap : (a b c d : Bool) → ((a || b) || c) ≡ ((a || b) || d) → (b || (a || c)) ≡ (b || (a || d))
    swap true true c d h = refl
    swap true false c d h = refl
    swap false b c d h = h

    cases : (t : Bool) → is_in seen x ≡ t →
        (is_in seen k || is_in (first_places seen xs) k) ≡ (is_in seen k || is_in xs k) →
        (is_in (x ∷ seen) k || is_in (first_places (x ∷ seen) xs) k) ≡ (is_in (x ∷ seen) k || is_in xs k) →
        (is_in seen k || is_in (if t then first_places seen xs else x ∷ first_places (x ∷ seen) xs) k) ≡ (is_in seen k || ((x == k) || is_in xs k))
    cases true there before after = before ∙ old (x == k) (is_in seen k) (is_in xs k) (λ e. ap (is_in seen) (sym (eqb-true x k e)) ∙ there)
    cases false new before after = swap (x == k) (is_in seen k) (is_in (first_places (x ∷ seen) xs) k) (is_in xs k) after

pub after-first : (seen xs : List ℕ) (k : ℕ) → is_in (seen ++ first_places seen xs) k ≡ (is_in seen k || is_in xs k)
after-first seen xs k = in-append seen (first_places seen xs) k ∙ in-first seen xs k

-- one more that was seen, before or behind the others
pub in-push : (seen : List ℕ) (x k : ℕ) → is_in (seen ++ x ∷ []) k ≡ is_in (x ∷ seen) k
in-push seen x k = in-append seen (x ∷ []) k ∙ swap (is_in seen k) (x == k)
  where
    swap : (a b : Bool) → (a || (b || false)) ≡ (b || a)
    swap true true = refl
    swap true false = refl
    swap false true = refl
    swap false false = refl

pub first-append : (seen xs ys : List ℕ) →
    first_places seen (xs ++ ys) ≡ first_places seen xs ++ first_places (seen ++ first_places seen xs) ys
first-append seen [] ys = ap (λ s. first_places s ys) (sym (append-nil seen))
first-append seen (x ∷ xs) ys = cases (is_in seen x) (first-append seen xs ys) (first-append (x ∷ seen) xs ys)
  where
    cases : (t : Bool) → first_places seen (xs ++ ys) ≡ first_places seen xs ++ first_places (seen ++ first_places seen xs) ys →
        first_places (x ∷ seen) (xs ++ ys) ≡ first_places (x ∷ seen) xs ++ first_places (x ∷ (seen ++ first_places (x ∷ seen) xs)) ys →
        (if t then first_places seen (xs ++ ys) else x ∷ first_places (x ∷ seen) (xs ++ ys))
        ≡ (if t then first_places seen xs else x ∷ first_places (x ∷ seen) xs)
        ++ first_places (seen ++ (if t then first_places seen xs else x ∷ first_places (x ∷ seen) xs)) ys
    cases true before after = before
    cases false before after =
        ap (λ ks. x ∷ ks) (after
        ∙ ap (λ ks. first_places (x ∷ seen) xs ++ ks) (first-same (x ∷ (seen ++ first_places (x ∷ seen) xs)) (seen ++ x ∷ first_places (x ∷ seen) xs) ys same))
      where
        same : (k : ℕ) → is_in (x ∷ (seen ++ first_places (x ∷ seen) xs)) k ≡ is_in (seen ++ x ∷ first_places (x ∷ seen) xs) k
        same k =
            ap (λ b. (x == k) || b) (in-append seen (first_places (x ∷ seen) xs) k)
            ∙ (turn (x == k) (is_in seen k) (is_in (first_places (x ∷ seen) xs) k)
            ∙ sym (in-append seen (x ∷ first_places (x ∷ seen) xs) k))
          where
            turn : (a b c : Bool) → (a || (b || c)) ≡ (b || (a || c))
            turn true true c = refl
            turn true false c = refl
            turn false b c = refl

-- of first places the first places are those of the list
pub first-twice : (seen less xs : List ℕ) → Within less seen → first_places seen (first_places less xs) ≡ first_places seen xs
first-twice seen less [] within = refl
first-twice seen less (x ∷ xs) within =
    cases (is_in less x) refl (first-twice seen less xs within) (first-twice seen (x ∷ less) xs) (first-twice (x ∷ seen) (x ∷ less) xs)
  where
    cases : (t : Bool) → is_in less x ≡ t → first_places seen (first_places less xs) ≡ first_places seen xs →
        (Within (x ∷ less) seen → first_places seen (first_places (x ∷ less) xs) ≡ first_places seen xs) →
        (Within (x ∷ less) (x ∷ seen) → first_places (x ∷ seen) (first_places (x ∷ less) xs) ≡ first_places (x ∷ seen) xs) →
        first_places seen (if t then first_places less xs else x ∷ first_places (x ∷ less) xs)
        ≡ (if is_in seen x then first_places seen xs else x ∷ first_places (x ∷ seen) xs)
    cases true there old skipped noted =
        old
        ∙ sym (ap (λ b. if b then first_places seen xs else x ∷ first_places (x ∷ seen) xs) (within x there))
    cases false new old skipped noted = more (is_in seen x) refl
      where
        more : (t : Bool) → is_in seen x ≡ t →
            (if t then first_places seen (first_places (x ∷ less) xs) else x ∷ first_places (x ∷ seen) (first_places (x ∷ less) xs))
            ≡ (if t then first_places seen xs else x ∷ first_places (x ∷ seen) xs)
        more true there = skipped wider
          where
            wider : Within (x ∷ less) seen
            wider k h = elim (has-cons x less k h) as (λ _. Has seen k) [ inl e ↦ subst (λ z. Has seen z) e there | inr in_less ↦ within k in_less ]
        more false other = ap (λ ks. x ∷ ks) (noted wider)
          where
            wider : Within (x ∷ less) (x ∷ seen)
            wider k h = elim (has-cons x less k h) as (λ _. Has (x ∷ seen) k) [
              | inl e ↦ subst (λ z. Has (x ∷ seen) z) e (has-here x seen)
              | inr in_less ↦ has-there x seen k (within k in_less)
            ]
