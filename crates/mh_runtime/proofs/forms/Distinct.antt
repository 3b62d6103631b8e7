-- Lists of which no two items are the same, by a test, and what another list has beside one of them.
use Rattle.std.proofs.Common.{◌≡◌, refl, ◌∙◌, ap, Bool, true, false, not, ◌&&◌, ◌||◌, List, [], ◌∷◌, ◌++◌}
use Rattle.std.specs.Prelude.{filter}
use Rattle.std.specs.Cmp.{IsEquivalence}
use Rattle.std.specs.List.{list_any, IsDistinct, AllByRecursion}
use Rattle.std.proofs.lemmas.Bool.{or_from, or_parts}
use Rattle.std.proofs.lemmas.List.Folds.{list_any-append}
use Rattle.std.proofs.lemmas.List.Kept.{AllPairs-filter}
use Rattle.std.proofs.lemmas.Map.Keys.{IsDistinct-from_apart, apart_from_distinct}
use Rattle.std.proofs.lemmas.Map.Made.{is_member-filter}
use Rattle.mh_base.proofs.Tests.{or_true}

module _ {K : Type 0} (eq : K → K → Bool) where
  -- whether an item is one of a list
  abbrev pub has : List K → K → Bool
  has xs q = list_any (eq q) xs

  -- the items of a list that another one has not
  abbrev pub unless_had : List K → List K → List K
  unless_had xs ys = filter (λ y. not (has xs y)) ys

  apart : (x : K) (xs : List K) → has xs x ≡ false → AllByRecursion (λ y. eq x y ≡ false) xs
  apart x [] none = tt
  apart x (y ∷ xs) none = let parts = or_parts (eq x y) (has xs x) none in (parts.0, apart x xs parts.1)

  absent : (x : K) (xs : List K) → AllByRecursion (λ y. eq x y ≡ false) xs → has xs x ≡ false
  absent x [] none = refl
  absent x (y ∷ xs) none = or_from (eq x y) (has xs x) none.0 (absent x xs none.1)

  module _ (laws : IsEquivalence eq) (same : (a b : K) → eq a b ≡ true → a ≡ b) where
    had : (xs ys : List K) (q : K) → has (unless_had xs ys) q ≡ (has ys q && not (has xs q))
    had xs ys q = is_member-filter laws (λ y. not (has xs y)) q (λ y is. ap (λ z. not (has xs z)) (same q y is)) ys

    either : (a b : Bool) → (a || (b && not a)) ≡ (a || b)
    either true b = refl
    either false true = refl
    either false false = refl

    pub both-has : (xs ys : List K) (q : K) → has (xs ++ unless_had xs ys) q ≡ (has xs q || has ys q)
    both-has xs ys q =
        list_any-append (eq q) xs (unless_had xs ys) ∙ (ap (λ b. has xs q || b) (had xs ys q) ∙ either (has xs q) (has ys q))

    distinct-both : (xs ys : List K) → IsDistinct eq xs → IsDistinct eq ys → ((q : K) → has xs q ≡ true → has ys q ≡ false) → IsDistinct eq (xs ++ ys)
    unfolding IsDistinct
    distinct-both [] ys once once' others = once'
    distinct-both (x ∷ xs) ys once once' others = (
      apart x (xs ++ ys) (list_any-append (eq x) xs ys ∙ or_from (has xs x) (has ys x) (absent x xs once.0) (others x (ap (λ b. b || has xs x) (laws.refl x)))),
      distinct-both xs ys once.1 once' (λ q there. others q (ap (λ b. eq q x || b) there ∙ or_true (eq q x))),
    )

    none-had : (a b : Bool) → a ≡ true → (b && not a) ≡ false
    none-had a true is = ap not is
    none-had a false is = refl

    pub both-distinct : (xs ys : List K) → IsDistinct eq xs → IsDistinct eq ys → IsDistinct eq (xs ++ unless_had xs ys)
    both-distinct xs ys once once' =
        distinct-both xs (unless_had xs ys) once
        (IsDistinct-from_apart eq (unless_had xs ys)
        (AllPairs-filter (λ a b. eq a b ≡ false) (λ y. not (has xs y)) ys (λ i j d below within. apart_from_distinct eq ys i j d once' below within)))
        (λ q there. had xs ys q ∙ none-had (has xs q) (has ys q) there)
