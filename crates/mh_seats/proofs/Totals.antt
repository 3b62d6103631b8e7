-- Totals over the views, after a change of one of them, and what is so of each view.
use Rattle.std.proofs.Common.{◌≡◌, ℕ, zero, suc, ◌+◌, ◌≤◌, ◌≢◌, List, [], ◌∷◌, ◌++◌, sum_by, set, sym, refl, ap, subst, arith, ⊎_elim}
use Rattle.std.proofs.lemmas.List.Sums.{sum_by-cons, sum_by-append}
use mathlib.Core.Option.{some, some-injective, some-ne-none}
use lib.ListN.{get_elem?}
use Rattle.atomic_table.proofs.Lists.{at_set, at_snoc}

module _ {V : Type 0} where
  pub total_set : (f : V → ℕ) (views : List V) (i : ℕ) (v w : V) → get_elem? views i ≡ some v → sum_by f (set views i w) + f v ≡ sum_by f views + f w
  total_set f [] i v w e = absurd (some-ne-none v (sym e))
  total_set f (x ∷ xs) zero v w e = let same : f x ≡ f v = ap f (some-injective x v e) in omega (arith, sum_by-cons f w xs, sum_by-cons f x xs)
  total_set f (x ∷ xs) (suc i) v w e = omega (arith, sum_by-cons f x (set xs i w), sum_by-cons f x xs, total_set f xs i v w e)

  pub total_more : (f : V → ℕ) (views : List V) (w : V) → sum_by f (views ++ w ∷ []) ≡ sum_by f views + f w
  total_more f views w = omega (arith, sum_by-append f views (w ∷ []), sum_by-cons f w [])

  -- one view is cut in two
  pub total_cut : (f : V → ℕ) (views : List V) (i : ℕ) (v l r : V) → get_elem? views i ≡ some v → sum_by f (set views i l ++ r ∷ []) + f v ≡ sum_by f views + f
      l + f r
  total_cut f views i v l r at = omega (arith, total_more f (set views i l) r, total_set f views i v l at)

  pub at_most : (f : V → ℕ) (views : List V) (i : ℕ) (v : V) → get_elem? views i ≡ some v → f v ≤ sum_by f views
  at_most f [] i v e = absurd (some-ne-none v (sym e))
  at_most f (x ∷ xs) zero v e = let same : f x ≡ f v = ap f (some-injective x v e) in omega (arith, sum_by-cons f x xs)
  at_most f (x ∷ xs) (suc i) v e = omega (arith, sum_by-cons f x xs, at_most f xs i v e)

  -- a sum of smaller terms is smaller
  pub smaller : (f g : V → ℕ) → ((v : V) → f v ≤ g v) → (views : List V) → sum_by f views ≤ sum_by g views
  smaller f g le [] = omega arith
  smaller f g le (x ∷ xs) = omega (arith, sum_by-cons f x xs, sum_by-cons g x xs, le x, smaller f g le xs)

  -- where g is 0 of each view that f is 0 of
  module _ (f g : V → ℕ) where
    pub none : (views : List V) → ((i : ℕ) (u : V) → get_elem? views i ≡ some u → f u ≡ 0 → g u ≡ 0) → sum_by f views ≡ 0 → sum_by g views ≡ 0
    none [] follows e = refl
    none (x ∷ xs) follows e =
        let p : f x + sum_by f xs ≡ 0 = omega (arith, sum_by-cons f x xs) in
        omega (arith, sum_by-cons g x xs, follows 0 x refl (omega arith), none xs (λ i. follows (suc i)) (omega arith))

    -- one view has all of f, so it has all of g
    pub alone : (views : List V) → ((i : ℕ) (u : V) → get_elem? views i ≡ some u → f u ≡ 0 → g u ≡ 0) → (i : ℕ) (v : V) → get_elem? views i ≡ some v →
        f v ≡ sum_by f views → g v ≡ sum_by g views
    alone [] follows i v e s = absurd (some-ne-none v (sym e))
    alone (x ∷ xs) follows zero v e s =
        let same : x ≡ v = some-injective x v e in let same_f : f x ≡ f v = ap f same in let same_g : g x ≡ g v = ap g same in
        omega (arith, sum_by-cons f x xs, sum_by-cons g x xs, none xs (λ i. follows (suc i)) (omega (arith, sum_by-cons f x xs)))
    alone (x ∷ xs) follows (suc i) v e s =
        let m = at_most f xs i v e in
        omega (
          arith,
          sum_by-cons g x xs,
          follows 0 x refl (omega (arith, sum_by-cons f x xs)),
          alone xs (λ i. follows (suc i)) i v e
              (omega (arith, sum_by-cons f x xs)),
        )

  abbrev pub Each : (V → Type 0) → List V → Type 0
  Each P views = (i : ℕ) (v : V) → get_elem? views i ≡ some v → P v

  pub each_set : (P : V → Type 0) (views : List V) (id : ℕ) (w : V) → Each P views → P w → Each P (set views id w)
  each_set P views id w all mine i u at =
      ⊎_elim (λ (c : (i ≡ id) × (w ≡ u)). subst P c.1 mine) (λ (c : (i ≢ id) × (get_elem? views i ≡ some u)). all i u c.1) (at_set views id i w u at)

  pub each_more : (P : V → Type 0) (views : List V) (w : V) → Each P views → P w → Each P (views ++ w ∷ [])
  each_more P views w all mine i u at =
      ⊎_elim (λ (old : get_elem? views i ≡ some u). all i u old) (λ (is : w ≡ u). subst P is mine) (at_snoc views w u i at)
