-- Which items lists have, by their places.
use Rattle.std.proofs.Common.{◌≡◌, refl, ap, ◌∙◌, subst, ℕ, zero, suc, Bool, true, false, cond, List, [], ◌∷◌, ◌++◌, Some, inl, inr, ◌⊎◌, ⊎_elim}
use Rattle.std.specs.Prelude.{slice_get}
use Rattle.std.specs.List.{filter}

module _ {X : Type 0} where
  -- the list has the item
  abbrev pub IsIn : List X → X → Type 0
  IsIn xs x = (i : ℕ) × (slice_get xs i ≡ Some x)

  pub in-later : (y : X) (xs : List X) (x : X) → IsIn xs x → IsIn (y ∷ xs) x
  in-later y xs x at = (suc at.0, at.1)

  pub in-left : (xs ys : List X) (x : X) → IsIn xs x → IsIn (xs ++ ys) x
  in-left [] ys x at = absurd (nothing at.0 at.1)
    where
      nothing : (i : ℕ) → slice_get {X = X} [] i ≡ Some x → ⊥
      nothing i at = cc
  in-left (y ∷ xs) ys x at = here at.0 at.1 (λ there. in-left xs ys x there)
    where
      here : (i : ℕ) → slice_get (y ∷ xs) i ≡ Some x → (IsIn xs x → IsIn (xs ++ ys) x) → IsIn (y ∷ (xs ++ ys)) x
      here zero at rest = (zero, at)
      here (suc i) at rest = in-later y (xs ++ ys) x (rest (i, at))

  pub in-right : (xs ys : List X) (x : X) → IsIn ys x → IsIn (xs ++ ys) x
  in-right [] ys x at = at
  in-right (y ∷ xs) ys x at = in-later y (xs ++ ys) x (in-right xs ys x at)

  pub in-either : (xs ys : List X) (x : X) → IsIn (xs ++ ys) x → IsIn xs x ⊎ IsIn ys x
  in-either [] ys x at = inr at
  in-either (y ∷ xs) ys x at = cases at.0 at.1 (λ there. in-either xs ys x there)
    where
      cases : (i : ℕ) → slice_get (y ∷ (xs ++ ys)) i ≡ Some x → (IsIn (xs ++ ys) x → IsIn xs x ⊎ IsIn ys x) → IsIn (y ∷ xs) x ⊎ IsIn ys x
      cases zero here rest = inl (zero, here)
      cases (suc i) there rest = ⊎_elim (λ (l : IsIn xs x). inl (in-later y xs x l)) (λ (r : IsIn ys x). inr r) (rest (i, there))

  -- ---- of those that pass a test

  module _ (test : X → Bool) where
    pub passing-in : (xs : List X) (x : X) → IsIn (filter test xs) x → IsIn xs x × (test x ≡ true)
    passing-in [] x at = absurd (nothing at.0 at.1)
      where
        nothing : (i : ℕ) → slice_get {X = X} [] i ≡ Some x → ⊥
        nothing i at = cc
    passing-in (y ∷ xs) x at = cases (test y) refl at (passing-in xs x)
      where
        first : test y ≡ true → (IsIn (filter test xs) x → IsIn xs x × (test x ≡ true)) → (i : ℕ) → slice_get (y ∷ filter test xs) i ≡ Some x →
            IsIn (y ∷ xs) x × (test x ≡ true)
        first passes rest zero here = let is : y ≡ x = cc in ((zero, here), subst (λ z. test z ≡ true) is passes)
        first passes rest (suc i) there = let r = rest (i, there) in (in-later y xs x r.0, r.1)

        cases : (b : Bool) → test y ≡ b → IsIn (cond b (y ∷ filter test xs) (filter test xs)) x → (IsIn (filter test xs) x → IsIn xs x × (test x ≡ true)) →
            IsIn (y ∷ xs) x × (test x ≡ true)
        cases true passes here rest = first passes rest here.0 here.1
        cases false fails here rest = let r = rest here in (in-later y xs x r.0, r.1)

    pub in-passing : (xs : List X) (x : X) → IsIn xs x → test x ≡ true → IsIn (filter test xs) x
    in-passing [] x at passes = absurd (nothing at.0 at.1)
      where
        nothing : (i : ℕ) → slice_get {X = X} [] i ≡ Some x → ⊥
        nothing i at = cc
    in-passing (y ∷ xs) x at passes = cases (test y) refl at.0 at.1 (λ there. in-passing xs x there passes)
      where
        cases : (b : Bool) → test y ≡ b → (i : ℕ) → slice_get (y ∷ xs) i ≡ Some x → (IsIn xs x → IsIn (filter test xs) x) →
            IsIn (cond b (y ∷ filter test xs) (filter test xs)) x
        cases true kept zero here rest = (zero, here)
        cases true kept (suc i) there rest = in-later y (filter test xs) x (rest (i, there))
        cases false dropped zero here rest = let is : y ≡ x = cc in let e : test y ≡ true = ap test is ∙ passes in absurd cc
        cases false dropped (suc i) there rest = rest (i, there)
