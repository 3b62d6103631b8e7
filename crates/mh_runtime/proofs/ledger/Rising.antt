-- Lists whose items rise by a number: two of them with the same items are one.
use Rattle.std.proofs.Common.{◌≡◌, ◌≢◌, refl, sym, ◌∙◌, ap, ap₂, subst, ℕ, zero, suc, ◌<◌, List, [], ◌∷◌, length, get_or, ◌⊎◌, inl, inr, ⊎_elim, arith}
use Rattle.std.specs.Prelude.{AllPairs, Contains}
use Rattle.std.proofs.lemmas.Bool.{cases_order}
use Rattle.std.proofs.lemmas.List.{get_or_default}

-- ---- the first item and the rest

pub contains-cases : {A : Type 0} (x : A) (xs : List A) (y : A) → Contains (x ∷ xs) y → (x ≡ y) ⊎ Contains xs y
contains-cases x xs y h = cases h.0 h.1 h.2
  where
    cases : (k : ℕ) → k < length (x ∷ xs) → get_or (x ∷ xs) k y ≡ y → (x ≡ y) ⊎ Contains xs y
    cases zero within same = inl same
    cases (suc k) within same = inr (k, omega (arith, within), same)

pub contains-later : {A : Type 0} (x : A) (xs : List A) (y : A) → Contains xs y → Contains (x ∷ xs) y
contains-later x xs y h = (suc h.0, omega (arith, h.1), h.2)

-- ---- lists that rise

module _ {A : Type 0} (n : A → ℕ) where
  -- each item has a greater number than those before it
  abbrev pub Rises : List A → Type 0
  Rises xs = AllPairs (λ x y. n x < n y) xs

  first-below : (x : A) (xs : List A) (y : A) → Rises (x ∷ xs) → Contains xs y → n x < n y
  first-below x xs y up h = subst (λ z. n x < n z) h.2 (up 0 (suc h.0) y (omega arith) (omega (arith, h.1)))

  rest-rises : (x : A) (xs : List A) → Rises (x ∷ xs) → Rises xs
  rest-rises x xs up i j d below within = up (suc i) (suc j) d (omega (arith, below)) (omega (arith, within))

  -- what the rest of one list has is in the rest of the other
  rest-in : (x y : A) (xs ys : List A) → x ≡ y → Rises (x ∷ xs) → ((z : A) → Contains (x ∷ xs) z → Contains (y ∷ ys) z) →
      (z : A) → Contains xs z → Contains ys z
  rest-in x y xs ys same up to z h = ⊎_elim
      (λ (here : y ≡ z).
      let below : n x < n z = first-below x xs z up h in
      let first : n x ≡ n z = ap n (same ∙ here) in
      absurd (omega (arith, below, first)))
      (λ (later : Contains ys z). later)
      (contains-cases y ys z (to z (contains-later x xs z h)))

  pub rising-same : (xs ys : List A) → Rises xs → Rises ys → ((z : A) → Contains xs z → Contains ys z) → ((z : A) → Contains ys z → Contains xs z) → xs ≡ ys
  rising-same [] [] up up' to from = refl
  rising-same [] (y ∷ ys) up up' to from = let h = from y (0, omega arith, refl) in absurd (omega (arith, h.1))
  rising-same (x ∷ xs) [] up up' to from = let h = to x (0, omega arith, refl) in absurd (omega (arith, h.1))
  rising-same (x ∷ xs) (y ∷ ys) up up' to from =
      let same : x ≡ y = first in
      ap₂ (λ z zs. z ∷ zs) same
      (rising-same xs ys (rest-rises x xs up) (rest-rises y ys up') (rest-in x y xs ys same up to) (rest-in y x ys xs (sym same) up' from))
    where
      first : x ≡ y
      first = ⊎_elim
          (λ (same : y ≡ x). sym same)
          (λ (later : Contains ys x). ⊎_elim
          (λ (same : x ≡ y). same)
          (λ (later' : Contains xs y).
          let above : n y < n x = first-below y ys x up' later in
          let below : n x < n y = first-below x xs y up later' in
          absurd (omega (arith, above, below)))
          (contains-cases x xs y (from y (0, omega arith, refl))))
          (contains-cases y ys x (to x (0, omega arith, refl)))

-- ---- lists whose items are apart

-- two items of a list have other sites, or whatever tells its items apart, where they differ at all
pub apart-in : {A : Type 0} (f n : A → ℕ) (xs : List A) → AllPairs (λ x y. f x ≢ f y) xs → (a b : A) → Contains xs a → Contains xs b → n a < n b →
    f a ≢ f b
apart-in f n xs apart a b h k below same = ⊎_elim
    (λ (here : h.0 ≡ k.0).
    let one : a ≡ b = from-a ∙ (ap (λ i. get_or xs i b) here ∙ k.2) in
    let number : n a ≡ n b = ap n one in
    absurd (omega (arith, below, number)))
    (λ (order : (h.0 < k.0) ⊎ (k.0 < h.0)). ⊎_elim
    (λ (first : h.0 < k.0). apart h.0 k.0 b first k.1 (ap f (sym from-a) ∙ (same ∙ ap f (sym k.2))))
    (λ (last : k.0 < h.0). apart k.0 h.0 b last h.1 (ap f k.2 ∙ (sym same ∙ ap f from-a)))
    order)
    (cases_order h.0 k.0)
  where
    from-a : a ≡ get_or xs h.0 b
    from-a = sym h.2 ∙ get_or_default xs h.0 a b h.1
