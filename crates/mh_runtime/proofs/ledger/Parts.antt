-- Items of lists that are joined, filtered and mapped, by their places.
use Rattle.std.proofs.Common.{◌≡◌, refl, sym, ◌∙◌, ap, subst, ℕ, zero, suc, Bool, true, false, cond, List, [], ◌∷◌, map, Some, ⊎_elim, arith}
use Rattle.std.specs.Prelude.{Contains, filter, slice_get}
use Rattle.std.specs.List.{flat_map}
use Rattle.std.proofs.lemmas.List.Elements.{All-contains, All-contains_itself, All-filter, Contains-append_cases, Contains-append_left, Contains-append_right, filter_passes}
use Rattle.mh_runtime.proofs.ledger.Rising.{contains-cases, contains-later}

-- ---- lists of parts

module _ {X Y : Type 0} (f : X → List Y) where
  -- what the whole has is in one of the parts
  pub in-part : (xs : List X) (y : Y) → Contains (flat_map f xs) y → (i : ℕ) × (x : X) × (slice_get xs i ≡ Some x) × Contains (f x) y
  in-part [] y h = absurd (omega (arith, h.1))
  in-part (x ∷ xs) y h = ⊎_elim
      (λ (here : Contains (f x) y). (0, x, refl, here))
      (λ (later : Contains (flat_map f xs) y). let rest = in-part xs y later in (suc rest.0, rest.1, rest.2, rest.3))
      (Contains-append_cases (f x) (flat_map f xs) y h)

  pub part-in : (xs : List X) (i : ℕ) (x : X) (y : Y) → slice_get xs i ≡ Some x → Contains (f x) y → Contains (flat_map f xs) y
  part-in [] i x y is h = cc
  part-in (z ∷ xs) zero x y is h = let same : z ≡ x = cc is in Contains-append_left (f z) (flat_map f xs) y (subst (λ w. Contains (f w) y) (sym same) h)
  part-in (z ∷ xs) (suc i) x y is h = Contains-append_right (f z) (flat_map f xs) y (part-in xs i x y is h)

-- ---- lists that are filtered

module _ {X : Type 0} (p : X → Bool) where
  pub kept-in : (xs : List X) (x : X) → p x ≡ true → Contains xs x → Contains (filter p xs) x
  kept-in [] x passes h = absurd (omega (arith, h.1))
  kept-in (y ∷ xs) x passes h = cases (p y) refl (kept-in xs x passes)
    where
      cases : (b : Bool) → p y ≡ b → (Contains xs x → Contains (filter p xs) x) → Contains (cond b (y ∷ filter p xs) (filter p xs)) x
      cases true is rest = ⊎_elim
          (λ (here : y ≡ x). (0, omega arith, here))
          (λ (later : Contains xs x). contains-later y (filter p xs) x (rest later))
          (contains-cases y xs x h)
      cases false is rest = ⊎_elim
          (λ (here : y ≡ x). let other : true ≡ false = sym passes ∙ (ap p (sym here) ∙ is) in absurd cc)
          (λ (later : Contains xs x). rest later)
          (contains-cases y xs x h)

  pub in-kept : (xs : List X) (x : X) → Contains (filter p xs) x → Contains xs x × (p x ≡ true)
  in-kept xs x h = (
    All-contains (Contains xs) (filter p xs) x (All-filter p (Contains xs) xs (All-contains_itself xs)) h,
    All-contains (λ y. p y ≡ true) (filter p xs) x (filter_passes p xs) h,
  )

-- ---- lists that are mapped

pub map-at : {X Y : Type 0} (f : X → Y) (xs : List X) (i : ℕ) (y : Y) → slice_get (map f xs) i ≡ Some y → (x : X) × (slice_get xs i ≡ Some x) × (f x ≡ y)
map-at f [] i y is = cc
map-at f (x ∷ xs) zero y is = (x, refl, cc is)
map-at f (x ∷ xs) (suc i) y is = map-at f xs i y is

pub at-map : {X Y : Type 0} (f : X → Y) (xs : List X) (i : ℕ) (x : X) → slice_get xs i ≡ Some x → slice_get (map f xs) i ≡ Some (f x)
at-map f [] i x is = cc
at-map f (y ∷ xs) zero x is = ap (λ z. Some (f z)) (cc is)
at-map f (y ∷ xs) (suc i) x is = at-map f xs i x is

-- ---- places
