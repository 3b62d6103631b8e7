-- The items of a list that is longer, an answer that is the first of two, and one that is not there.
use Rattle.std.proofs.Common.{◌≡◌, refl, ap, zero, suc, ℕ, ◌<◌, ◌⊎◌, inl, inr, List, [], ◌∷◌, ◌++◌, length, slice_get, false, is_some, Option, None, Some, arith}
use Rattle.std.specs.Option.{option_or}

-- an item of the front of a list
pub slice_get-front : {A : Type 0} (xs ys : List A) (i : ℕ) → i < length xs → slice_get (xs ++ ys) i ≡ slice_get xs i
slice_get-front [] ys i within = absurd (omega (arith, within))
slice_get-front (x ∷ xs) ys zero within = refl
slice_get-front (x ∷ xs) ys (suc i) within = slice_get-front xs ys i (omega arith)

-- the item at the end
pub slice_get-end : {A : Type 0} (xs : List A) (y : A) → slice_get (xs ++ y ∷ []) (length xs) ≡ Some y
slice_get-end [] y = refl
slice_get-end (x ∷ xs) y = slice_get-end xs y

-- an item of a list with one more at its end: it was there, or it is that one
pub slice_get-push : {A : Type 0} (xs : List A) (y : A) (i : ℕ) (z : A) → slice_get (xs ++ y ∷ []) i ≡ Some z → (slice_get xs i ≡ Some z)
    ⊎ ((i ≡ length xs) × (y ≡ z))
slice_get-push [] y zero z h = inr (refl, cc)
slice_get-push [] y (suc i) z h = cc
slice_get-push (x ∷ xs) y zero z h = inl h
slice_get-push (x ∷ xs) y (suc i) z h = elim (slice_get-push xs y i z h) [ inl w ↦ inl w | inr w ↦ inr (ap suc w.0, w.1) ]

-- there is an item at each place within a list
pub slice_get-within : {A : Type 0} (xs : List A) (i : ℕ) → i < length xs → (x : A) × (slice_get xs i ≡ Some x)
slice_get-within [] i within = absurd (omega (arith, within))
slice_get-within (x ∷ xs) zero within = (x, refl)
slice_get-within (x ∷ xs) (suc i) within = slice_get-within xs i (omega (arith, within))

-- where there is no second answer, the first counts
pub option_or-none : {A : Type 0} (o : Option A) → option_or o None ≡ o
option_or-none None = refl
option_or-none (Some x) = refl

pub not_some : {A : Type 0} (o : Option A) → is_some o ≡ false → o ≡ None
not_some None h = refl
not_some (Some a) h = cc
