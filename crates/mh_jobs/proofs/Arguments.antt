-- A list that is read item by item.
use Rattle.std.proofs.Common.{◌≡◌, subst, ℕ, suc, List, ◌∷◌, drop, Some}
use Rattle.std.specs.Prelude.{slice_get}
use Rattle.std.proofs.Math.Seq.{drop-cons}
use Rattle.std.proofs.lemmas.Option.{get_or_from_slice_get, slice_get_within}

-- from a place on, a list is its item there and what is after it
pub drop-here : {A : Type 0} (xs : List A) (k : ℕ) (x : A) → slice_get xs k ≡ Some x → drop k xs ≡ x ∷ drop (suc k) xs
drop-here xs k x h = subst (λ y. drop k xs ≡ y ∷ drop (suc k) xs) (get_or_from_slice_get xs k x x h) (drop-cons xs k x (slice_get_within xs k x h))
