-- What holds at each place of a list holds of its first element, and at each place of the others.
use Rattle.std.proofs.Common.{subst, ℕ, zero, suc, ◌+◌, ◌<◌, List, ◌∷◌, length, arith}
use Rattle.std.specs.Prelude.{slice_index_or}
use Rattle.mh_threads.specs.Beside.{AreAt, AreDoneAt}

module _ {L : Type 0} (may : ℕ → L → Type 0) (first : ℕ) (lane : L) (others : List L) where
  pub first-at : AreAt may first (lane ∷ others) → may first lane
  first-at all = subst (λ place. may place lane) (omega arith) (all.each zero lane (omega arith))

  pub others-at : AreAt may first (lane ∷ others) → AreAt may (first + 1) others
  others-at all = record {
    each = λ i d within. subst (λ place. may place (slice_index_or others i d)) (omega arith) (all.each (suc i) d (omega (arith, within)));
  }

module _ {L : Type 0} (done : ℕ → L → L → Type 0) (first : ℕ) (before after : L) (others others' : List L) where
  pub all-done : done first before after → AreDoneAt done (first + 1) others others' → AreDoneAt done first (before ∷ others) (after ∷ others')
  all-done one rest = record { each = at }
    where
      at : (i : ℕ) (d : L) → i < length (before ∷ others) → done (first + i) (slice_index_or (before ∷ others) i d) (slice_index_or (after ∷ others') i d)
      at zero d within = subst (λ place. done place before after) (omega arith) one
      at (suc i) d within = subst (λ place. done place (slice_index_or others i d) (slice_index_or others' i d)) (omega arith)
          (rest.each i d (omega (arith, within)))
