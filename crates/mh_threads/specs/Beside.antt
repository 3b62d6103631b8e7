-- What holds at each place of a list, if its first element has the place `first`.
use Rattle.std.specs.Prelude.{ℕ, ◌+◌, ◌<◌, List, length, slice_index_or}

module _ {L : Type 0} where
  -- each element may be, at its place
  pub record AreAt (may : ℕ → L → Type 0) (first : ℕ) (lanes : List L) : Type 0 where
    pub each : (i : ℕ) (d : L) → i < length lanes → may (first + i) (slice_index_or lanes i d)

  -- an element came from the one before, at this place
  pub record IsDoneAt (done : ℕ → L → L → Type 0) (place : ℕ) (before after : L) : Type 0 where
    pub here : done place before after

  -- each element came from the one before, at its place
  pub record AreDoneAt (done : ℕ → L → L → Type 0) (first : ℕ) (before after : List L) : Type 0 where
    pub each : (i : ℕ) (d : L) → i < length before → done (first + i) (slice_index_or before i d) (slice_index_or after i d)
