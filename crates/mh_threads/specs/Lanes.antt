-- Lanes before and after they run.
use Rattle.std.specs.Prelude.{◌≡◌, ℕ, ◌<◌, List, length, slice_index_or}

-- there are as many lanes as before, and each was done
pub record HaveRun {L : Type 0} (done : L → L → Type 0) (before after : List L) : Type 0 where
  pub count : length after ≡ length before
  pub each : (i : ℕ) (d : L) → i < length before → done (slice_index_or before i d) (slice_index_or after i d)
