-- A thief before and after its work.
use Rattle.std.specs.Prelude.{◌≡◌, ℕ, ◌<◌, List, [], length, slice_index_or}
use Rattle.std.specs.declared.option.Option.{Option}
use Rattle.crossbeam_deque.specs.Handles.{view}
use Rattle.mh_prelink.specs.declared.worked.Lane.{Lane}
use Rattle.mh_prelink.specs.Tallies.{tally, of_thief}
use Rattle.mh_prelink.specs.Steps.{Did, Goes, done_by}

module _ {P E : Type 0} (is_of : Lane P E → Type 0) (step : P → ℕ → Option E → P → Type 0) (has : P → ℕ → Type 0) where
  -- a thief that has taken nothing yet
  pub record CanSteal (room : P → ℕ → Type 0) (bound : ℕ) (l : Lane P E) : Type 0 where
    pub place : is_of l
    pub view : view l.place ≡ of_thief
    pub taken : l.work.taken.items ≡ []
    pub goes : Goes step has room bound l.work.pass l.work

  -- what it did, and that its view has the numbers of its list
  pub record HasStolen (before after : Lane P E) : Type 0 where
    pub place : is_of after
    pub view : view after.place ≡ tally 1 [] after.work.taken.items
    pub did : Did step has before.work.pass (done_by after.work)

-- there are as many lanes after as before, and each comes from the one at its place
pub record HaveWorked {A B : Type 0} (done : A → B → Type 0) (before : List A) (after : List B) : Type 0 where
  pub count : length after ≡ length before
  pub each : (i : ℕ) (d : A) (e : B) → i < length before → done (slice_index_or before i d) (slice_index_or after i e)
