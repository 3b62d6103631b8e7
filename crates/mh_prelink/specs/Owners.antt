-- The deque's own worker before and after its work.
use Rattle.std.specs.Prelude.{◌≡◌, ℕ, ◌<◌, ◌≤◌, ◌++◌, List, length, None}
use Rattle.std.specs.declared.option.Option.{Option}
use Rattle.crossbeam_deque.specs.Handles.{worker_view, worker_flavor, SameWorker}
use Rattle.crossbeam_deque.specs.declared.handles.Worker.{Worker}
use Rattle.mh_prelink.specs.declared.tally.Tally.{Tally}
use Rattle.mh_prelink.specs.declared.worked.Work.{Work}
use Rattle.mh_prelink.specs.Tallies.{tally, NoneLeft}
use Rattle.mh_prelink.specs.Steps.{Goes, Ended}

module _ {A R P E : Type 0} where
  -- the same numbers came into the worker's view and to the end of its list
  abbrev pub TalliesGrow : Worker ℕ A Tally R → Work P E → Worker ℕ A Tally R → Work P E → Type 0
  TalliesGrow owner mine owner' mine' =
      SameWorker owner owner' × ((xs : List ℕ) × (mine'.taken.items ≡ mine.taken.items ++ xs)
      × (worker_view owner' ≡ tally (worker_view owner).parts (worker_view owner).put ((worker_view owner).taken ++ xs)))

  module _ (step : P → ℕ → Option E → P → Type 0) (has : P → ℕ → Type 0) (room : P → ℕ → Type 0) (bound : ℕ) where
    -- a first-in-first-out deque, and a worker that goes on
    pub record CanPop (owner : Worker ℕ A Tally R) (mine : Work P E) : Type 0 where
      pub flavor : worker_flavor owner ≡ 0
      pub part : 0 < (worker_view owner).parts
      pub listed : length mine.taken.items ≤ length (worker_view owner).taken
      pub from : P
      pub goes : Goes step has room bound from mine

    -- what it did, and if it did not stop, that the deque was found empty
    pub record HasPopped (owner : Worker ℕ A Tally R) (mine : Work P E) (owner' : Worker ℕ A Tally R) (mine' : Work P E) : Type 0 where
      pub more : TalliesGrow owner mine owner' mine'
      pub ended : (p : P) → Goes step has room bound p mine → Ended step has room bound p mine'
      pub none_left : mine'.stop ≡ None → NoneLeft (worker_view owner')
