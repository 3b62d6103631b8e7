-- Which stop a run reports: by how the runs of its threads ended, or the work of its workers, each with a pass that was split off one base.
use Rattle.std.specs.Prelude.{◌≡◌, ◌⊎◌, ℕ, zero, suc, ◌+◌, ◌<◌, List, [], length, replicate, IsSome, Option, None, Some, slice_get}
use Rattle.mh_handle.specs.Joins as form_joins
use Rattle.mh_intern.specs.Views as types_seat
use Rattle.mh_jobs.specs.Given.{Given}
use Rattle.mh_attempt.specs.declared.error.WorkError.{WorkError}
use Rattle.mh_plan.specs.declared.call.Call.{Call}
use Rattle.mh_report.specs.Results.{serial_at}
use Rattle.mh_runtime.specs.declared.stops.Stop.{Stop}
use Rattle.mh_runtime.specs.declared.stops.ThreadRun.{ThreadRun}
use Rattle.mh_runtime.specs.Bases.{Base, pass_of}
use Rattle.mh_runtime.specs.Linkers.{RunsThread}
use Rattle.mh_runtime.specs.Passes.{split_pass, split_room}
use Rattle.mh_runtime.specs.Stops.{IsReported, outside}
use Rattle.mh_runtime.specs.Workers.{LinksSites}

-- ---- threads

-- the pass that is split off a base for a thread
abbrev pub split_for : ℕ → Base → Base
split_for thread base = record {
  links = split_pass thread base.links;
  forms = form_joins.split_pass base.forms;
  types = types_seat.new_seat base.types.table split_room;
}

-- a thread has made these calls with a pass that was split off the base, as `run_thread` promises, and has ended so
pub record HasMade (given : Given) (base : Base) (thread : ℕ) (calls : List Call) (end : Option WorkError) : Type 0 where
  pub left : Base
  pub run : ThreadRun
  pub runs : RunsThread {J = Unit {0}} given calls (pass_of (split_for thread base)) (pass_of left) run
  pub end_is : run.stop ≡ end

-- so has each thread of a plan
pub record HaveMade (given : Given) (base : Base) (plan : List (List Call)) (ends : List (Option WorkError)) : Type 0 where
  pub count : length ends ≡ length plan
  pub each : (thread : ℕ) (calls : List Call) (end : Option WorkError) → slice_get plan thread ≡ Some calls → slice_get ends thread ≡ Some end
      → HasMade given base thread calls end

-- with the base no site and no constant was attempted, and no site is learnt
pub record IsNew (given : Given) (base : Base) : Type 0 where
  pub attempts : base.links.attempts ≡ []
  pub linked : base.links.linked ≡ replicate (length given.jobs) None
  pub constants : base.links.constants.attempts ≡ []

-- what the threads' passes are split off: a new base if there are no workers, otherwise one that has learnt all sites
abbrev pub IsBaseWith : ℕ → Given → Base → Type 0
IsBaseWith zero given base = IsNew given base
IsBaseWith (suc more) given base = (site : ℕ) → site < length given.jobs → IsSome (serial_at base.links.linked site)

-- the threads of the plan have made their calls, and the stop is the reported one of theirs
pub record IsStopOfThreads (given : Given) (workers : ℕ) (plan : List (List Call)) (stop : Stop) : Type 0 where
  pub base : Base
  pub base_is : IsBaseWith workers given base
  pub ends : List (Option WorkError)
  pub made : HaveMade given base plan ends
  pub reported : IsReported ends stop

-- ---- workers

-- a worker has linked sites with a pass that was split off the base, one after the other, as `resolve` promises, and has ended so
pub record HasWorked (given : Given) (base : Base) (thread : ℕ) (end : Option WorkError) : Type 0 where
  pub sites : List ℕ
  pub left : Base
  pub links : LinksSites {J = Unit {0}} given sites end (pass_of (split_for thread base)) (pass_of left)

-- the stop of a worker, of that which its number among the workers says
abbrev pub raised : ℕ → Stop → Stop
raised threads stop = record { thread = threads + stop.thread; error = stop.error }

-- workers have worked that have the numbers after those of the threads, and the stop is the reported one of theirs
pub record IsStopOfWorkers (given : Given) (workers threads : ℕ) (stop : Stop) : Type 0 where
  pub base : Base
  pub base_is : IsNew given base
  pub ends : List (Option WorkError)
  pub count : length ends ≡ workers
  pub worked : (worker : ℕ) (end : Option WorkError) → slice_get ends worker ≡ Some end → HasWorked given base (threads + worker) end
  pub own : Stop
  pub reported : IsReported ends own
  pub stop_is : stop ≡ raised threads own

-- ---- a run

-- the stop is that for lack of memory outside the threads, or that of a thread or a worker
abbrev pub IsStopBy : Given → ℕ → List (List Call) → Stop → Type 0
IsStopBy given workers plan stop = (stop ≡ outside) ⊎ (IsStopOfThreads given workers plan stop ⊎ IsStopOfWorkers given workers (length plan) stop)
