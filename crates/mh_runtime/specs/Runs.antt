-- For proofs: no clause of a public function reaches these definitions.
-- What the calls of a plan leave whose threads' passes are split off one pass: the first one, or the one that workers have left.
use Rattle.std.specs.Prelude.{◌≡◌, ◌⊎◌, ℕ, zero, suc, List, None, Some}
use Rattle.mh_intern.specs.Views.{SeatView}
use Rattle.mh_condy.specs.Passes.{TableView}
use Rattle.mh_jobs.specs.Given.{Given}
use Rattle.mh_plan.specs.declared.call.Call.{Call}
use Rattle.mh_runtime.specs.declared.joining.Joined.{Joined}
use Rattle.mh_runtime.specs.declared.linker.Linker.{Linker}
use Rattle.mh_runtime.specs.declared.pass.Pass.{Pass}
use Rattle.mh_runtime.specs.declared.running.Linked.{Linked}
use Rattle.mh_runtime.specs.declared.stops.Stop.{Stop}
use Rattle.mh_runtime.specs.Joining.{AreAllJoined, IsUnused}
use Rattle.mh_runtime.specs.Prelinked.{IsPrelinked}
use Rattle.mh_runtime.specs.Report.{IsSettled, ReportsJoined}
use Rattle.mh_runtime.specs.Stops.{outside}

-- the calls of the plan were made to their end, and what they leave, joined to the base, is reported
pub record IsRunOn {J : Type 0} (given : Given) (base : Pass J) (plan : List (List Call)) (run : Linked) (seat : SeatView) : Type 0 where
  pub joined : Joined J
  pub all : AreAllJoined given base plan joined
  pub reports : ReportsJoined given joined run seat

-- a thread of the plan has stopped, and this stop is reported; all that was learnt was recorded
pub record HasStoppedOn {J : Type 0} (given : Given) (base : Pass J) (plan : List (List Call)) (stop : Stop) : Type 0 where
  pub joined : Joined J
  pub all : AreAllJoined given base plan joined
  pub some : joined.stop ≡ Some stop
  pub settled : IsSettled given joined.pass.links

-- the stop is that for lack of memory outside the threads, or that of a thread
abbrev pub IsStopOn : {J : Type 0} → Given → Pass J → List (List Call) → Stop → Type 0
IsStopOn given base plan stop = (stop ≡ outside) ⊎ HasStoppedOn given base plan stop

-- the pass is the first one, or the one after this many workers, none of which stopped
abbrev pub IsBaseBy : {J : Type 0} → Given → Linker J → TableView → ℕ → ℕ → Pass J → Type 0
IsBaseBy given linker table threads zero pass = IsUnused given linker table pass
IsBaseBy given linker table threads (suc more) pass = IsPrelinked given linker table threads (suc more) (record { pass = pass; stop = None })
