-- The dynamic constants that an attempt asks at a call site, and the arguments that they are.
use Rattle.std.specs.Prelude.{◌≡◌, ◌<◌, ◌⊎◌, List, [], length, All, Option, Result, Ok, Err}
use Rattle.mh_values.specs.declared.value.Value.{Value}
use Rattle.mh_intern.specs.Views.{SeatView}
use Rattle.mh_jobs.specs.declared.job.Argument.{Argument}
use Rattle.mh_jobs.specs.declared.job.Argument.TheVariants as argument
use Rattle.mh_jobs.specs.declared.job.BootstrapCall.{BootstrapCall}
use Rattle.mh_jobs.specs.declared.job.Job.{Job}
use Rattle.mh_jobs.specs.declared.sites.Bootstrap.{Bootstrap}
use Rattle.mh_jobs.specs.declared.unresolved.Part.{Part}
use Rattle.mh_jobs.specs.declared.unresolved.Part.TheVariants.{Known, Constant}
use Rattle.mh_jobs.specs.Given.{Given, Found, under}
use Rattle.mh_jobs.specs.Thrown.{OrThrown, ◌>>=◌}
use Rattle.mh_link.specs.Asking.{asked_at}
use Rattle.mh_link.specs.Named.{Constants, run_of}
use Rattle.mh_link.specs.Resolved.{call_under, taken}
use Rattle.mh_condy.specs.Nodes.{Knows, found_in}
use Rattle.mh_condy.specs.Passes.{PassView}
use Rattle.mh_condy.specs.Recorded.{FindingView, constants_of}
use Rattle.mh_condy.specs.Runs.{HavePlaces}
use Rattle.mh_condy.specs.Trails.{GoesBeside, trail_of}
use Rattle.mh_attempt.specs.declared.error.WorkError.{WorkError}
use Rattle.mh_attempt.specs.declared.error.WorkError.TheVariants as work
use Rattle.mh_attempt.specs.AskedTypes.{AsksNoOther}

-- ---- arguments

-- a constant as an argument, by what is found of it
abbrev pub constant_argument : Option (OrThrown Value) → OrThrown Argument
constant_argument found = do
  value ← taken found
  Ok (argument.Value value)

-- a part as an argument, where constants are what they are known to be
abbrev pub part_under : Found → Part → OrThrown Argument
part_under known (Known a) = Ok a
part_under known (Constant c) = constant_argument (known c)

-- a part that is a constant is one of the run's
abbrev pub HasPlace : Constants → Part → Type 0
HasPlace run (Known a) = Unit {0}
HasPlace run (Constant c) = c < length run.jobs

-- each constant that a job's call has is one of the run's
abbrev pub HasPlaces : Given → Job → Type 0
HasPlaces given job = (call : Bootstrap) → job.call ≡ Ok call → HavePlaces (run_of given) call.arguments.parts

-- ---- what a pass over the constants has learnt

-- what a run is given, where of the constants is recorded what a pass has learnt of them
abbrev pub given_in : PassView → Given → Given
given_in asked given = under (found_in asked.known) given

-- the call of a job's bootstrap method, where constants are what a pass has learnt of them
abbrev pub call_in : PassView → Job → OrThrown BootstrapCall
call_in asked job = call_under (found_in asked.known) job.call

-- the constants that a job's call looks at were gone through, and what was found of each is known
pub record AsksConstants (given : Given) (job : Job) (old new : PassView) (findings : List FindingView) : Type 0 where
  pub goes : GoesBeside (run_of given) (asked_at (found_in new.known) job) (trail_of old) (trail_of new)
  pub constants : constants_of findings ≡ asked_at (found_in new.known) job
  pub knows : All (Knows new.known) findings

-- so it was
abbrev pub HaveGoneFirst : Given → Job → PassView → PassView → Type 0
HaveGoneFirst given job old new = (findings : List FindingView) × AsksConstants given job old new findings

-- so it was before the script ran, however that ended; where memory ran out before, no type was asked for
abbrev pub AsksFirst : {A : Type 0} → Given → Job → PassView → PassView → SeatView → SeatView → Result A WorkError → Type 0
AsksFirst given job old new before after (Err work.NoMemory) = HaveGoneFirst given job old new ⊎ AsksNoOther [] before after
AsksFirst given job old new before after (Err (work.FormsFull drawn)) = HaveGoneFirst given job old new
AsksFirst given job old new before after (Err (work.TypesFull bucket)) = HaveGoneFirst given job old new
AsksFirst given job old new before after (Ok a) = HaveGoneFirst given job old new
