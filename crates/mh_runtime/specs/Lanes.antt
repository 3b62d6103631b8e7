-- What a lane of a run has: the passes of one thread, its calls, and what they gave. Its pass is split off another one, the base.
use Rattle.std.specs.Prelude.{◌≡◌, ◌≢◌, ℕ, ◌+◌, ◌≤◌, List, ◌++◌, length, All, Option, None, Some}
use Rattle.std.specs.List.{flat_map}
use Rattle.mh_edit.specs.declared.key.Key.{Key}
use Rattle.mh_handle.specs.declared.answer.Answer.{Answer}
use Rattle.mh_handle.specs.Joins as forms
use Rattle.mh_handle.specs.Passes.{PassView}
use Rattle.mh_intern.specs.Views as types_seat
use Rattle.mh_jobs.specs.Given.{Given}
use Rattle.mh_attempt.specs.declared.error.WorkError.{WorkError}
use Rattle.mh_attempt.specs.declared.error.WorkError.TheVariants.{NoMemory, FormsFull, TypesFull}
use Rattle.mh_attempt.specs.Asked.{HasAsked, HasDrawn}
use Rattle.mh_report.specs.declared.attempt.Attempt.{Attempt}
use Rattle.mh_plan.specs.declared.call.Call.{Call}
use Rattle.mh_report.specs.Forms.{thread_edits}
use Rattle.mh_plan.specs.Plan.{most_calls}
use Rattle.mh_plan.specs.Naming.{sites_named}
use Rattle.mh_report.specs.Types.{thread_types}
use Rattle.mh_plan.specs.Calls.{IsCallOf}
use Rattle.mh_report.specs.Results.{Serials, serial_at, thread_keys_said, thread_results, thread_said}
use Rattle.mh_runtime.specs.declared.lane.Lane.{Lane}
use Rattle.mh_runtime.specs.declared.pass.Pass.{Pass}
use Rattle.mh_runtime.specs.declared.stops.ThreadRun.{ThreadRun}
use Rattle.mh_runtime.specs.Asking.{LacksRoom, WasAsked, run_edits, run_types}
use Rattle.mh_cells.specs.Values.{Keeps}
use Rattle.mh_condy.specs.Resolving.{GoesOnResolving}
use Rattle.mh_runtime.specs.Attempts.{AsksMore, DrawsOnce, IsThreadRun, ResolvesForAttempts}
use Rattle.mh_runtime.specs.Joined.{IsDoneBy, ThreadPasses}
use Rattle.mh_runtime.specs.Keys.{thread_keys}
use Rattle.mh_runtime.specs.Linking.{HoldsJust}
use Rattle.mh_runtime.specs.Passes.{HasSerials, LinkPass, split_pass, split_room}
use Rattle.mh_runtime.specs.Stops.{end_in, ending}
use Rattle.mh_runtime.specs.Values.{At}

-- the passes of a lane
abbrev pub passes_of : {J : Type 0} → Lane J → ThreadPasses
passes_of lane = record { links = lane.pass.links; forms = lane.pass.forms }

-- a lane that may be run, whose pass is split off the base
pub record IsReadyLane {J : Type 0} (given : Given) (base : Pass J) (lane : Lane J) : Type 0 where
  pub links : lane.pass.links ≡ split_pass lane.pass.links.thread base.links
  pub forms_are : lane.pass.forms ≡ forms.split_pass base.forms
  pub types_are : lane.pass.types ≡ types_seat.new_seat base.types.table split_room
  pub calls : All (IsCallOf given.leaves given.jobs) lane.calls.now
  pub few : length lane.calls.now ≤ most_calls
  pub few_constants : length base.links.constants.known ≤ split_room

-- what calls gave: the results and the keys under each table that has the serials of what the thread has linked
pub record HasAnswered (given : Given) (calls : List Call) (links : LinkPass) (answers : List Answer) : Type 0 where
  pub results : (table : Serials) → HasSerials links.linked table → thread_said answers ≡ thread_results given table calls
  pub keys : (table : Serials) → HasSerials links.linked table → thread_keys_said answers ≡ thread_keys given table calls

-- whichever forms the base has asked for, the thread has drawn at most one number for each of them, and for each that its calls and its attempts need
abbrev pub DrawsFew : Given → PassView → List Call → ThreadPasses → Type 0
DrawsFew given base calls passes =
    (before : List (List Key)) → HasAsked before base
    → HasDrawn split_room (run_edits given passes.links.attempts (before ++ thread_edits given.leaves calls)) passes.forms

-- the thread has asked for the forms that its calls and its attempts need, in addition to those that the base has asked for
abbrev pub AsksForms : Given → PassView → List Call → ThreadPasses → Type 0
AsksForms given base calls passes =
    (before : List (List Key)) → HasAsked before base
    → HasAsked (run_edits given passes.links.attempts (before ++ thread_edits given.leaves calls)) passes.forms

-- what is known of the passes by how the calls ended, where constants have values that they have seen: for want of memory nothing
abbrev pub EndsBy : Given → PassView → List Call → ThreadPasses → List Answer → Option WorkError → Type 0
EndsBy given base calls passes answers None =
    DrawsFew given base calls passes × AsksForms given base calls passes × HasAnswered given calls passes.links answers
EndsBy given base calls passes answers (Some (FormsFull drawn)) = DrawsFew given base calls passes
EndsBy given base calls passes answers (Some (TypesFull bucket)) = DrawsFew given base calls passes
EndsBy given base calls passes answers (Some NoMemory) = Unit {0}

-- the same of a lane, which has run
abbrev pub EndsAs : Given → PassView → List Call → ThreadPasses → Option ThreadRun → Type 0
EndsAs given base calls passes None = Unit {0}
EndsAs given base calls passes (Some run) = EndsBy given base calls passes run.answers run.stop

-- where the calls were made to their end, each site that they name is linked, and the constants that the attempts' calls look at were gone through
abbrev pub EndsDone : Given → LinkPass → List Call → ThreadPasses → Option WorkError → Type 0
EndsDone given base calls passes None = IsDoneBy calls passes × AsksMore given base passes.links
EndsDone given base calls passes (Some stop) = Unit {0}

-- these attempts are of sites whose linkage the base has not learnt
abbrev pub AreUnlearnt : LinkPass → List Attempt → Type 0
AreUnlearnt base attempts = All (λ a. serial_at base.linked a.site ≡ None) attempts

-- a pass has resolved constants since it was split off the base, each with a serial that was drawn for it, and none twice
pub record HasResolved (base links : LinkPass) : Type 0 where
  pub goes : GoesOnResolving (split_pass links.thread base).constants links.constants
  pub drawn : DrawsOnce (split_pass links.thread base) links
  pub quiet : ResolvesForAttempts (split_pass links.thread base) links

-- A lane whose pass was split off the base and that has run the calls of a thread. It knows the sites that the base knows, and has attempted none of them.
pub record HasRun {J : Type 0} (given : Given) (base : Pass J) (thread : ℕ) (calls : List Call) (lane : Lane J) : Type 0 where
  pub linker_is : lane.pass.links.linker ≡ base.links.linker
  pub table_is : lane.pass.forms.table ≡ base.forms.table
  pub types_is : lane.pass.types.table ≡ base.types.table
  pub thread_is : lane.pass.links.thread ≡ thread
  pub learnt : HasSerials base.links.linked lane.pass.links.linked
  pub unlearnt : AreUnlearnt base.links lane.pass.links.attempts
  pub run : IsThreadRun (flat_map sites_named calls) lane.pass.links
  pub whole : lane.pass.links.seat.room + length lane.pass.links.seat.numbers ≡ split_room
  pub types_whole : lane.pass.types.room + length lane.pass.types.holds ≡ split_room
  pub types_held : At given lane.pass (λ g. HoldsJust g lane.pass.links.recorded lane.pass.types)
  pub types_asked : At given lane.pass (λ g. WasAsked (run_types g lane.pass.links.attempts (thread_types given.leaves calls)) lane.pass.types)
  pub lacks : LacksRoom lane.pass.forms lane.pass.types (ending (end_in lane.ran))
  pub has_ended : lane.ran ≢ None
  pub linkages : Keeps base.links.linkages lane.pass.links.linkages
  pub resolved : HasResolved base.links lane.pass.links
  pub done : EndsDone given (split_pass thread base.links) calls (passes_of lane) (end_in lane.ran)
  pub ends : At given lane.pass (λ g. EndsAs g base.forms calls (passes_of lane) lane.ran)
