-- How the calls of a run change its work, by the recipes and types that its attempts and its calls ask for.
-- The relations are steps: each takes what was asked for before some calls, and gives what was asked for after them.
-- `resolve`, `call` and `run_thread` promise steps. Each of them puts together the steps of the functions that it calls.
-- The conditions of a step are what the step before it gave, so two steps make one step.
-- The conditions of the first step are met where a pass is split off a base, for a lane or a worker.
-- That pass has made no attempt, has drawn no number and has asked for no type. It has asked for the forms that the base had asked for.
use Rattle.std.specs.Prelude.{◌≡◌, ℕ, ◌*◌, List, ◌++◌, length, Result, Ok, Err}
use Rattle.std.specs.List.{flat_map}
use Rattle.mh_values.specs.declared.types.MethodTy.{MethodTy}
use Rattle.mh_edit.specs.declared.key.Key.{Key}
use Rattle.mh_intern.specs.Held.{times_type}
use Rattle.mh_intern.specs.Views.{SeatView}
use Rattle.mh_handle.specs.Passes.{PassView}
use Rattle.mh_jobs.specs.Given.{Given}
use Rattle.mh_attempt.specs.declared.error.WorkError.{WorkError}
use Rattle.mh_attempt.specs.declared.error.WorkError.TheVariants.{NoMemory, FormsFull, TypesFull}
use Rattle.mh_attempt.specs.Asked.{DrawsWithin, HasAsked, HasDrawn, IsOver, attempt_draws}
use Rattle.mh_attempt.specs.AskedTypes.{HasNoSlot}
use Rattle.mh_plan.specs.declared.call.Call.{Call}
use Rattle.mh_plan.specs.Limits.{calls_in}
use Rattle.mh_report.specs.declared.attempt.Attempt.{Attempt}
use Rattle.mh_report.specs.Forms.{attempt_edits}
use Rattle.mh_report.specs.Types.{attempt_types}

-- ---- how many numbers are drawn

-- how many numbers a call may draw: those of an attempt, because it may be the first call of its site
abbrev pub call_draws : ℕ
call_draws = attempt_draws

-- how many numbers the calls of a thread may draw
abbrev pub thread_draws : List Call → ℕ
thread_draws calls = call_draws * length calls

-- how many numbers the calls of all threads may draw
abbrev pub plan_draws : List (List Call) → ℕ
plan_draws threads = call_draws * calls_in threads

-- ---- which forms are asked for

-- the recipes that attempts make, and those of calls
abbrev pub run_edits : Given → List Attempt → List (List Key) → List (List Key)
run_edits given attempts edits = flat_map (attempt_edits given) attempts ++ edits

-- A step of calls that make the recipes `more`. The pass has the attempts `before` when the step begins, and the attempts `after` when it ends.
-- In `asked`, the recipes `edits` are those of all calls before the step, and those that the base had asked for. The step holds whatever they are.
-- The condition of `asked` is that the pass had asked for the recipes of the attempts before and for `edits`. It has then asked for `more` as well.
-- The condition of `within` is that at most as many numbers were drawn as forms were asked for. That stays so, and no room is lost.
-- The steps before this one meet both conditions (`runs-both` of `proofs/asking/RunSteps`).
-- For the first step, the split pass meets them (`asked-split` and `within-split` of `proofs/lanes/LaneEnds`).
pub record HasRunOn (given : Given) (before after : List Attempt) (more : List (List Key)) (old new : PassView) : Type 0 where
  pub asked : (edits : List (List Key)) → HasAsked (run_edits given before edits) old → HasAsked (run_edits given after (edits ++ more)) new
  pub within : (whole : ℕ) → DrawsWithin whole old → DrawsWithin whole new

-- A step that stopped. At most one number was drawn for each recipe of the attempts after it, of `edits` and of `more`.
-- Its conditions are those of `HasRunOn`. The steps before it meet them in the same way (`out-second` of `proofs/asking/RunSteps`).
abbrev pub HasRunOut : Given → List Attempt → List Attempt → List (List Key) → PassView → PassView → Type 0
HasRunOut given before after more old new =
    (whole : ℕ) → DrawsWithin whole old → (edits : List (List Key)) → HasAsked (run_edits given before edits) old
    → HasDrawn whole (run_edits given after (edits ++ more)) new

-- What is known of a step by the error that stopped it. For lack of forms, a number was drawn that is too great for a form.
-- For lack of memory, nothing is known.
abbrev pub RunStops : Given → List Attempt → List Attempt → List (List Key) → PassView → PassView → WorkError → Type 0
RunStops given before after more old new (FormsFull drawn) = HasRunOut given before after more old new × IsOver drawn new
RunStops given before after more old new (TypesFull bucket) = HasRunOut given before after more old new
RunStops given before after more old new NoMemory = Unit {0}

-- A step that came to its end or stopped. `resolve`, `call` and `run_thread` promise it of the pass over the forms (`runs` of `Linkers`).
-- For all calls of a thread its conditions are met, and what it gives then is `EndsBy` of `Lanes` (`ends-by` of `proofs/lanes/LaneEnds`).
abbrev pub RunsOn : {A : Type 0} → Given → List Attempt → List Attempt → List (List Key) → PassView → PassView → Result A WorkError → Type 0
RunsOn given before after more old new (Ok a) = HasRunOn given before after more old new
RunsOn given before after more old new (Err e) = RunStops given before after more old new e

-- P holds if no number was left for a form; any other result says nothing
abbrev pub IfFull : {A : Type 0} → Result A WorkError → Type 0 → Type 0
IfFull (Err (FormsFull drawn)) P = P
IfFull (Err (TypesFull bucket)) P = Unit {0}
IfFull (Err NoMemory) P = Unit {0}
IfFull (Ok a) P = Unit {0}

-- ---- which types are asked for

-- the types of the nodes that attempts make, and those of calls
abbrev pub run_types : Given → List Attempt → List MethodTy → List MethodTy
run_types given attempts types = flat_map (attempt_types given) attempts ++ types

-- the seat was asked for no types but these: it was never asked for a type that is not among them
abbrev pub WasAsked : List MethodTy → SeatView → Type 0
WasAsked types seat = (t : MethodTy) → times_type t types ≡ 0 → times_type t seat.asked ≡ 0

-- A step of calls that ask for the types `more`. The types `types` are those of all calls before the step, and it holds whatever they are.
-- Its condition is that the seat was asked for no types but those of the attempts before and `types`.
-- The seat was then asked for no types but those of the attempts after, `types` and `more`.
-- The steps before this one meet the condition (`on-both` of `proofs/asking/SeatAsked`). For the first step, the seat of a split pass was asked for no type.
abbrev pub HasAskedOn : Given → List Attempt → List Attempt → List MethodTy → SeatView → SeatView → Type 0
HasAskedOn given before after more old new =
    (types : List MethodTy) → WasAsked (run_types given before types) old → WasAsked (run_types given after (types ++ more)) new

-- A step of a seat that came to its end or stopped. If no slot was left, some type that the seat was asked for has none.
-- `resolve`, `call` and `run_thread` promise it (`asked` of `Linkers`). For all calls of a thread it gives `types_asked` of `HasRun` in `Lanes`.
abbrev pub RunsOnTypes : {A : Type 0} → Given → List Attempt → List Attempt → List MethodTy → SeatView → SeatView → Result A WorkError → Type 0
RunsOnTypes given before after more old new (Ok a) = HasAskedOn given before after more old new
RunsOnTypes given before after more old new (Err (TypesFull bucket)) = HasAskedOn given before after more old new × HasNoSlot bucket new
RunsOnTypes given before after more old new (Err (FormsFull drawn)) = HasAskedOn given before after more old new
RunsOnTypes given before after more old new (Err NoMemory) = HasAskedOn given before after more old new

-- ---- want of room

-- what is known of calls that have stopped for want of a number or of a slot: the last number drawn is no form's, or a type that the seat was asked for has no
-- slot
abbrev pub LacksRoom : {A : Type 0} → PassView → SeatView → Result A WorkError → Type 0
LacksRoom forms types (Ok a) = Unit {0}
LacksRoom forms types (Err (FormsFull drawn)) = IsOver drawn forms
LacksRoom forms types (Err (TypesFull bucket)) = HasNoSlot bucket types
LacksRoom forms types (Err NoMemory) = Unit {0}

-- P holds of the bucket in which no slot was left for a type; any other result says nothing
abbrev pub IfTypesFull : {A : Type 0} → Result A WorkError → (ℕ → Type 0) → Type 0
IfTypesFull (Err (TypesFull bucket)) P = P bucket
IfTypesFull (Err (FormsFull drawn)) P = Unit {0}
IfTypesFull (Err NoMemory) P = Unit {0}
IfTypesFull (Ok a) P = Unit {0}
