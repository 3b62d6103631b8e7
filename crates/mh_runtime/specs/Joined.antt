-- What is known of the passes of all threads of a run, and of the passes that they are joined to.
-- These relations are conditions of the lemmas on a run's ledger, forms and numbers (`proofs/ledger/Ledger`, `Counted`, `Needed`).
-- No caller of `run_all` has to meet them. Those of one thread follow from what `run_thread` promises (`has-run` of `proofs/lanes/LaneEnds`).
-- Those of all threads hold before any lane is joined. Each lane that is joined keeps them (`joined-push` of `proofs/lanes/JoiningSteps`).
-- Those of joined passes follow once all lanes are joined to a base with which nothing was done (`joined-all` of `proofs/lanes/WholeJoin`).
use Rattle.std.specs.Prelude.{◌≡◌, ℕ, List, ◌++◌, length, map, Some, slice_get}
use Rattle.std.specs.List.{All, flat_map, range_with_len}
use Rattle.std.specs.List.Sorted.{IsPermutation}
use Rattle.mh_edit.specs.declared.key.Key.{Key}
use Rattle.mh_handle.specs.Passes.{PassView}
use Rattle.mh_tickets.specs.Draws.{EachOnce}
use Rattle.mh_jobs.specs.Given.{Given}
use Rattle.mh_attempt.specs.Asked.{HasDrawn}
use Rattle.mh_report.specs.declared.attempt.Attempt.{Attempt}
use Rattle.mh_plan.specs.declared.call.Call.{Call}
use Rattle.mh_report.specs.Forms.{attempt_edits, plan_edits, thread_edits}
use Rattle.mh_plan.specs.Naming.{sites_named}
use Rattle.mh_runtime.specs.declared.pass.Pass.{Pass}
use Rattle.mh_runtime.specs.Asking.{run_edits}
use Rattle.mh_runtime.specs.Attempts.{AreLinked, IsThreadRun}
use Rattle.mh_runtime.specs.Passes.{HasSerials, LinkPass}

-- what a thread has left after its calls: its pass over the call sites, and its pass over the forms
pub record ThreadPasses : Type 0 where
  pub links : LinkPass
  pub forms : PassView

-- those of a pass
abbrev pub passes_in : {J : Type 0} → Pass J → ThreadPasses
passes_in pass = record { links = pass.links; forms = pass.forms }

-- This thread has made these calls: its attempts are of the sites that they name. It follows from `HasRun` of `Lanes`.
pub record IsUsedBy (given : Given) (thread : ℕ) (calls : List Call) (passes : ThreadPasses) : Type 0 where
  pub thread_is : passes.links.thread ≡ thread
  pub run : IsThreadRun (flat_map sites_named calls) passes.links

-- The thread has drawn at most one number for each recipe of its attempts, of its calls, and of those `before`.
-- The recipes before are those that the base had asked for. It follows from `HasRun`, unless memory ran out (`DrawsFew` of `Lanes`).
abbrev pub HasDrawnFew : Given → List (List Key) → List Call → ThreadPasses → Type 0
HasDrawnFew given before calls passes =
    (whole : ℕ) × HasDrawn whole (run_edits given passes.links.attempts (before ++ thread_edits given.leaves calls)) passes.forms

-- The thread has made its calls to their end: each site that they name is linked. It follows from `HasRun`, if nothing stopped the thread.
abbrev pub IsDoneBy : List Call → ThreadPasses → Type 0
IsDoneBy calls passes = AreLinked passes.links.linked (flat_map sites_named calls)

-- each of these threads has used passes of its own, as `IsUsedBy` says
pub record AreUsed (given : Given) (threads : List (List Call)) (all : List ThreadPasses) : Type 0 where
  pub count : length all ≡ length threads
  pub each : (thread : ℕ) (calls : List Call) (passes : ThreadPasses) → slice_get threads thread ≡ Some calls → slice_get all thread ≡ Some passes
      → IsUsedBy given thread calls passes

-- Each of these threads has made its calls to their end. It is kept as long as no lane that was joined has stopped (`EndsSoFar` of `Joining`).
abbrev pub AreDone : List (List Call) → List ThreadPasses → Type 0
AreDone threads all = (thread : ℕ) (calls : List Call) (passes : ThreadPasses) → slice_get threads thread ≡ Some calls
    → slice_get all thread ≡ Some passes → IsDoneBy calls passes

-- Each of these threads has drawn few numbers, as `HasDrawnFew` says.
-- It is kept if no lane has stopped, or if lack of forms is reported: no lane lacked memory then (`KnowsDraws` of `Joining`).
abbrev pub HaveDrawnFew : Given → List (List Key) → List (List Call) → List ThreadPasses → Type 0
HaveDrawnFew given before threads all = (thread : ℕ) (calls : List Call) (passes : ThreadPasses) → slice_get threads thread ≡ Some calls
    → slice_get all thread ≡ Some passes → HasDrawnFew given before calls passes

-- Passes over the call sites are joined to one: it has all their attempts, the serials that they drew, and what each has linked.
-- No serial was drawn twice, because all seats were split off one seat that had all the room.
pub record AreJoined (all : List ThreadPasses) (joined : LinkPass) : Type 0 where
  pub attempts : joined.attempts ≡ flat_map (λ p. p.links.attempts) all
  pub numbers : joined.seat.numbers ≡ flat_map (λ p. p.links.seat.numbers) all
  pub linked : All (λ p. HasSerials p.links.linked joined.linked) all
  pub each_once : EachOnce joined.seat.numbers

-- Passes over the forms are joined to one: it has the numbers that they drew. No number was drawn twice, for the same reason.
pub record AreFormsJoined (all : List ThreadPasses) (joined : PassView) : Type 0 where
  pub numbers : joined.seat.numbers ≡ flat_map (λ p. p.forms.seat.numbers) all
  pub each_once : EachOnce joined.seat.numbers

-- the recipes of the forms that a run has asked for: those of all attempts, thread by thread, and then those of all calls
abbrev pub edits_of : Given → List (List Call) → List ThreadPasses → List (List Key)
edits_of given threads all = flat_map (λ p. flat_map (attempt_edits given) p.links.attempts) all ++ plan_edits given.leaves threads

-- These are the attempts in the order of their serials, which are 1, 2, 3, and so on.
-- It follows because no serial was drawn twice, and because the joined attempts were sorted by serial (`in-order` of `proofs/ledger/Serials`).
pub record AreInOrder (attempts ordered : List Attempt) : Type 0 where
  pub same : IsPermutation attempts ordered
  pub serials : map (λ a. a.serial) ordered ≡ range_with_len 1 (length ordered)
