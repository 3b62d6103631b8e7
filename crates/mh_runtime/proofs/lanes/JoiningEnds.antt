-- How a run ends so far, once the passes of one lane more are joined.
use Rattle.std.proofs.Common.{◌≡◌, ◌≢◌, refl, sym, ◌∙◌, ap, ap₂, subst, ℕ, List, [], ◌∷◌, ◌++◌, length, map, Option, None, Some, Err}
use Rattle.std.specs.Prelude.{Contains}
use Rattle.std.specs.List.{flat_map}
use Rattle.std.proofs.lemmas.List.{map_push}
use Rattle.std.proofs.lemmas.List.Elements.{All-push, Contains-append_left, Contains-append_right}
use Rattle.mh_handle.specs.declared.answer.Answer.{Answer}
use Rattle.mh_handle.specs.Seats as forms
use Rattle.mh_jobs.specs.Given.{Given}
use Rattle.mh_attempt.specs.declared.error.WorkError.{WorkError}
use Rattle.mh_attempt.specs.declared.error.WorkError.TheVariants.{NoMemory, FormsFull, TypesFull}
use Rattle.mh_attempt.specs.Asked.{HasAsked, IsOver}
use Rattle.mh_plan.specs.declared.call.Call.{Call}
use Rattle.mh_report.specs.Forms.{attempt_edits, thread_edits}
use Rattle.mh_report.specs.Results.{keys_said, results_of, results_said, thread_keys_said, thread_results, thread_said}
use Rattle.mh_runtime.specs.declared.joining.Joined.{Joined}
use Rattle.mh_runtime.specs.declared.lane.Lane.{Lane}
use Rattle.mh_runtime.specs.declared.pass.Pass.{Pass}
use Rattle.mh_runtime.specs.declared.stops.Stop.{Stop}
use Rattle.mh_runtime.specs.declared.stops.ThreadRun.{ThreadRun}
use Rattle.mh_runtime.specs.Asking.{LacksRoom}
use Rattle.mh_runtime.specs.Attempts.{AsksMore}
use Rattle.mh_runtime.specs.Joined.{AreDone, ThreadPasses}
use Rattle.mh_runtime.specs.Joining.{EndsAnyhow, EndsSoFar, HaveAsked, JoinsLane, StopsFor, calls_of, lanes_edits}
use Rattle.mh_runtime.specs.Keys.{plan_keys, thread_keys}
use Rattle.mh_runtime.specs.Lanes.{AsksForms, DrawsFew, EndsAs, EndsBy, EndsDone, HasAnswered, passes_of}
use Rattle.mh_runtime.specs.Passes.{split_pass}
use Rattle.mh_runtime.specs.Stops.{ending, stop_after, stop_at}
use Rattle.mh_runtime.proofs.lanes.JoinedForms.{asked-joined, asked-once}
use Rattle.mh_runtime.proofs.lanes.JoinedTypes.{no-slot-mine, no-slot-theirs}
use Rattle.mh_runtime.proofs.lanes.LaneLists.{edits-push}
use Rattle.mh_runtime.proofs.lanes.MoreThreads.{done-push}
use Rattle.mh_runtime.proofs.sites.ThreadSteps.{serials-both}
use Rattle.mh_runtime.proofs.reports.ReportedStops.{IfMemory, reported-either}

module _ {J : Type 0} (given : Given) (base : Pass J) (count : ℕ) (lanes : List (Lane J)) (lane : Lane J) (old new : Joined J) where
  abbrev calls : List Call
  calls = lane.calls.now

  over-old : (drawn : ℕ) → JoinsLane old lane new → IsOver drawn old.pass.forms → IsOver drawn new.pass.forms
  over-old drawn adds over = (
    over.0,
    subst (λ s. Contains s drawn) (sym (ap (λ (s : forms.SeatView). s.numbers) adds.pass.forms_seat_is))
        (Contains-append_left old.pass.forms.seat.numbers lane.pass.forms.seat.numbers drawn over.1),
  )

  over-lane : (drawn : ℕ) → JoinsLane old lane new → IsOver drawn lane.pass.forms → IsOver drawn new.pass.forms
  over-lane drawn adds over = (
    over.0,
    subst (λ s. Contains s drawn) (sym (ap (λ (s : forms.SeatView). s.numbers) adds.pass.forms_seat_is))
        (Contains-append_right old.pass.forms.seat.numbers lane.pass.forms.seat.numbers drawn over.1),
  )

  -- what a lane whose calls were made to their end adds
  ends-done : (answers : List Answer) → JoinsLane old lane new → new.threads ≡ old.threads ++ answers ∷ [] → EndsSoFar given base.forms lanes old None →
      AsksForms given base.forms calls (passes_of lane) → HasAnswered given calls lane.pass.links answers →
      EndsSoFar given base.forms (lanes ++ lane ∷ []) new None
  ends-done answers adds pushed before asks answered = (
    λ asked has. subst (λ rs. HasAsked (asked ++ rs) new.pass.forms) (sym (edits-push given lanes lane))
        (asked-once asked (lanes_edits given lanes) (flat_map (attempt_edits given) lane.pass.links.attempts) (thread_edits given.leaves calls) new.pass.forms
        (asked-joined _ _ old.pass.forms lane.pass.forms new.pass.forms (before.0 asked has) (asks asked has) adds.pass.forms)),
    λ table has. ap results_said pushed
        ∙ (map_push thread_said old.threads answers
        ∙ (ap₂ (λ rs r. rs ++ r ∷ []) (before.1 table (serials-both _ _ _ adds.pass.links.mine has))
        (answered.results table (serials-both _ _ _ adds.pass.links.theirs has))
        ∙ sym (ap (results_of given table) (map_push (λ (l : Lane J). l.calls.now) lanes lane)
        ∙ map_push (thread_results given table) (calls_of lanes) calls))),
    λ table has. ap keys_said pushed
        ∙ (map_push thread_keys_said old.threads answers
        ∙ (ap₂ (λ rs r. rs ++ r ∷ []) (before.2 table (serials-both _ _ _ adds.pass.links.mine has))
        (answered.keys table (serials-both _ _ _ adds.pass.links.theirs has))
        ∙ sym (ap (plan_keys given table) (map_push (λ (l : Lane J). l.calls.now) lanes lane) ∙ map_push (thread_keys given table) (calls_of lanes) calls))),
  )

  -- a lane that has run has a run
  pub run-of : lane.ran ≢ None → (run : ThreadRun) × (lane.ran ≡ Some run)
  run-of ended = by lane.ran refl
    where
      by : (ran : Option ThreadRun) → lane.ran ≡ ran → (run : ThreadRun) × (lane.ran ≡ Some run)
      by None is = absurd (ended is)
      by (Some run) is = (run, is)

  -- unless a lane has ended for want of memory, it has drawn few numbers
  few-by : (answers : List Answer) (end : Option WorkError) → EndsBy given base.forms calls (passes_of lane) answers end →
      IfMemory end (DrawsFew given base.forms calls (passes_of lane))
  few-by answers None ends = ends.0
  few-by answers (Some (FormsFull drawn)) ends = ends
  few-by answers (Some (TypesFull bucket)) ends = ends
  few-by answers (Some NoMemory) ends = tt

  pub few-drawn : (run : ThreadRun) → EndsAs given base.forms calls (passes_of lane) (Some run) →
      IfMemory run.stop (DrawsFew given base.forms calls (passes_of lane))
  few-drawn run ends = few-by run.answers run.stop ends

  pub ends-push : (before : Option Stop) (thread : ℕ) (answers : List Answer) (end : Option WorkError) → new.threads ≡ old.threads ++ answers ∷ [] →
      JoinsLane old lane new → EndsBy given base.forms calls (passes_of lane) answers end → EndsSoFar given base.forms lanes old before →
      EndsSoFar given base.forms (lanes ++ lane ∷ []) new (stop_after before (stop_at thread end))
  ends-push None thread answers None pushed adds ends before = ends-done answers adds pushed before ends.1 ends.2
  ends-push None thread answers (Some e) pushed adds ends before = tt
  ends-push (Some low) thread answers None pushed adds ends before = tt
  ends-push (Some low) thread answers (Some f) pushed adds ends before = tt

  -- ---- whatever values constants have

  -- what is known of a lower lane's stop stays so
  still : JoinsLane old lane new → (e : WorkError) → StopsFor old e → StopsFor new e
  still adds (FormsFull drawn) before = over-old drawn adds before
  still adds (TypesFull bucket) before = (no-slot-mine old.pass.types lane.pass.types new.pass.types adds.pass.types bucket before.0, adds.pass.types_known)
  still adds NoMemory before = tt

  -- what is known of the lane's own
  own-stop : JoinsLane old lane new → (e : WorkError) → LacksRoom {A = Unit {0}} lane.pass.forms lane.pass.types (Err e) → StopsFor new e
  own-stop adds (FormsFull drawn) lacks = over-lane drawn adds lacks
  own-stop adds (TypesFull bucket) lacks =
      (no-slot-theirs old.pass.types lane.pass.types new.pass.types adds.pass.types bucket lacks, adds.pass.types_known)
  own-stop adds NoMemory lacks = tt

  pub anyhow-push : (before : Option Stop) (thread : ℕ) (end : Option WorkError) → length (calls_of lanes) ≡ length (map passes_of lanes) →
      JoinsLane old lane new → lane.pass.links.thread ≡ thread → EndsDone given (split_pass thread base.links) calls (passes_of lane) end →
      LacksRoom lane.pass.forms lane.pass.types (ending end) → EndsAnyhow given base lanes old before →
      EndsAnyhow given base (lanes ++ lane ∷ []) new (stop_after before (stop_at thread end))
  anyhow-push None thread None same adds own done lacks before = (
    subst (λ (ts : List (List Call)). AreDone ts (map passes_of (lanes ++ lane ∷ []))) (sym (map_push (λ (l : Lane J). l.calls.now) lanes lane))
        (subst (λ (ps : List ThreadPasses). AreDone (calls_of lanes ++ calls ∷ []) ps) (sym (map_push passes_of lanes lane))
        (done-push (calls_of lanes) (map passes_of lanes) calls (passes_of lane) (sym same) before.0 done.0)),
    All-push (HaveAsked given base) lanes lane before.1
        (subst (λ n. AsksMore given (split_pass n base.links) lane.pass.links) (sym own) done.1),
  )
  anyhow-push None thread (Some e) same adds own done lacks before = own-stop adds e lacks
  anyhow-push (Some low) thread None same adds own done lacks before = still adds low.error before
  anyhow-push (Some low) thread (Some f) same adds own done lacks before =
      reported-either (StopsFor new) low.error f low (record { thread = thread; error = f }) refl refl (still adds low.error before)
      (own-stop adds f lacks)
