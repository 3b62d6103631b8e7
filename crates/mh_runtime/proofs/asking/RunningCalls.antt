-- What a call that attempts nothing leaves of a thread's pass over the forms.
use Rattle.std.proofs.Common.{subst, List, Result, Ok, Err, append_assoc}
use Rattle.std.specs.List.{flat_map}
use Rattle.mh_edit.specs.declared.key.Key.{Key}
use Rattle.mh_attempt.specs.declared.error.WorkError.{WorkError}
use Rattle.mh_attempt.specs.declared.error.WorkError.TheVariants.{NoMemory, FormsFull, TypesFull}
use Rattle.mh_handle.specs.declared.work.Work.{Work}
use Rattle.mh_handle.specs.Passes.{PassView}
use Rattle.mh_jobs.specs.Given.{Given}
use Rattle.mh_attempt.specs.Asked.{Asks, HasAsked, HasAskedMore, HasDrawn, HasStoppedAt}
use Rattle.mh_report.specs.declared.attempt.Attempt.{Attempt}
use Rattle.mh_report.specs.Forms.{attempt_edits}
use Rattle.mh_runtime.specs.Asking.{HasRunOn, HasRunOut, RunsOn, run_edits}

module _ (given : Given) where
  pub runs-call : (attempts : List Attempt) (more : List (List Key)) (old new : PassView) → HasAskedMore more old new →
      HasRunOn given attempts attempts more old new
  runs-call attempts more old new asks = record {
    asked = λ edits has. subst (λ rs. HasAsked rs new) (append_assoc (flat_map (attempt_edits given) attempts) edits more)
        (asks.asked (run_edits given attempts edits) has);
    within = asks.within;
  }

  pub out-call : (attempts : List Attempt) (more : List (List Key)) (old new : PassView) → HasStoppedAt more old new →
      HasRunOut given attempts attempts more old new
  out-call attempts more old new stopped whole within edits has =
      subst (λ rs. HasDrawn whole rs new) (append_assoc (flat_map (attempt_edits given) attempts) edits more)
      (stopped whole within (run_edits given attempts edits) has)

  pub call-runs : {A : Type 0} (attempts : List Attempt) (more : List (List Key)) (old new : Work) (r : Result A WorkError) → Asks more old new r →
      RunsOn given attempts attempts more old.pass.now new.pass.now r
  call-runs attempts more old new (Ok a) asks = runs-call attempts more old.pass.now new.pass.now asks
  call-runs attempts more old new (Err NoMemory) asks = tt
  call-runs attempts more old new (Err (FormsFull drawn)) asks = (out-call attempts more old.pass.now new.pass.now asks.0, asks.1)
  call-runs attempts more old new (Err (TypesFull bucket)) stopped = out-call attempts more old.pass.now new.pass.now stopped
