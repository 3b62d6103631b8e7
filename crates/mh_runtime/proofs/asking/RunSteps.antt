-- What steps of a thread leave of its pass over the forms, one after the other.
use Rattle.std.proofs.Common.{◌≡◌, sym, subst, List, [], ◌++◌, append-nil, append_assoc, Result, Ok, Err}
use Rattle.std.specs.Prelude.{IsErrAnd}
use Rattle.mh_edit.specs.declared.key.Key.{Key}
use Rattle.mh_attempt.specs.declared.error.WorkError.{WorkError}
use Rattle.mh_attempt.specs.declared.error.WorkError.TheVariants.{NoMemory, FormsFull, TypesFull}
use Rattle.mh_handle.specs.Passes.{PassView}
use Rattle.mh_jobs.specs.Given.{Given}
use Rattle.mh_attempt.specs.Asked.{HasAsked}
use Rattle.mh_attempt.proofs.asked.RecipeCounts.{drawn-within}
use Rattle.mh_attempt.proofs.asked.RecipeSets.{AreAmong, each-among, among-first}
use Rattle.mh_report.specs.declared.attempt.Attempt.{Attempt}
use Rattle.mh_runtime.specs.Asking.{HasRunOn, HasRunOut, RunStops, RunsOn, run_edits}

module _ (given : Given) where
  -- no step
  pub runs-none : (attempts : List Attempt) (pass : PassView) → HasRunOn given attempts attempts [] pass pass
  runs-none attempts pass = record {
    asked = λ edits has. subst (λ rs. HasAsked (run_edits given attempts rs) pass) (sym (append-nil edits)) has;
    within = λ whole within. within;
  }

  module _ (first second : List (List Key)) (a b c : List Attempt) (old mid new : PassView) (x : HasRunOn given a b first old mid) where
    -- two steps
    pub runs-both : HasRunOn given b c second mid new → HasRunOn given a c (first ++ second) old new
    runs-both y = record {
      asked = λ edits has. subst (λ rs. HasAsked (run_edits given c rs) new) (append_assoc edits first second)
          (y.asked (edits ++ first) (x.asked edits has));
      within = λ whole within. y.within whole (x.within whole within);
    }

    -- the second step stopped, after which there could have been more calls
    pub out-second : (more : List (List Key)) → HasRunOut given b c second mid new → HasRunOut given a c ((first ++ second) ++ more) old new
    out-second more out = λ whole within edits has.
        drawn-within whole (run_edits given c ((edits ++ first) ++ second)) (run_edits given c (edits ++ ((first ++ second) ++ more))) new
        (subst (λ rs. AreAmong (run_edits given c ((edits ++ first) ++ second)) (run_edits given c rs)) (append_assoc edits (first ++ second) more)
        (subst (λ rs. AreAmong (run_edits given c ((edits ++ first) ++ second)) (run_edits given c (rs ++ more))) (append_assoc edits first second)
        (each-among _ ((edits ++ first) ++ second) _ (((edits ++ first) ++ second) ++ more) (λ q there. there)
        (among-first ((edits ++ first) ++ second) more))))
        (out whole (x.within whole within) (edits ++ first) (x.asked edits has))

    pub stops-second : (more : List (List Key)) (e : WorkError) → RunStops given b c second mid new e → RunStops given a c ((first ++ second) ++ more) old new e
    stops-second more NoMemory stopped = tt
    stops-second more (FormsFull drawn) stopped = (out-second more stopped.0, stopped.1)
    stops-second more (TypesFull bucket) stopped = out-second more stopped

  -- calls have stopped, after which there could have been more
  pub out-early : (some rest : List (List Key)) (a b : List Attempt) (old new : PassView) → HasRunOut given a b some old new →
      HasRunOut given a b (some ++ rest) old new
  out-early some rest a b old new out = λ whole within edits has.
      drawn-within whole (run_edits given b (edits ++ some)) (run_edits given b (edits ++ (some ++ rest))) new
      (subst (λ rs. AreAmong (run_edits given b (edits ++ some)) (run_edits given b rs)) (append_assoc edits some rest)
      (each-among _ (edits ++ some) _ ((edits ++ some) ++ rest) (λ q there. there) (among-first (edits ++ some) rest)))
      (out whole within edits has)

  -- an error that is handed on
  pub stops-run : {A : Type 0} (a b : List Attempt) (more : List (List Key)) (old new : PassView) (e : WorkError) (r : Result A WorkError) →
      IsErrAnd r (λ x. x ≡ e) → RunStops given a b more old new e → RunsOn given a b more old new r
  stops-run a b more old new e (Ok x) is stopped = absurd is
  stops-run a b more old new e (Err x) is stopped = subst (RunStops given a b more old new) (sym is) stopped

  -- the second step stopped, of steps that have more recipes in all, and its error is handed on
  pub stops-within : {A : Type 0} (all first second rest : List (List Key)) (a b c : List Attempt) (old mid new : PassView) (e : WorkError)
      (r : Result A WorkError) → (first ++ second) ++ rest ≡ all → IsErrAnd r (λ x. x ≡ e) → HasRunOn given a b first old mid →
      RunStops given b c second mid new e → RunsOn given a c all old new r
  stops-within all first second rest a b c old mid new e r is err x y =
      stops-run a c all old new e r err (subst (λ rs. RunStops given a c rs old new e) is (stops-second first second a b c old mid new x rest e y))
