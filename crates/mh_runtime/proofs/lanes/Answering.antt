-- The answers to the first calls of a thread, and where its calls end.
use Rattle.std.proofs.Common.{◌≡◌, refl, sym, ◌∙◌, ap, subst, ℕ, ◌<◌, ◌≤◌, List, length, take, Result, Ok, Err, arith}
use Rattle.std.specs.Prelude.{IsErrAnd, OnOk}
use Rattle.std.specs.List.{flat_map}
use Rattle.std.specs.Result.{result_err}
use Rattle.mh_handle.specs.declared.answer.Answer.{Answer}
use Rattle.mh_jobs.specs.Given.{Given}
use Rattle.mh_attempt.specs.declared.error.WorkError.{WorkError}
use Rattle.mh_plan.specs.declared.call.Call.{Call}
use Rattle.mh_plan.specs.Naming.{sites_named}
use Rattle.mh_report.specs.Results.{Serials, thread_keys_said, thread_results, thread_said}
use Rattle.mh_runtime.specs.Attempts.{AreLinked}
use Rattle.mh_runtime.specs.Keys.{thread_keys}
use Rattle.mh_runtime.specs.Lanes.{HasAnswered}
use Rattle.mh_runtime.specs.Passes.{HasSerials, LinkPass}
use Rattle.mh_runtime.specs.Stops.{EndAt, answered, ending}
use Rattle.mh_runtime.proofs.sites.ThreadSteps.{linked-on, serials-both}

-- the calls that were answered, where so many were made
same-answered : (items calls : List Call) (i : ℕ) (answers : List Answer) → items ≡ calls → length answers ≡ i → take i items ≡ answered answers calls
same-answered items calls i answers same count = ap (λ k. take k items) (sym count) ∙ ap (take (length answers)) same

module _ (items calls : List Call) (i : ℕ) (answers after : List Answer) (same : items ≡ calls) (count : length answers ≡ i) (still : after ≡ answers) where
  -- more is learnt after the last answer
  pub reported-answers : (given : Given) (mid new : LinkPass) → HasSerials mid.linked new.linked →
      ((table : Serials) → HasSerials mid.linked table → thread_said answers ≡ thread_results given table (take i items)) →
      ((table : Serials) → HasSerials mid.linked table → thread_keys_said answers ≡ thread_keys given table (take i items)) →
      HasAnswered given (answered after calls) new after
  reported-answers given mid new more results keys =
      let reported : HasAnswered given (take i items) new answers = record {
        results = λ table has. results table (serials-both mid.linked new.linked table more has);
        keys = λ table has. keys table (serials-both mid.linked new.linked table more has);
      } in
      subst (λ xs. HasAnswered given (answered xs calls) new xs) (sym still)
      (subst (λ cs. HasAnswered given cs new answers) (same-answered items calls i answers same count) reported)

  pub reported-linked : (mid new : LinkPass) → HasSerials mid.linked new.linked → AreLinked mid.linked (flat_map sites_named (take i items)) →
      AreLinked new.linked (flat_map sites_named (answered after calls))
  reported-linked mid new more linked =
      subst (λ xs. AreLinked new.linked (flat_map sites_named (answered xs calls))) (sym still)
      (subst (λ cs. AreLinked new.linked (flat_map sites_named cs)) (same-answered items calls i answers same count)
      (linked-on mid.linked new.linked (flat_map sites_named (take i items)) more linked))

  -- a call has stopped the thread
  pub end-early : {A : Type 0} (e : WorkError) (r : Result A WorkError) → IsErrAnd r (λ x. x ≡ e) → i < length items → EndAt calls after (result_err r)
  end-early e (Ok x) is within = absurd is
  end-early e (Err x) is within =
      let long : length items ≡ length calls = ap length same in
      let n : length after ≡ length answers = ap length still in
      omega (arith, within, count, long, n)

  -- no call has
  pub end-whole : length items ≤ i → i ≤ length items → length after ≡ length calls
  end-whole over within =
      let long : length items ≡ length calls = ap length same in
      let n : length after ≡ length answers = ap length still in
      omega (arith, over, within, count, long, n)

-- how calls ended is said whole by why they stopped
pub way-ended : (r : Result (Unit {0}) WorkError) → r ≡ ending (result_err r)
way-ended (Ok done) = refl
way-ended (Err e) = refl

-- calls that have stopped need not have what calls have that ended well
pub stopped-so : (r : Result (Unit {0}) WorkError) (e : WorkError) → IsErrAnd r (λ x. x ≡ e) → (P : Type 0) → OnOk (ending (result_err r)) P
stopped-so (Ok done) e is P = absurd is
stopped-so (Err x) e is P = tt
