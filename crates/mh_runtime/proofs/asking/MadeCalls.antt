-- How calls are made: of a leaf, which attempts nothing, and of a site once it is resolved.
use Rattle.std.proofs.Common.{◌≡◌, refl, sym, subst, ℕ, List, [], ◌∷◌, Some, Result, Ok, Err}
use denote.Ref.{Bor}
use Rattle.std.specs.Prelude.{IfOk, IsErrAnd, IsSome, OnOk, slice_get}
use Rattle.std.specs.Option.{option_map_or}
use Rattle.std.proofs.lemmas.List.Elements.{All-nil, All-push}
use Rattle.mh_values.specs.Computation.{Stuck}
use Rattle.mh_values.specs.declared.types.MethodTy.{MethodTy}
use Rattle.mh_values.specs.declared.value.Value.{Value}
use Rattle.mh_intern.specs.Views.{SeatView}
use Rattle.mh_handle.specs.declared.answer.Answer.{Answer}
use Rattle.mh_handle.specs.declared.work.Work.{Work}
use Rattle.mh_handle.specs.Answers.{IsAnswer}
use Rattle.mh_handle.specs.Works.{GoesOn}
use Rattle.mh_jobs.specs.Given.{Found, Given, under}
use Rattle.mh_link.specs.Named.{run_of}
use Rattle.mh_condy.specs.Passes.{IsPass}
use Rattle.mh_link.specs.Linked.{site_call}
use Rattle.mh_link.specs.Sites.{linked_at}
use Rattle.mh_attempt.specs.declared.error.WorkError.{WorkError}
use Rattle.mh_attempt.specs.declared.error.WorkError.TheVariants.{NoMemory, FormsFull, TypesFull}
use Rattle.mh_attempt.specs.Asked.{Asks}
use Rattle.mh_attempt.specs.AskedTypes.{AsksTypes}
use Rattle.mh_attempt.specs.Linkage.{HasFound, LinkageView, own_given, site_keys}
use Rattle.mh_plan.specs.declared.call.Call.{Call}
use Rattle.mh_plan.specs.declared.call.Call.TheVariants.{Indy}
use Rattle.mh_plan.specs.Naming.{sites_named}
use Rattle.mh_report.specs.declared.attempt.Attempt.{Attempt}
use Rattle.mh_report.specs.Forms.{call_edits}
use Rattle.mh_report.specs.Results.{Serials, result_of, serial_at}
use Rattle.mh_report.specs.Types.{call_types}
use Rattle.mh_runtime.specs.declared.pass.Pass.{Pass}
use Rattle.mh_runtime.specs.Asking.{RunsOnTypes, call_draws}
use Rattle.mh_runtime.specs.Attempts.{AreLinked, AsksMore, AttemptsMore}
use Rattle.mh_runtime.specs.Keys.{keys_of}
use Rattle.mh_runtime.specs.Linkers.{MakesCall, Resolves, pass_in}
use Rattle.mh_runtime.specs.Linking.{KeepsTypes}
use Rattle.mh_runtime.specs.Passes.{LinkPass}
use Rattle.mh_runtime.proofs.asking.AskedAnswers.{call-asks, memory-on}
use Rattle.mh_runtime.proofs.asking.RunSteps.{stops-run}
use Rattle.mh_runtime.proofs.asking.RunningCalls.{call-runs}
use Rattle.mh_runtime.proofs.types.SeatTypes.{keeps-recorded}
use Rattle.mh_runtime.proofs.sites.ThreadSteps.{attempts-none, links-none, unlearnt-same}
use Rattle.mh_runtime.proofs.constants.Agreeing.{linkage-same}
use Rattle.mh_runtime.proofs.constants.Asking.{drawn-none}
use Rattle.mh_runtime.proofs.asking.Lacking.{lacks-asks, lacks-handed, lacks-memory}
use Rattle.mh_runtime.proofs.sites.LinkSteps.{learns-none}
use Rattle.mh_runtime.proofs.sites.Resolving.{asks-none, if-err}
use Rattle.mh_runtime.proofs.asking.WorkPasses.{goes-calling}

-- a fact that holds whatever a call answered holds where it answered
pub on-ok : {A E : Type 0} (r : Result A E) (P : Type 0) → P → OnOk r P
on-ok (Ok x) P p = p
on-ok (Err e) P p = tt

-- where a call has no answer no fact is owed for one
on-none : {A E : Type 0} (r : Result A E) (Q : E → Type 0) (P : Type 0) → IsErrAnd r Q → OnOk r P
on-none (Ok x) Q P is = absurd is
on-none (Err e) Q P is = tt

-- ---- leaves

-- a call of a leaf, which names no site
pub leaf-made : {J : Type 0} (given : Given) (call : Call) (links : LinkPass) (old new : Work) (r : Result Answer WorkError) → sites_named call ≡ [] →
    IsPass (run_of given) links.constants → GoesOn call_draws old new → KeepsTypes old new →
    ((known : Found) (table : Serials) → IfOk r (IsAnswer (result_of (under known given) table call) (keys_of (under known given) table call))) →
    Asks (call_edits given.leaves call) old new r → AsksTypes (call_types given.leaves call) old new r →
    MakesCall {J = J} given call (pass_in links old) (pass_in links new) r
leaf-made given call links old new r none is_pass goes keeps answers asks asked = record {
  goes_on = goes-calling 1 links links old new (links-none links 1) goes;
  answer = λ known agrees table has. answers known table;
  linked = on-ok r (AreLinked links.linked (sites_named call))
      (subst (AreLinked links.linked) (sym none) (All-nil (λ site. IsSome (serial_at links.linked site))));
  attempts = subst (λ sites. AttemptsMore sites links links) (sym none) (attempts-none links);
  unlearnt = unlearnt-same links links refl;
  asks = on-ok r (AsksMore given links links) (asks-none given links links is_pass (learns-none links));
  drawn = drawn-none links;
  quiet = λ same. refl;
  lacks = lacks-asks (call_edits given.leaves call) (call_types given.leaves call) old new r asks asked;
  seat = record { table = keeps.table; whole = keeps.whole };
  types = λ known agrees. keeps-recorded (under known given) links.recorded old new keeps;
  runs = λ known agrees. call-runs (under known given) links.attempts (call_edits given.leaves call) old new r asks;
  asked = λ known agrees. call-asks (under known given) links.attempts (call_types given.leaves call) old new r asked;
}

-- ---- sites

-- an error is one of a call, whatever the call was to answer
error-asked : (A B : Type 0) (given : Given) (a b : List Attempt) (more : List MethodTy) (old new : SeatView) (e : WorkError) →
    RunsOnTypes {A = A} given a b more old new (Err e) → RunsOnTypes {A = B} given a b more old new (Err e)
error-asked A B given a b more old new NoMemory asked = asked
error-asked A B given a b more old new (FormsFull drawn) asked = asked
error-asked A B given a b more old new (TypesFull bucket) asked = asked

module _ {J : Type 0} (given : Given) (site : ℕ) (args : List Value) (old new : Pass J) where
  -- the site was not resolved, and its error is handed on
  pub site-refused : (e : WorkError) (r : Result Answer WorkError) → IsErrAnd r (λ x. x ≡ e) → Resolves given site old new (Err e) →
      MakesCall given (Indy site args) old new r
  site-refused e r is resolves = record {
    goes_on = resolves.goes_on;
    answer = λ known agrees table has. if-err r (λ x. x ≡ e) _ is;
    linked = on-none r (λ x. x ≡ e) (AreLinked new.links.linked (site ∷ [])) is;
    attempts = resolves.attempts;
    unlearnt = resolves.unlearnt;
    asks = on-none r (λ x. x ≡ e) (AsksMore given old.links new.links) is;
    drawn = resolves.drawn;
    quiet = resolves.quiet;
    seat = resolves.seat;
    lacks = lacks-handed (Bor LinkageView) new.forms new.types e r is resolves.lacks;
    types = resolves.types;
    runs = λ known agrees. stops-run (under known given) old.links.attempts new.links.attempts [] old.forms new.forms e r is (resolves.runs known agrees);
    asked = λ known agrees. handed (under known given) r is (resolves.asked known agrees);
  }
    where
      handed : (g : Given) (r : Result Answer WorkError) → IsErrAnd r (λ x. x ≡ e) →
          RunsOnTypes {A = Bor LinkageView} g old.links.attempts new.links.attempts [] old.types new.types (Err e) →
          RunsOnTypes g old.links.attempts new.links.attempts [] old.types new.types r
      handed g (Ok a) is asked = absurd is
      handed g (Err x) is asked =
          subst (λ error. RunsOnTypes {A = Answer} g old.links.attempts new.links.attempts [] old.types new.types (Err error)) (sym is)
          (error-asked (Bor LinkageView) Answer g old.links.attempts new.links.attempts [] old.types new.types e asked)

  module _ (l : Bor LinkageView) (resolves : Resolves given site old new (Ok l)) where
    -- there was no memory for the call of its linkage
    pub site-stopped : (r : Result Answer WorkError) → IsErrAnd r (λ x. x ≡ NoMemory) → MakesCall given (Indy site args) old new r
    site-stopped r is = record {
      goes_on = resolves.goes_on;
      answer = λ known agrees table has. if-err r (λ x. x ≡ NoMemory) _ is;
      linked = on-none r (λ x. x ≡ NoMemory) (AreLinked new.links.linked (site ∷ [])) is;
      attempts = resolves.attempts;
      unlearnt = resolves.unlearnt;
      asks = on-none r (λ x. x ≡ NoMemory) (AsksMore given old.links new.links) is;
      drawn = resolves.drawn;
      quiet = resolves.quiet;
      seat = resolves.seat;
      lacks = lacks-memory new.forms new.types r is;
      types = resolves.types;
      runs = λ known agrees. stops-run (under known given) old.links.attempts new.links.attempts [] old.forms new.forms NoMemory r is tt;
      asked = λ known agrees. memory-on (under known given) old.links.attempts new.links.attempts [] old.types new.types r is (resolves.asked known agrees);
    }

    -- its linkage was called: what the attempt has found of constants is what all values say that agree with the pass
    pub site-made : slice_get given.jobs l.now.job.site ≡ Some l.now.job → HasFound l.now → (answer : Answer) →
        IsAnswer (site_call given.leaves (linked_at (own_given l.now given) l.now.job.site l.now.serial) args)
        (site_keys (own_given l.now given) l.now.job.site l.now.serial) answer → MakesCall given (Indy site args) old new (Ok answer)
    site-made named found answer is = record {
      goes_on = resolves.goes_on;
      answer = λ known agrees table has. (
          let g : Given = under known given in
          let same = linkage-same given known l.now.job.site l.now named found (agrees.found site l.now resolves.value) in
          subst (λ o. IsAnswer (option_map_or (λ serial. site_call given.leaves (linked_at g site serial) args) o Stuck)
          (option_map_or (λ serial. site_keys g site serial) o 0) answer) (sym (has site l.now.serial resolves.linked.1))
          (subst (λ s. IsAnswer (site_call given.leaves (linked_at g s l.now.serial) args) (site_keys g s l.now.serial) answer) resolves.linked.0
          (rw (← same) is))
          );
      linked = All-push (λ s. IsSome (serial_at new.links.linked s)) [] site (All-nil (λ s. IsSome (serial_at new.links.linked s)))
          (subst IsSome (sym resolves.linked.1) refl);
      attempts = resolves.attempts;
      unlearnt = resolves.unlearnt;
      asks = resolves.asks;
      drawn = resolves.drawn;
      quiet = resolves.quiet;
      seat = resolves.seat;
      lacks = tt;
      types = resolves.types;
      runs = resolves.runs;
      asked = resolves.asked;
    }
