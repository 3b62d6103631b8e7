-- What an attempt leaves of a thread's pass, under all values of constants that agree with what the pass has learnt.
use Rattle.std.proofs.Common.{◌≡◌, sym, ◌∙◌, ap, subst, ℕ, List, [], ◌∷◌, ◌++◌, append-nil, Some, Result, Ok, Err, ⊎_elim, arith}
use Rattle.std.specs.Prelude.{IsErrAnd, slice_get}
use Rattle.std.specs.Option.{option_map_or}
use Rattle.mh_values.specs.declared.types.MethodTy.{MethodTy}
use Rattle.mh_intern.specs.Views.{SeatView}
use Rattle.mh_handle.specs.declared.work.Work.{Work}
use Rattle.mh_handle.specs.Recipe.{recipe}
use Rattle.mh_jobs.specs.declared.job.Job.{Job}
use Rattle.mh_jobs.specs.Given.{Found, Given, under}
use Rattle.mh_link.specs.Asking.{asked_at}
use Rattle.mh_link.specs.Named.{run_of}
use Rattle.mh_link.specs.Sites.{edits_at, types_at}
use Rattle.mh_condy.specs.Nodes.{found_in}
use Rattle.mh_condy.specs.Passes.{PassView}
use Rattle.mh_condy.specs.Recorded.{FindingView}
use Rattle.mh_condy.specs.Trails.{GoesBeside, trail_of}
use Rattle.mh_attempt.specs.declared.error.WorkError.{WorkError}
use Rattle.mh_attempt.specs.declared.error.WorkError.TheVariants.{NoMemory, FormsFull, TypesFull}
use Rattle.mh_attempt.specs.Asked.{Asks}
use Rattle.mh_attempt.specs.AskedTypes.{AsksNoOther, AsksTypes}
use Rattle.mh_attempt.specs.Constants.{AsksConstants, AsksFirst, HaveGoneFirst, given_in}
use Rattle.mh_attempt.specs.Linkage.{LinkageView}
use Rattle.mh_report.specs.declared.attempt.Attempt.{Attempt}
use Rattle.mh_runtime.specs.Asking.{HasAskedOn, HasRunOn, RunStops, RunsOnTypes}
use Rattle.mh_runtime.specs.Attempts.{AsksMore}
use Rattle.mh_runtime.specs.Passes.{LinkPass}
use Rattle.mh_runtime.specs.Values.{GivesNodes}
use Rattle.mh_runtime.proofs.constants.Agreeing.{edits-agree, types-agree}
use Rattle.mh_runtime.proofs.asking.AskedAnswers as answer
use Rattle.mh_runtime.proofs.asking.RunningAttempts.{attempt-runs, attempt-stops}

-- what was asked for no types was asked for none but these
asks-more : (types : List MethodTy) (old new : SeatView) → AsksNoOther [] old new → AsksNoOther types old new
asks-more types old new none t both = none t (omega (arith, both))

module _ (given : Given) (known : Found) (job : Job) (named : slice_get given.jobs job.site ≡ Some job) (p q : PassView) (gives : GivesNodes known q.known)
    (attempts : List Attempt) (a : Attempt) (own : job.site ≡ a.site) (old new : Work) where
  -- forms, where the constants were gone through first
  edits-are : (serial : ℕ) → HaveGoneFirst given job p q →
      edits_at (recipe given.leaves) (given_in q given) job.site serial ≡ edits_at (recipe given.leaves) (under known given) job.site serial
  edits-are serial gone = edits-agree given known job.site serial job named p q gone.0 gone.1 gives (recipe given.leaves)

  -- an attempt that was made
  pub runs-of : {A : Type 0} (made : A) → HaveGoneFirst given job p q →
      Asks (edits_at (recipe given.leaves) (given_in q given) job.site a.serial) old new (Ok made) →
      HasRunOn (under known given) attempts (attempts ++ a ∷ []) [] old.pass.now new.pass.now
  runs-of {A} made gone asks =
      attempt-runs (under known given) attempts a job.site own old new made
      (subst (λ rs. Asks rs old new (Ok made)) (edits-are a.serial gone) asks)

  -- one that has stopped
  pub runs-stopped : (e : WorkError) → AsksFirst {A = LinkageView} given job p q old.seat.now new.seat.now (Err e) →
      Asks {A = LinkageView} (edits_at (recipe given.leaves) (given_in q given) job.site a.serial) old new (Err e) →
      RunStops (under known given) attempts (attempts ++ a ∷ []) [] old.pass.now new.pass.now e
  runs-stopped NoMemory gone asks = tt
  runs-stopped (FormsFull drawn) gone asks =
      attempt-stops (under known given) attempts a job.site own old new LinkageView (FormsFull drawn)
      (subst (λ rs. Asks {A = LinkageView} rs old new (Err (FormsFull drawn))) (edits-are a.serial gone) asks)
  runs-stopped (TypesFull bucket) gone asks =
      attempt-stops (under known given) attempts a job.site own old new LinkageView (TypesFull bucket)
      (subst (λ rs. Asks {A = LinkageView} rs old new (Err (TypesFull bucket))) (edits-are a.serial gone) asks)

  -- ---- types

  types-are : (serial : ℕ) → HaveGoneFirst given job p q →
      types_at (given_in q given) job.site serial ≡ types_at (under known given) job.site serial
  types-are serial gone = types-agree given known job.site serial job named p q gone.0 gone.1 gives

  pub asked-of : HaveGoneFirst given job p q → AsksNoOther (types_at (given_in q given) job.site a.serial) old.seat.now new.seat.now →
      HasAskedOn (under known given) attempts (attempts ++ a ∷ []) [] old.seat.now new.seat.now
  asked-of gone asks =
      answer.attempt-asks (under known given) attempts a job.site own old new
      (subst (λ ts. AsksNoOther ts old.seat.now new.seat.now) (types-are a.serial gone) asks)

  -- one that has stopped; where memory ran out before the constants were gone through, no type was asked for
  asked-at : (B : Type 0) (e : WorkError) → AsksFirst {A = LinkageView} given job p q old.seat.now new.seat.now (Err e) →
      AsksTypes {A = LinkageView} (types_at (given_in q given) job.site a.serial) old new (Err e) →
      RunsOnTypes {A = B} (under known given) attempts (attempts ++ a ∷ []) [] old.seat.now new.seat.now (Err e)
  asked-at B NoMemory first asks = ⊎_elim
      (λ (gone : HaveGoneFirst given job p q). asked-of gone asks)
      (λ (none : AsksNoOther [] old.seat.now new.seat.now).
      answer.attempt-asks (under known given) attempts a job.site own old new
      (asks-more (types_at (under known given) job.site a.serial) old.seat.now new.seat.now none))
      first
  asked-at B (FormsFull drawn) gone asks = asked-of gone asks
  asked-at B (TypesFull bucket) gone asks = (asked-of gone asks.0, asks.1)

  -- and its error is handed on
  pub asked-stopped : {B : Type 0} (after : List Attempt) (e : WorkError) (r : Result B WorkError) → after ≡ attempts ++ a ∷ [] → IsErrAnd r (λ x. x ≡ e) →
      AsksFirst {A = LinkageView} given job p q old.seat.now new.seat.now (Err e) →
      AsksTypes {A = LinkageView} (types_at (given_in q given) job.site a.serial) old new (Err e) →
      RunsOnTypes (under known given) attempts after [] old.seat.now new.seat.now r
  asked-stopped after e (Ok x) more is first asks = absurd is
  asked-stopped {B = B} after e (Err x) more is first asks =
      subst (λ error. RunsOnTypes {A = B} (under known given) attempts after [] old.seat.now new.seat.now (Err error)) (sym is)
      (subst (λ all. RunsOnTypes {A = B} (under known given) attempts all [] old.seat.now new.seat.now (Err e)) (sym more) (asked-at B e first asks))

-- ---- constants

-- the attempts that came have gone through the constants of one job
pub asks-one : (given : Given) (job : Job) (a : Attempt) (links new : LinkPass) (findings : List FindingView) → slice_get given.jobs a.site ≡ Some job →
    new.attempts ≡ links.attempts ++ a ∷ [] → AsksConstants given job links.constants new.constants findings → AsksMore given links new
asks-one given job a links new findings named more asks = record {
  more = a ∷ [];
  are = more;
  goes = subst (λ cs. GoesBeside (run_of given) cs (trail_of links.constants) (trail_of new.constants))
      (sym (append-nil (option_map_or (asked_at (found_in new.constants.known)) (slice_get given.jobs a.site) [])
      ∙ ap (λ o. option_map_or (asked_at (found_in new.constants.known)) o []) named)) asks.goes;
}
