-- What is reported of want of memory outside the threads of a run.
use Rattle.std.proofs.Common.{◌≡◌, sym, subst, ℕ, List, Result, Ok, Err, inl}
use Rattle.std.specs.Prelude.{IfErr, IsErrAnd}
use Rattle.mh_plan.specs.declared.call.Call.{Call}
use Rattle.mh_jobs.specs.Given.{Given}
use Rattle.mh_runtime.specs.declared.joining.Joined.{Joined}
use Rattle.mh_runtime.specs.declared.pass.Pass.{Pass}
use Rattle.mh_runtime.specs.declared.stops.Stop.{Stop}
use Rattle.mh_runtime.specs.Asking.{IfFull, IfTypesFull}
use Rattle.mh_runtime.specs.Report.{StopsJoined}
use Rattle.mh_runtime.specs.Runs.{IsStopOn}
use Rattle.mh_runtime.specs.RunStops.{IsStopBy}
use Rattle.mh_runtime.specs.Stops.{error_of, outside}

pub outside-joined : {A J : Type 0} (given : Given) (joined : Joined J) (r : Result A Stop) → IsErrAnd r (λ x. x ≡ outside) →
    IfErr r (StopsJoined given joined)
outside-joined given joined (Ok a) is = tt
outside-joined given joined (Err stop) is = inl is

pub outside-on : {A J : Type 0} (given : Given) (base : Pass J) (plan : List (List Call)) (r : Result A Stop) → IsErrAnd r (λ x. x ≡ outside) →
    IfErr r (IsStopOn given base plan)
outside-on given base plan (Ok a) is = tt
outside-on given base plan (Err stop) is = inl is

pub outside-by : {A : Type 0} (given : Given) (workers : ℕ) (plan : List (List Call)) (r : Result A Stop) → IsErrAnd r (λ x. x ≡ outside) →
    IfErr r (IsStopBy given workers plan)
outside-by given workers plan (Ok a) is = tt
outside-by given workers plan (Err stop) is = inl is

pub outside-full : {A : Type 0} (P : Type 0) (r : Result A Stop) → IsErrAnd r (λ x. x ≡ outside) → IfFull (error_of r) P
outside-full P (Ok a) is = tt
outside-full {A = A} P (Err stop) is = subst (λ (s : Stop). IfFull {A = A} (error_of (Err s)) P) (sym is) tt

pub outside-types : {A : Type 0} (P : ℕ → Type 0) (r : Result A Stop) → IsErrAnd r (λ x. x ≡ outside) → IfTypesFull (error_of r) P
outside-types P (Ok a) is = tt
outside-types {A = A} P (Err stop) is = subst (λ (s : Stop). IfTypesFull {A = A} (error_of (Err s)) P) (sym is) tt

-- what is reported of the joined passes of a run
pub ruleset outside_report = (outside-joined)

-- and of threads whose passes are split off one
pub ruleset outside_pass = (outside-on)

-- what a run reports
pub ruleset outside_steps = (outside-by, outside-full, outside-types)
