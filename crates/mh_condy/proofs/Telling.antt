-- Failures that throw what is meant.
use Rattle.std.proofs.Common.{◌≡◌, ◌∙◌, ap, Err}
use Rattle.mh_values.specs.declared.value.Exc.{Exc}
use Rattle.mh_jobs.specs.Thrown.{OrThrown}
use Rattle.mh_condy.specs.Told.{Tells, Throws}
use Rattle.mh_condy.specs.declared.thrown.Failure.{Failure}
use Rattle.mh_condy.specs.declared.thrown.Failure.TheVariants.{NoMemory, Thrown}

pub throws-as : {A : Type 0} (failure : Failure) (e : Exc) (meaning : OrThrown A) → Throws failure e → meaning ≡ Err e → Tells (Err failure) meaning
throws-as NoMemory e meaning throws is = tt
throws-as (Thrown told) e meaning throws is = is ∙ ap (λ x. Err x) throws
