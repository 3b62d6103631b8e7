-- Errors that are handed on.
use Rattle.std.proofs.Common.{◌≡◌, Err}
use Rattle.mh_class_bytes.specs.declared.fault.Fault.{Fault}
use Rattle.mh_class_bytes.specs.Format.{Checked}
use Rattle.mh_class_pool.specs.declared.fault.ClassKind.{ClassKind}
use Rattle.mh_class_pool.specs.declared.fault.ClassError.{ClassError}
use Rattle.mh_class_pool.specs.declared.fault.ClassError.TheVariants as errors
use Rattle.mh_class_pool.specs.Answers.{Fails}

-- An error of a part is the error of the whole, where the part's fault is the whole's.
pub fails_on : {X Y : Type 0} (e : ClassError) (part : Checked ClassKind X) (whole : Checked ClassKind Y) →
    ((f : Fault ClassKind) → part ≡ Err f → whole ≡ Err f) → Fails e part → Fails e whole
fails_on errors.NoMemory part whole on h = tt
fails_on (errors.Fault f) part whole on h = on f h
