-- The call sites of a class file have their bootstrap methods.
use Rattle.std.proofs.Common.{◌≡◌, refl, ℕ, zero, suc, ◌<◌, List, [], ◌∷◌, length, Some, Ok, codes, arith}
use Rattle.std.specs.Prelude.{slice_get, ok_or}
use Rattle.mh_classfile.specs.declared.constant.SiteView.{SiteView}
use Rattle.mh_classfile.specs.Class as class_file
use Rattle.mh_jobs.specs.Job.{bootstrap_at}
use Rattle.mh_jobs.specs.Thrown.{unsupported}

found : (all : List class_file.Bootstrap) (j : ℕ) → j < length all →
    (bootstrap : class_file.Bootstrap) × (ok_or (slice_get all j) (unsupported (codes "constant")) ≡ Ok bootstrap)
found [] j h = absurd (omega arith)
found (b ∷ all) zero h = (b, refl)
found (b ∷ all) (suc j) h = found all j (omega arith)

-- the bootstrap method of a call site is there, in a class that was read
pub bootstrap-there : (class : class_file.Class) (k : ℕ) (site : SiteView) → class_file.HasBootstraps class → slice_get class.sites k ≡ Some site →
    (bootstrap : class_file.Bootstrap) × (bootstrap_at class site.bootstrap ≡ Ok bootstrap)
bootstrap-there class k site has at = found class.bootstraps site.bootstrap (has k site at)
