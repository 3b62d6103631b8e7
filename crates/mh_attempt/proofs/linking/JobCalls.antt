-- The call that a job makes: the script of its method is there, its leaves are leaves of the table, and it has the type of the job's site.
use Rattle.std.proofs.Common.{◌≡◌, sym, ◌∙◌, ap, ℕ, zero, suc, ◌<◌, List, [], ◌∷◌, length, Option, Some, None, Ok, arith}
use Rattle.std.specs.Prelude.{option_map, slice_get}
use Rattle.std.specs.Result.{result_ok}
use Rattle.mh_values.specs.declared.types.MethodTy.{MethodTy}
use Rattle.mh_leaf.specs.declared.leaf.Leaf.{Leaf}
use Rattle.mh_leaf.specs.LeafTable.{LeafTable}
use Rattle.mh_tree.specs.Rows.{leaf_row}
use Rattle.mh_classfile.specs.declared.constant.SiteView.{SiteView}
use Rattle.mh_classfile.specs.Class as class_file
use Rattle.mh_script.specs.declared.script.Script.{Script}
use Rattle.mh_jobs.specs.declared.job.Argument.TheVariants as argument
use Rattle.mh_jobs.specs.declared.job.BootstrapCall.{BootstrapCall}
use Rattle.mh_jobs.specs.declared.job.Job.{Job}
use Rattle.mh_jobs.specs.Given.{IsJob, Found}
use Rattle.mh_jobs.specs.Sites.{site_bootstrap, site_job}
use Rattle.mh_link.specs.Linked.{IsThere}
use Rattle.mh_link.specs.Resolved.{call_under}
use Rattle.mh_link.proofs.typing.Attempts.{method-there}
use Rattle.mh_link.proofs.typing.Leaves.{call-typed}
use Rattle.mh_link.proofs.constants.SiteCalls.{call-made}
use Rattle.mh_attempt.specs.Registers.{HasLeaves}

-- ---- the site

mapped : (o : Option SiteView) (make : SiteView → Job) (job : Job) → option_map make o ≡ Some job → (site : SiteView) × (make site ≡ job)
mapped (Some site) make job h = (site, cc)
mapped None make job h = absurd cc

-- the job is made of a call site of a class, before which so many dynamic constants stand
record IsMade (leaves : LeafTable) (scripts : List Script) (job : Job) : Type 0 where
  class : class_file.Class
  first : ℕ
  site : SiteView
  made : site_job leaves scripts class first job.site site ≡ job

job-site : (leaves : LeafTable) (scripts : List Script) (job : Job) → IsJob leaves scripts job → IsMade leaves scripts job
job-site leaves scripts job is =
    let made = mapped (slice_get is.0.sites is.1) (site_job leaves scripts is.0 is.2 job.site) job is.3 in
    record { class = is.0; first = is.2; site = made.0; made = made.1 }

job-called : (leaves : LeafTable) (scripts : List Script) (job : Job) (known : Found) (call : BootstrapCall) (is : IsMade leaves scripts job) →
    call_under known job.call ≡ Ok call → call_under known (site_bootstrap leaves scripts is.class is.first is.site) ≡ Ok call
job-called leaves scripts job known call is called = ap (λ (j : Job). call_under known j.call) is.made ∙ called

-- ---- the method

-- the script of the bootstrap method, if it is that of one, is there
pub job-method : (leaves : LeafTable) (scripts : List Script) (job : Job) (known : Found) (call : BootstrapCall) → IsJob leaves scripts job →
    call_under known job.call ≡ Ok call → IsThere scripts call.method
job-method leaves scripts job known call of called =
    let is = job-site leaves scripts job of in
    method-there leaves scripts is.class is.first is.site known call (job-called leaves scripts job known call is called)

-- ---- the leaves

leaf-within : (xs : List Leaf) (k : ℕ) (own : MethodTy) → leaf_row (slice_get xs k) ≡ Ok own → k < length xs
leaf-within [] k own h = absurd cc
leaf-within (x ∷ xs) zero own h = omega arith
leaf-within (x ∷ xs) (suc k) own h = let within = leaf-within xs k own h in omega (arith, within)

-- the static arguments that are leaves are leaves of the table
pub job-leaves : (leaves : LeafTable) (scripts : List Script) (job : Job) (known : Found) (call : BootstrapCall) → IsJob leaves scripts job →
    call_under known job.call ≡ Ok call → HasLeaves leaves call
job-leaves leaves scripts job known call of called n (argument.Leaf l) at =
    let is = job-site leaves scripts job of in
    let typed = call-typed leaves scripts is.class is.first is.site known call (job-called leaves scripts job known call is called) n l at in
    leaf-within leaves.leaves l.0 typed.0 typed.1
job-leaves leaves scripts job known call of called n a at = tt

-- ---- the type

-- the call has the type of the job's site
pub job-type : (leaves : LeafTable) (scripts : List Script) (job : Job) (known : Found) (call : BootstrapCall) → IsJob leaves scripts job →
    call_under known job.call ≡ Ok call → job.ty ≡ Some call.ty
job-type leaves scripts job known call of called =
    let is = job-site leaves scripts job of in
    let made = call-made leaves scripts is.class is.first is.site known call (job-called leaves scripts job known call is called) in
    sym (ap (λ (j : Job). j.ty) is.made) ∙ ap result_ok made.typed
