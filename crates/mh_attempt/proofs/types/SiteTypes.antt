-- Which types the attempt to link a call site asks for, by those of the nodes that it makes.
use Rattle.std.proofs.Common.{◌≡◌, sym, ◌∙◌, ap, subst, ℕ, List, [], Some, Result, Ok, Err}
use Rattle.std.specs.Prelude.{IsErrAnd, slice_get}
use Rattle.std.specs.Option.{option_map_or}
use Rattle.mh_leaf.specs.LeafTable.{LeafTable}
use Rattle.mh_attempt.specs.declared.error.WorkError.{WorkError}
use Rattle.mh_handle.specs.declared.work.Work.{Work}
use Rattle.mh_script.specs.declared.script.Script.{Script}
use Rattle.mh_jobs.specs.declared.job.Job.{Job}
use Rattle.mh_jobs.specs.Given.{Given}
use Rattle.mh_link.specs.Made.{nodes, types_of}
use Rattle.mh_link.specs.Resolved.{call_at}
use Rattle.mh_link.specs.Sites.{types_at}
use Rattle.mh_attempt.specs.AskedTypes.{AsksTypes, job_types}

-- the types at a site are those for its job
site-types : (given : Given) (scripts : List Script) (leaves : LeafTable) (job : Job) (serial : ℕ) → scripts ≡ given.scripts → leaves ≡ given.leaves →
    slice_get given.jobs job.site ≡ Some job → types_at given job.site serial ≡ job_types leaves scripts (call_at given job) serial
site-types given scripts leaves job serial same same' named =
    ap (λ o. option_map_or (λ j. types_of given.leaves (nodes given.leaves given.scripts (call_at given j) serial)) o []) named
    ∙ (ap (λ l. job_types l given.scripts (call_at given job) serial) (sym same')
    ∙ ap (λ s. job_types leaves s (call_at given job) serial) (sym same))

pub asked-site : {A : Type 0} (given : Given) (scripts : List Script) (leaves : LeafTable) (job : Job) (serial : ℕ) (old new : Work) (r : Result A WorkError) →
    scripts ≡ given.scripts → leaves ≡ given.leaves → slice_get given.jobs job.site ≡ Some job →
    AsksTypes (job_types leaves scripts (call_at given job) serial) old new r → AsksTypes (types_at given job.site serial) old new r
asked-site given scripts leaves job serial old new r same same' named asked =
    subst (λ ts. AsksTypes ts old new r) (sym (site-types given scripts leaves job serial same same' named)) asked

-- and where an error is handed on
pub stopped-site : {A : Type 0} (given : Given) (scripts : List Script) (leaves : LeafTable) (job : Job) (serial : ℕ) (old new : Work) (error : WorkError)
    (r : Result A WorkError) → IsErrAnd r (λ x. x ≡ error) → scripts ≡ given.scripts → leaves ≡ given.leaves → slice_get given.jobs job.site ≡ Some job →
    AsksTypes {A = A} (job_types leaves scripts (call_at given job) serial) old new (Err error) → AsksTypes (types_at given job.site serial) old new r
stopped-site given scripts leaves job serial old new error (Ok a) handed same same' named asked = absurd handed
stopped-site {A} given scripts leaves job serial old new error (Err x) handed same same' named asked =
    subst (λ e. AsksTypes {A = A} (types_at given job.site serial) old new (Err e)) (sym handed)
    (asked-site {A = A} given scripts leaves job serial old new (Err error) same same' named asked)
