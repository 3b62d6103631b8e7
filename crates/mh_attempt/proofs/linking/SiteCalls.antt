-- Calls of sites that are linked.
use Rattle.std.proofs.Common.{◌≡◌, ◌≢◌, refl, sym, ◌∙◌, ap, subst, ℕ, List, Some, map, arith}
use Rattle.std.specs.Prelude.{[], option_and_then, slice_get}
use Rattle.std.specs.Option.{option_map_or}
use Rattle.mh_base.proofs.Inversion.{ok_is}
use Rattle.mh_values.specs.declared.types.MethodTy.{MethodTy}
use Rattle.mh_values.specs.declared.value.Value.{Value}
use Rattle.mh_values.specs.Class.{illegal_argument_class}
use Rattle.mh_values.specs.Computation.{Stuck}
use Rattle.mh_values.specs.Exception.{bare}
use Rattle.mh_values.specs.HasType.{HaveTypes}
use Rattle.mh_leaf.specs.LeafTable.{LeafTable}
use Rattle.mh_tree.specs.Tree.{Tree}
use Rattle.mh_form.specs.Erasure.{erased}
use Rattle.mh_handle.specs.declared.handle.Handle.{Handle}
use Rattle.mh_handle.specs.Answers.{typed_ran}
use Rattle.mh_handle.specs.Stands.{Stands, handle_run}
use Rattle.mh_handle.proofs.standing.Answering.{typed_run-well_formed}
use Rattle.mh_jobs.specs.declared.job.Job.{Job}
use Rattle.mh_jobs.specs.Given.{Given}
use Rattle.mh_jobs.specs.Jobs.{params_at}
use Rattle.mh_link.specs.Linked as meant
use Rattle.mh_link.specs.Linked.{Target, Error, linked}
use Rattle.mh_link.specs.Resolved.{call_at, call_under}
use Rattle.mh_link.specs.Sites.{linked_at}
use Rattle.mh_condy.specs.Recorded.{FindingView, found_of}
use Rattle.mh_link.proofs.typing.Targets.{linked-typed}
use Rattle.mh_attempt.specs.declared.linkage.Linked.TheVariants as held
use Rattle.mh_attempt.specs.Linkage.{IsLinkage, IsLinkedBy}
use Rattle.mh_attempt.proofs.linking.JobCalls.{job-type}

-- what the attempt links at the site is what it links for the job
pub job-linked : (given : Given) (job : Job) (serial : ℕ) → slice_get given.jobs job.site ≡ Some job →
    linked_at given job.site serial ≡ linked given.leaves given.scripts (call_at given job) serial
job-linked given job serial named =
    ap (λ o. option_map_or (λ j. linked given.leaves given.scripts (call_at given j) serial) o (Error (bare illegal_argument_class))) named

-- ---- targets

stands-for : (leaves : LeafTable) (h : Handle) (m : meant.Linked) → IsLinkedBy leaves (held.Target h) m → (t : Tree) × (m ≡ Target t) × Stands leaves h t
stands-for leaves h (Target t) is = (t, refl, is)
stands-for leaves h (Error e) is = absurd is

-- a call of the site takes what the target takes
pub target-params : (given : Given) (job : Job) (serial : ℕ) (findings : List FindingView) (h : Handle) →
    IsLinkage given job serial findings (held.Target h) → params_at given.jobs job.site ≡ h.ty.params
target-params given job serial findings h is =
    let call = call_under (found_of findings) job.call in
    let stands = stands-for given.leaves h (linked given.leaves given.scripts call serial) is.right in
    let typed = linked-typed given.leaves given.scripts call serial stands.0 stands.1 in
    let own : job.ty ≡ Some h.ty =
    job-type given.leaves given.scripts job (found_of findings) typed.0 is.is_job typed.1 ∙ ap Some (ok_is typed.0.ty h.ty (sym typed.2 ∙ stands.2.typed)) in
    ap (λ o. option_map_or (λ (t : MethodTy). t.params) (option_and_then (λ (j : Job). j.ty) o) []) is.named
    ∙ ap (λ o. option_map_or (λ (t : MethodTy). t.params) o []) own

-- so the handle of the target takes the arguments
pub target-typed : (given : Given) (leaves : LeafTable) (job : Job) (serial : ℕ) (findings : List FindingView) (h : Handle) (args : List Value) →
    leaves ≡ given.leaves → IsLinkage given job serial findings (held.Target h) → HaveTypes given.leaves.classes args (params_at given.jobs job.site) →
    HaveTypes leaves.classes args h.ty.params
target-typed given leaves job serial findings h args same is have =
    subst (λ (x : LeafTable). HaveTypes x.classes args h.ty.params) (sym same)
    (subst (HaveTypes given.leaves.classes args) (target-params given job serial findings h is) have)

-- and the call finds all that it takes
pub target-runs : (given : Given) (leaves : LeafTable) (job : Job) (serial : ℕ) (findings : List FindingView) (h : Handle) (args : List Value) →
    leaves ≡ given.leaves → IsLinkage given job serial findings (held.Target h) → HaveTypes given.leaves.classes args (params_at given.jobs job.site) →
    typed_ran leaves.classes h.ty.ret (handle_run leaves h (map erased args) 0) ≢ Stuck
target-runs given leaves job serial findings h args same is have =
    let stands = stands-for given.leaves h (linked given.leaves given.scripts (call_under (found_of findings) job.call) serial) is.right in
    typed_run-well_formed leaves h stands.0 args 0 (subst (λ (x : LeafTable). Stands x h stands.0) (sym same) stands.2)
    (target-typed given leaves job serial findings h args same is have) (omega arith)
