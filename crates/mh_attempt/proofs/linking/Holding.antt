-- The types that a target holds.
use Rattle.std.specs.Prelude.{Some, slice_get}
use Rattle.std.proofs.Common.{◌≡◌, sym, ◌∙◌, subst, ℕ, List}
use Rattle.mh_leaf.specs.LeafTable.{LeafTable}
use Rattle.mh_jobs.specs.declared.job.Job.{Job}
use Rattle.mh_jobs.specs.Given.{Given, IsJob, under}
use Rattle.mh_script.specs.declared.script.Script.{Script}
use Rattle.mh_link.specs.Linked.{held_by, linked}
use Rattle.mh_link.specs.Asking.{asked_at}
use Rattle.mh_link.specs.Places.{Has}
use Rattle.mh_link.specs.Resolved.{call_under}
use Rattle.mh_link.specs.Sites.{linked_at}
use Rattle.mh_link.proofs.constants.Asked.{agree-each}
use Rattle.mh_link.proofs.constants.SameCalls.{call-same}
use Rattle.mh_condy.specs.Nodes.{found_in}
use Rattle.mh_condy.specs.Passes.{PassView}
use Rattle.mh_condy.specs.Recorded.{FindingView, found_of}
use Rattle.mh_condy.proofs.Founds.{founds-agree}
use Rattle.mh_attempt.specs.Constants.{AsksConstants, call_in}
use Rattle.mh_attempt.specs.declared.linkage.Linked.{Linked}
use Rattle.mh_attempt.specs.Linkage.{HasTypes, IsLinkage, IsLinkedBy, held_in}
use Rattle.mh_attempt.proofs.linking.SiteCalls.{job-linked}

-- the call and what it looks at are the same under what the attempt has found
pub found-same : (given : Given) (job : Job) (old new : PassView) (findings : List FindingView) → AsksConstants given job old new findings →
    (call_in new job ≡ call_under (found_of findings) job.call) × (asked_at (found_in new.known) job ≡ asked_at (found_of findings) job)
found-same given job old new findings asks =
    call-same (found_in new.known) (found_of findings) job.call
    (agree-each (found_in new.known) (found_of findings) (asked_at (found_in new.known) job)
    (λ c h. sym (founds-agree new.known findings asks.knows c (subst (λ xs. Has xs c) (sym asks.constants) h))))

-- a linkage holds the types that its site holds
pub linkage-holds : (given : Given) (job : Job) (serial : ℕ) (findings : List FindingView) (recorded : Linked) →
    IsLinkage given job serial findings recorded →
    HasTypes (held_in recorded) (held_by given.leaves (linked_at (under (found_of findings) given) job.site serial))
linkage-holds given job serial findings recorded is =
    subst (λ m. HasTypes (held_in recorded) (held_by given.leaves m)) (sym (job-linked (under (found_of findings) given) job serial is.named)) is.holds

-- what is linked over leaves and scripts that are the run's, where constants are what a pass has learnt of them, and the attempt has found what it looks at
pub linkage-of : (given : Given) (leaves : LeafTable) (scripts : List Script) (job : Job) (serial : ℕ) (old new : PassView) (findings : List FindingView)
    (recorded : Linked) → leaves ≡ given.leaves → scripts ≡ given.scripts → slice_get given.jobs job.site ≡ Some job → IsJob given.leaves given.scripts job →
    AsksConstants given job old new findings → IsLinkedBy leaves recorded (linked leaves scripts (call_in new job) serial) →
    HasTypes (held_in recorded) (held_by leaves (linked leaves scripts (call_in new job) serial)) → IsLinkage given job serial findings recorded
linkage-of given leaves scripts job serial old new findings recorded over by named is_job asks right holds =
    let same = found-same given job old new findings asks in
    record {
      named = named;
      is_job = is_job;
      asked = asks.constants ∙ same.1;
      right = subst (λ c. IsLinkedBy given.leaves recorded (linked given.leaves given.scripts c serial)) same.0
          (subst (λ ls. IsLinkedBy ls recorded (linked ls given.scripts (call_in new job) serial)) over
          (subst (λ ss. IsLinkedBy leaves recorded (linked leaves ss (call_in new job) serial)) by right));
      holds = subst (λ c. HasTypes (held_in recorded) (held_by given.leaves (linked given.leaves given.scripts c serial))) same.0
          (subst (λ ls. HasTypes (held_in recorded) (held_by ls (linked ls given.scripts (call_in new job) serial))) over
          (subst (λ ss. HasTypes (held_in recorded) (held_by leaves (linked leaves ss (call_in new job) serial))) by holds));
    }
