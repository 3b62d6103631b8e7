-- Jobs of call sites that are made one after the other, and class by class.
use Rattle.std.proofs.Common.{◌≡◌, sym, ◌∙◌, ap, ℕ, suc, ◌+◌, List, [], ◌∷◌, ◌++◌, length, drop, Some, add-one}
use Rattle.std.specs.Prelude.{slice_get}
use Rattle.std.proofs.Math.Seq.{drop-length}
use Rattle.std.proofs.lemmas.List.{append_assoc, append-nil, length-append}
use Rattle.std.proofs.lemmas.List.Sums.{fold-append}
use Rattle.mh_leaf.specs.LeafTable.{LeafTable}
use Rattle.mh_classfile.specs.declared.constant.SiteView.{SiteView}
use Rattle.mh_classfile.specs.Class as class_file
use Rattle.mh_script.specs.declared.script.Script.{Script}
use Rattle.mh_jobs.specs.declared.job.Job.{Job}
use Rattle.mh_jobs.specs.declared.run_jobs.RunJobs.{RunJobs}
use Rattle.mh_jobs.specs.Sites.{site_job}
use Rattle.mh_jobs.specs.Jobs.{HasMore, jobs_from, with_sites}
use Rattle.mh_jobs.specs.RunJobs.{jobs_of, no_jobs, with_class}
use Rattle.mh_jobs.proofs.Arguments.{drop-here}

-- the jobs of the call sites before a place are made, after those that were there, and the others are what is left
abbrev pub AreMade : LeafTable → List Script → class_file.Class → ℕ → List Job → ℕ → List Job → Type 0
AreMade leaves scripts class first before k all =
    with_sites leaves scripts first before class ≡ all ++ jobs_from leaves scripts class first (length all) (drop k class.sites)

-- one more job
pub next_made : (leaves : LeafTable) (scripts : List Script) (class : class_file.Class) (first : ℕ) (before all : List Job) (k : ℕ) (site : SiteView) →
    AreMade leaves scripts class first before k all → slice_get class.sites k ≡ Some site →
    AreMade leaves scripts class first before (k + 1) (all ++ site_job leaves scripts class first (length all) site ∷ [])
next_made leaves scripts class first before all k site made there =
    let job : Job = site_job leaves scripts class first (length all) site in
    let From : ℕ → List SiteView → List Job = λ n sites. jobs_from leaves scripts class first n sites in
    made ∙ ap (λ sites. all ++ From (length all) sites) (drop-here class.sites k site there)
    ∙ sym (append_assoc all (job ∷ []) (From (length all + 1) (drop (suc k) class.sites)))
    ∙ ap (λ n. (all ++ job ∷ []) ++ From n (drop (suc k) class.sites)) (sym (length-append all (job ∷ [])))
    ∙ ap (λ n. (all ++ job ∷ []) ++ From (length (all ++ job ∷ [])) (drop n class.sites)) (sym (add-one k))

-- all jobs are made
pub all_made : (leaves : LeafTable) (scripts : List Script) (class : class_file.Class) (first : ℕ) (before all : List Job) (k : ℕ) →
    AreMade leaves scripts class first before k all → k ≡ length class.sites → all ≡ with_sites leaves scripts first before class
all_made leaves scripts class first before all k made h =
    let none : drop k class.sites ≡ [] = ap (λ n. drop n class.sites) h ∙ drop-length class.sites in
    sym (made ∙ ap (λ sites. all ++ jobs_from leaves scripts class first (length all) sites) none ∙ append-nil all)

-- the jobs of classes, and of one more class after them
pub one_more_class : (leaves : LeafTable) (scripts : List Script) (classes : List class_file.Class) (class : class_file.Class) →
    jobs_of leaves scripts (classes ++ class ∷ []) ≡ with_class leaves scripts (jobs_of leaves scripts classes) class
one_more_class leaves scripts classes class = fold-append (with_class leaves scripts) no_jobs classes (class ∷ [])

-- jobs of classes that become those of one more class
pub more_classes : (leaves : LeafTable) (scripts : List Script) (class : class_file.Class) (before all : RunJobs) →
    all ≡ with_class leaves scripts before class → (classes : List class_file.Class) → before ≡ jobs_of leaves scripts classes →
    all ≡ jobs_of leaves scripts (classes ++ class ∷ [])
more_classes leaves scripts class before all is classes are =
    is ∙ ap (λ (jobs : RunJobs). with_class leaves scripts jobs class) are ∙ sym (one_more_class leaves scripts classes class)

-- one more job stands after those before, too
pub more_after : (before all new : List Job) (job : Job) → HasMore before all → new ≡ all ++ job ∷ [] → HasMore before new
more_after before all new job has is = (has.0 ++ job ∷ [], is ∙ ap (λ jobs. jobs ++ job ∷ []) has.1 ∙ append_assoc before has.0 (job ∷ []))

-- the jobs before stand before themselves
pub no_more : (jobs : List Job) → HasMore jobs jobs
no_more jobs = ([], sym (append-nil jobs))
