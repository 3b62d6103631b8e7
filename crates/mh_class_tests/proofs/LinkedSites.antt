-- The job of a call site has the number that was asked for, and is one of the leaves and the scripts.
use Rattle.std.proofs.Common.{◌≡◌, sym, ◌∙◌, subst, ap, ℕ, ◌+◌, ◌≤◌, List, [], ◌∷◌, length, Option, Some, None, Result, Ok, Err, IfOk, arith}
use Rattle.std.specs.Prelude.{option_map, replicate, slice_get}
use Rattle.mh_base.specs.declared.memory.NoMemory.{NoMemory}
use Rattle.mh_leaf.specs.LeafTable.{LeafTable}
use Rattle.mh_classfile.specs.declared.constant.SiteView.{SiteView}
use Rattle.mh_classfile.specs.Class as class_file
use Rattle.mh_script.specs.declared.script.Script.{Script}
use Rattle.mh_jobs.specs.declared.job.Job.{Job}
use Rattle.mh_jobs.specs.Given.{IsJob}
use Rattle.mh_jobs.specs.Sites.{job_of, site_job}
use Rattle.mh_condy.specs.Nodes.{unresolved}
use Rattle.mh_condy.specs.Passes.{PassView}
use Rattle.mh_condy.proofs.RunClasses.{NamesBelow, site-names}
use Rattle.mh_attempt.specs.Constants.{HasPlaces}
use Rattle.mh_class_tests.specs.Alone.{alone}

module _ (leaves : LeafTable) (scripts : List Script) (class : class_file.Class) (first number : ℕ) where
  numbered : (o : Option SiteView) (job : Job) → option_map (site_job leaves scripts class first number) o ≡ Some job → job.site ≡ number
  numbered (Some site) job h = ap (λ (j : Job). j.site) (sym (same h))
    where
      same : ◌≡◌ {A = Option Job} (Some (site_job leaves scripts class first number site)) (Some job) → site_job leaves scripts class first number site ≡ job
      same h = cc
  numbered None job h = absurd cc

  -- so it is a job of the leaves and the scripts
  job-is : (k : ℕ) (job : Job) → job_of leaves scripts class k number first ≡ Some job → IsJob leaves scripts job
  job-is k job h =
      (class, k, first, subst (λ n. job_of leaves scripts class k n first ≡ Some job) (sym (numbered (slice_get class.sites k) job h)) h)

  pub made-is : (k : ℕ) (made : Result Job NoMemory) → IfOk made (λ job. job_of leaves scripts class k number first ≡ Some job) →
      IfOk made (λ job. IsJob leaves scripts job)
  made-is k (Ok job) h = job-is k job h
  made-is k (Err e) h = h

  alone-places : (o : Option SiteView) (job : Job) → class_file.HasDynamics class → first + length class.dynamics ≡ 0 →
      option_map (site_job leaves scripts class first number) o ≡ Some job → HasPlaces (alone leaves scripts job) job
  alone-places (Some site) job has none h =
      let same : site_job leaves scripts class first number site ≡ job = cc in
      let below = subst (λ (j : Job). NamesBelow (first + length class.dynamics) j) same (site-names leaves scripts class first number site has) in
      subst (λ (n : ℕ). NamesBelow n job) none below
  alone-places None job has none h = absurd cc

  -- where the class has no Dynamic entry, the job names no dynamic constant
  pub made-alone : (k : ℕ) (made : Result Job NoMemory) → class_file.HasDynamics class → first + length class.dynamics ≡ 0 →
      IfOk made (λ job. job_of leaves scripts class k number first ≡ Some job) → IfOk made (λ job. HasPlaces (alone leaves scripts job) job)
  made-alone k (Ok job) has none h = alone-places (slice_get class.sites k) job has none h
  made-alone k (Err e) has none h = tt

-- ---- no dynamic constants

-- nothing stands in a list without items
pub nothing-at : {A : Type 0} (xs : List A) (k : ℕ) (x : A) → xs ≡ [] → slice_get xs k ≡ Some x → ⊥
nothing-at [] k x none at = absurd cc
nothing-at (y ∷ xs) k x none at = absurd cc

-- a pass over no constants has room for all that it has not learnt
pub none-unlearnt : (pass : PassView) (constants : ℕ) → constants ≡ 0 → pass.known ≡ replicate constants None → unresolved pass.known ≤ pass.seat.room
none-unlearnt pass constants none known =
    let count : unresolved pass.known ≡ 0 = ap unresolved (known ∙ ap (λ (n : ℕ). replicate n None) none) in
    omega (arith, count)
