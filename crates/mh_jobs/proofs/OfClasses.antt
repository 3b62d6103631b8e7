-- The jobs of classes are the jobs of their call sites.
use Rattle.std.proofs.Common.{◌≡◌, ◌⊎◌, refl, sym, subst, ◌∙◌, ap, inl, inr, ℕ, zero, suc, ◌+◌, List, [], ◌∷◌, ◌++◌, length, Some, Result, Ok, Err}
use Rattle.std.proofs.lemmas.List.{length-append}
use Rattle.std.specs.Prelude.{OnOk, fold, option_map, slice_get}
use Rattle.mh_leaf.specs.LeafTable.{LeafTable}
use Rattle.mh_classfile.specs.declared.constant.SiteView.{SiteView}
use Rattle.mh_classfile.specs.Class as class_file
use Rattle.mh_script.specs.declared.script.Script.{Script}
use Rattle.mh_jobs.specs.declared.job.Job.{Job}
use Rattle.mh_jobs.specs.Given.{AreJobsOf}
use Rattle.mh_jobs.specs.declared.run_jobs.RunJobs.{RunJobs}
use Rattle.mh_jobs.specs.Sites.{site_job}
use Rattle.mh_jobs.specs.Jobs.{jobs_from, with_sites}
use Rattle.mh_jobs.specs.RunJobs.{jobs_of, no_jobs, with_class}

-- an item of two lists stands in one of them
pub either : {A : Type 0} (xs ys : List A) (i : ℕ) (x : A) → slice_get (xs ++ ys) i ≡ Some x →
    (slice_get xs i ≡ Some x) ⊎ ((j : ℕ) × (slice_get ys j ≡ Some x))
either [] ys i x h = inr (i, h)
either (y ∷ xs) ys zero x h = inl h
either (y ∷ xs) ys (suc i) x h = either xs ys i x h

-- what holds anyway holds if a call went well
pub if_well : {A E : Type 0} (r : Result A E) (P : Type 0) → P → OnOk r P
if_well (Ok a) P p = p
if_well (Err e) P p = tt

module _ (leaves : LeafTable) (scripts : List Script) where
  -- a job among those of call sites is that of one of them
  made-of : (class : class_file.Class) (first number : ℕ) (sites : List SiteView) (i : ℕ) (job : Job) →
      slice_get (jobs_from leaves scripts class first number sites) i ≡ Some job →
      (site : SiteView) × (n : ℕ) × (slice_get sites i ≡ Some site) × (job ≡ site_job leaves scripts class first n site)
  made-of class first number [] i job h = absurd cc
  made-of class first number (site ∷ sites) zero job h = (site, number, refl, cc)
  made-of class first number (site ∷ sites) (suc i) job h = made-of class first (number + 1) sites i job h

  of-class : (class : class_file.Class) (first number : ℕ) → AreJobsOf leaves scripts (jobs_from leaves scripts class first number class.sites)
  of-class class first number at job h =
      let of = made-of class first number class.sites at job h in
      let numbered : job.site ≡ of.1 = ap (λ (j : Job). j.site) of.3 in (
        class,
        at,
        first,
        ap (λ o. option_map (site_job leaves scripts class first job.site) o) of.2
            ∙ ap (λ n. Some (site_job leaves scripts class first n of.0)) numbered ∙ ap (λ j. Some j) (sym of.3),
      )

  with-one : (first : ℕ) (jobs : List Job) (class : class_file.Class) → AreJobsOf leaves scripts jobs →
      AreJobsOf leaves scripts (with_sites leaves scripts first jobs class)
  with-one first jobs class are at job h =
      elim (either jobs (jobs_from leaves scripts class first (length jobs) class.sites) at job h) [
        | inl before ↦ are at job before
        | inr new ↦ of-class class first (length jobs) new.0 job new.1
      ]

  -- the jobs of the call sites of one more class are such jobs too
  pub are_more : (class : class_file.Class) (first : ℕ) (before all : List Job) → all ≡ with_sites leaves scripts first before class →
      AreJobsOf leaves scripts before → AreJobsOf leaves scripts all
  are_more class first before all is are = subst (λ (jobs : List Job). AreJobsOf leaves scripts jobs) (sym is) (with-one first before class are)

  with-more : (jobs : RunJobs) (classes : List class_file.Class) → AreJobsOf leaves scripts jobs.sites →
      AreJobsOf leaves scripts (fold (with_class leaves scripts) jobs classes).sites
  with-more jobs [] are = are
  with-more jobs (class ∷ classes) are =
      with-more (with_class leaves scripts jobs class) classes (with-one (length jobs.constants) jobs.sites class are)

  -- there are none to begin with
  pub none_are : (jobs : List Job) → jobs ≡ [] → AreJobsOf leaves scripts jobs
  none_are jobs none at job h = absurd cc

  -- the jobs that a run is given are those of call sites of its classes
  pub are_jobs : (classes : List class_file.Class) → AreJobsOf leaves scripts (jobs_of leaves scripts classes).sites
  are_jobs classes = with-more no_jobs classes (none_are [] refl)

  jobs_from-length : (class : class_file.Class) (first number : ℕ) (sites : List SiteView) →
      length (jobs_from leaves scripts class first number sites) ≡ length sites
  jobs_from-length class first number [] = refl
  jobs_from-length class first number (site ∷ sites) = ap suc (jobs_from-length class first (number + 1) sites)

  -- a class has a job for each of its call sites
  pub with_class-length : (jobs : RunJobs) (class : class_file.Class) →
      length (with_class leaves scripts jobs class).sites ≡ length jobs.sites + length class.sites
  with_class-length jobs class =
      let first : ℕ = length jobs.constants in
      length-append jobs.sites (jobs_from leaves scripts class first (length jobs.sites) class.sites)
      ∙ ap (λ n. length jobs.sites + n) (jobs_from-length class first (length jobs.sites) class.sites)
