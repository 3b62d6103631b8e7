-- Jobs of dynamic constants that are made one after the other.
use Rattle.std.proofs.Common.{◌≡◌, refl, sym, ◌∙◌, ap, ℕ, suc, ◌+◌, List, [], ◌∷◌, ◌++◌, length, drop, Some, add-one, arith}
use Rattle.std.specs.Prelude.{slice_get}
use Rattle.std.proofs.Math.Seq.{drop-length}
use Rattle.std.proofs.lemmas.List.{append_assoc, append-nil, length-append}
use Rattle.mh_leaf.specs.LeafTable.{LeafTable}
use Rattle.mh_classfile.specs.declared.constant.DynamicView.{DynamicView}
use Rattle.mh_classfile.specs.Class as class_file
use Rattle.mh_script.specs.declared.script.Script.{Script}
use Rattle.mh_jobs.specs.declared.constants.ConstJob.{ConstJob}
use Rattle.mh_jobs.specs.Constants.{const_job, const_jobs_from, with_constants}
use Rattle.mh_jobs.proofs.Arguments.{drop-here}

-- the jobs of the Dynamic entries before a place are made, after those that were there, and the others are what is left
pub record AreMade (leaves : LeafTable) (scripts : List Script) (class : class_file.Class) (before : List ConstJob) (k : ℕ) (all : List ConstJob) : Type 0 where
  pub made : with_constants leaves scripts before class
      ≡ all ++ const_jobs_from leaves scripts class (length before) (length all) (drop k class.dynamics)
  pub count : length all ≡ length before + k

-- none are made
pub none_made : (leaves : LeafTable) (scripts : List Script) (class : class_file.Class) (before : List ConstJob) → AreMade leaves scripts class before 0 before
none_made leaves scripts class before = record { made = refl; count = omega arith }

-- one more job
pub next_made : (leaves : LeafTable) (scripts : List Script) (class : class_file.Class) (before all : List ConstJob) (k : ℕ) (d : DynamicView) →
    AreMade leaves scripts class before k all → slice_get class.dynamics k ≡ Some d →
    AreMade leaves scripts class before (k + 1) (all ++ const_job leaves scripts class (length before) (length all) d ∷ [])
next_made leaves scripts class before all k d are there =
    let job : ConstJob = const_job leaves scripts class (length before) (length all) d in
    let From : ℕ → List DynamicView → List ConstJob = λ n ds. const_jobs_from leaves scripts class (length before) n ds in
    record {
      made =
          are.made ∙ ap (λ ds. all ++ From (length all) ds) (drop-here class.dynamics k d there)
          ∙ sym (append_assoc all (job ∷ []) (From (length all + 1) (drop (suc k) class.dynamics)))
          ∙ ap (λ n. (all ++ job ∷ []) ++ From n (drop (suc k) class.dynamics)) (sym (length-append all (job ∷ [])))
          ∙ ap (λ n. (all ++ job ∷ []) ++ From (length (all ++ job ∷ [])) (drop n class.dynamics)) (sym (add-one k));
      count = omega (arith, length-append all (job ∷ []), are.count);
    }

-- all jobs are made
pub all_made : (leaves : LeafTable) (scripts : List Script) (class : class_file.Class) (before all : List ConstJob) (k : ℕ) →
    AreMade leaves scripts class before k all → k ≡ length class.dynamics → all ≡ with_constants leaves scripts before class
all_made leaves scripts class before all k are h =
    let none : drop k class.dynamics ≡ [] = ap (λ n. drop n class.dynamics) h ∙ drop-length class.dynamics in
    sym (are.made ∙ ap (λ ds. all ++ const_jobs_from leaves scripts class (length before) (length all) ds) none ∙ append-nil all)
