-- The dynamic constants of class files can be resolved in a run of the classes.
use Rattle.std.proofs.Common.{◌≡◌, sym, subst, List}
use Rattle.std.specs.Prelude.{All}
use Rattle.mh_leaf.specs.LeafTable.{LeafTable}
use Rattle.mh_classfile.specs.Class.{Class, HasDynamics}
use Rattle.mh_script.specs.declared.script.Script.{Script}
use Rattle.mh_jobs.specs.declared.run_jobs.RunJobs.{RunJobs}
use Rattle.mh_jobs.specs.Given.{Given, nothing_known}
use Rattle.mh_jobs.specs.RunJobs.{jobs_of}
use Rattle.mh_link.specs.Named.{run_of}
use Rattle.mh_condy.proofs.OfClasses.{are-resolvable}
use Rattle.mh_condy.proofs.RunClasses.{constant-jobs, sites-place}
use Rattle.mh_runtime.specs.Input.{AreConstantsOf}

-- what a run is given with these jobs
abbrev pub given_with : LeafTable → List Script → RunJobs → Given
given_with leaves scripts jobs =
    record { leaves = leaves; scripts = scripts; jobs = jobs.sites; constants = jobs.constants; values = nothing_known }

of-classes : (leaves : LeafTable) (scripts : List Script) (classes : List Class) → All HasDynamics classes →
    AreConstantsOf (given_with leaves scripts (jobs_of leaves scripts classes))
of-classes leaves scripts classes have = record {
  are = are-resolvable (run_of (given_with leaves scripts (jobs_of leaves scripts classes))) (constant-jobs leaves scripts classes have);
  named = λ site job at call called. sites-place leaves scripts classes have site job at call called;
}

-- the jobs are those of classes whose bootstrap methods are given Dynamic entries of their own
pub are-constants : (leaves : LeafTable) (scripts : List Script) (classes : List Class) → All HasDynamics classes → (jobs : RunJobs) →
    jobs ≡ jobs_of leaves scripts classes → AreConstantsOf (given_with leaves scripts jobs)
are-constants leaves scripts classes have jobs is =
    subst (λ (js : RunJobs). AreConstantsOf (given_with leaves scripts js)) (sym is) (of-classes leaves scripts classes have)
