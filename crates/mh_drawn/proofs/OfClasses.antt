-- The dynamic constants of class files can be resolved in a drawing of the classes.
use Rattle.std.proofs.Common.{sym, subst, List}
use Rattle.std.specs.Prelude.{All}
use Rattle.mh_leaf.specs.LeafTable.{LeafTable}
use Rattle.mh_classfile.specs.Class.{Class, HasDynamics}
use Rattle.mh_script.specs.declared.script.Script.{Script}
use Rattle.mh_jobs.specs.declared.run_jobs.RunJobs.{RunJobs}
use Rattle.mh_jobs.specs.Given as jobs
use Rattle.mh_jobs.specs.Given.{nothing_known}
use Rattle.mh_jobs.specs.RunJobs.{jobs_of}
use Rattle.mh_link.specs.Named.{run_of}
use Rattle.mh_condy.proofs.OfClasses.{are-resolvable}
use Rattle.mh_condy.proofs.RunClasses.{constant-jobs, sites-place}
use Rattle.mh_drawn.specs.Linked.{AreConstantsOf}
use Rattle.mh_drawn.specs.Reading.{AreOfClasses}

-- what a run is given with these jobs
abbrev given_with : LeafTable → List Script → RunJobs → jobs.Given
given_with leaves scripts js = record { leaves = leaves; scripts = scripts; jobs = js.sites; constants = js.constants; values = nothing_known }

of-classes : (leaves : LeafTable) (scripts : List Script) (classes : List Class) → All HasDynamics classes →
    AreConstantsOf (given_with leaves scripts (jobs_of leaves scripts classes))
of-classes leaves scripts classes have = record {
  are = are-resolvable (run_of (given_with leaves scripts (jobs_of leaves scripts classes))) (constant-jobs leaves scripts classes have);
  named = λ site job at call called. sites-place leaves scripts classes have site job at call called;
}

pub are-constants : (leaves : LeafTable) (scripts : List Script) (js : RunJobs) → AreOfClasses leaves scripts js →
    AreConstantsOf (given_with leaves scripts js)
are-constants leaves scripts js are =
    subst (λ (x : RunJobs). AreConstantsOf (given_with leaves scripts x)) (sym are.1) (of-classes leaves scripts are.0 are.2)
