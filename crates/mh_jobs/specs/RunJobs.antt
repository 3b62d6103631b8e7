-- The jobs of a run: one for each call site of its classes, and one for each of their dynamic constants, in order.
use Rattle.std.specs.Prelude.{List, [], length, fold}
use Rattle.mh_leaf.specs.LeafTable.{LeafTable}
use Rattle.mh_classfile.specs.Class as class_file
use Rattle.mh_script.specs.declared.script.Script.{Script}
use Rattle.mh_jobs.specs.declared.run_jobs.RunJobs.{RunJobs}
use Rattle.mh_jobs.specs.Constants.{with_constants}
use Rattle.mh_jobs.specs.Jobs.{with_sites}

-- these jobs, and those of a class's call sites and dynamic constants, each numbered on
abbrev pub with_class : LeafTable → List Script → RunJobs → class_file.Class → RunJobs
with_class leaves scripts before class = record {
  sites = with_sites leaves scripts (length before.constants) before.sites class;
  constants = with_constants leaves scripts before.constants class;
}

-- no jobs
abbrev pub no_jobs : RunJobs
no_jobs = record { sites = []; constants = [] }

-- the jobs of classes, in order
abbrev pub jobs_of : LeafTable → List Script → List class_file.Class → RunJobs
jobs_of leaves scripts classes = fold (with_class leaves scripts) no_jobs classes
