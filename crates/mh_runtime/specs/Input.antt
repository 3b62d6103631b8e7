-- What a run is given.
use Rattle.mh_jobs.specs.Given.{Given, nothing_known}
use Rattle.mh_link.specs.Named.{run_of}
use Rattle.mh_condy.specs.Runs.{AreResolvable}
use Rattle.mh_runtime.specs.Passes.{NameConstants}
use Rattle.mh_runtime.specs.declared.input.RunInput.{RunInput}

-- what a run is given before anything is linked
abbrev pub given_by : RunInput → Given
given_by input = record {
  leaves = input.leaves.now;
  scripts = input.scripts.now;
  jobs = input.jobs.now;
  constants = input.constants.now;
  values = nothing_known;
}

-- the dynamic constants of a run can be resolved: their jobs are those of class files, and each constant that a job names has its place among them
pub record AreConstantsOf (given : Given) : Type 0 where
  pub are : AreResolvable (run_of given)
  pub named : NameConstants given
