-- What is known of a program that was read.
use Rattle.std.specs.Prelude.{◌≤◌, length}
use Rattle.mh_jobs.specs.Given.{AreJobs}
use Rattle.mh_plan.specs.Limits.{IsWithinLimits}
use Rattle.mh_plan.specs.Calls.{AreCallsOf}
use Rattle.mh_main.specs.declared.program.Program.{Program}
use Rattle.mh_main.specs.Program.{given_of}
use Rattle.mh_runtime.specs.Input.{AreConstantsOf}
use Rattle.mh_runtime.specs.Passes.{most_sites}
use Rattle.mh_runtime.specs.Workers.{most_workers}

-- The calls of the plan can be made and are within the limits. The jobs are those of call sites, and the dynamic constants can be resolved. There are at most
-- as many call sites and workers as there may be.
pub record IsRunnable (p : Program) : Type 0 where
  pub calls : AreCallsOf p.leaves p.jobs p.plan
  pub limits : IsWithinLimits p.plan
  pub jobs : AreJobs (given_of p)
  pub constants : AreConstantsOf (given_of p)
  pub few_sites : length p.jobs ≤ most_sites
  pub few_workers : p.workers ≤ most_workers
