-- What a run is given before anything is linked, and what is taken as recorded of its dynamic constants.
use Rattle.std.specs.Prelude.{◌≡◌, ℕ, List, Option, None, Some, slice_get}
use Rattle.mh_values.specs.declared.value.Value.{Value}
use Rattle.mh_leaf.specs.LeafTable.{LeafTable}
use Rattle.mh_classfile.specs.Class.{Class}
use Rattle.mh_script.specs.declared.script.Script.{Script}
use Rattle.mh_jobs.specs.declared.constants.ConstJob.{ConstJob}
use Rattle.mh_jobs.specs.declared.job.Job.{Job}
use Rattle.mh_jobs.specs.Sites.{job_of}
use Rattle.mh_jobs.specs.Thrown.{OrThrown}

-- what is found of each constant: its recorded value or error, where there is one
abbrev pub Found : Type 0
Found = ℕ → Option (OrThrown Value)

-- nothing is known of any constant
abbrev pub nothing_known : Found
nothing_known c = None

-- the leaves with their classes, the scripts, the jobs of the call sites, in order, and those of the dynamic constants; and what is taken as recorded of each
-- constant
pub record Given : Type 0 where
  pub leaves : LeafTable
  pub scripts : List Script
  pub jobs : List Job
  pub constants : List ConstJob
  pub values : Found

-- the same, where this is recorded of the constants
abbrev pub under : Found → Given → Given
under known given = record given { values = known }

-- the job is that of a call site of a class
abbrev pub IsJob : LeafTable → List Script → Job → Type 0
IsJob leaves scripts job = (class : Class) × (k : ℕ) × (first : ℕ) × (job_of leaves scripts class k job.site first ≡ Some job)

-- each of these jobs is that of a call site of a class, over these leaves and scripts
abbrev pub AreJobsOf : LeafTable → List Script → List Job → Type 0
AreJobsOf leaves scripts jobs = (site : ℕ) (job : Job) → slice_get jobs site ≡ Some job → IsJob leaves scripts job

-- each job of the run is that of a call site of a class, over the run's leaves and scripts
abbrev pub AreJobs : Given → Type 0
AreJobs given = AreJobsOf given.leaves given.scripts given.jobs
