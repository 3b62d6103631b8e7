-- What the constants of a run are resolved with.
use Rattle.std.specs.Prelude.{◌≡◌, ℕ, ◌<◌, List, length, Option, None, Some, Ok, slice_get, slice_index}
use denote.Ref.{Bor}
use Rattle.mh_leaf.specs.LeafTable.{LeafTable}
use Rattle.mh_classfile.specs.Class.{Class}
use Rattle.mh_script.specs.declared.script.Script.{Script}
use Rattle.mh_jobs.specs.declared.constants.ConstBootstrap.{ConstBootstrap}
use Rattle.mh_jobs.specs.declared.constants.ConstJob.{ConstJob}
use Rattle.mh_jobs.specs.declared.unresolved.Part.{Part}
use Rattle.mh_jobs.specs.declared.unresolved.Part.TheVariants.{Constant}
use Rattle.mh_jobs.specs.Constants.{const_job_of}
use Rattle.mh_link.specs.Named.{Constants, NamesItsOwn}
use Rattle.mh_link.specs.Depth.{rank}
use Rattle.mh_link.specs.Places.{Has}

-- the job is that of a Dynamic entry of a class, over these leaves and scripts
abbrev pub IsConstJob : LeafTable → List Script → ConstJob → Type 0
IsConstJob leaves scripts job = (class : Class) × (d : ℕ) × (first : ℕ) × (const_job_of leaves scripts class d first ≡ Some job)

-- each job is so, its number is its place, and the constants that it names have their places among the jobs
pub record AreConstantJobs (run : Constants) : Type 0 where
  pub are : (c : ℕ) (job : ConstJob) → slice_get run.jobs c ≡ Some job → IsConstJob run.leaves run.scripts job
  pub numbered : (c : ℕ) (job : ConstJob) → slice_get run.jobs c ≡ Some job → job.number ≡ c
  pub named : (c : ℕ) (job : ConstJob) → slice_get run.jobs c ≡ Some job → (d : ℕ) → Has job.names d → d < length run.jobs

-- the constant of a job can be resolved: the job names the constants among its arguments, these have their places among the jobs, and its script is there
pub record IsResolvable (run : Constants) (job : ConstJob) : Type 0 where
  pub names : NamesItsOwn job
  pub places : (d : ℕ) → Has job.names d → d < length run.jobs
  pub script : (call : ConstBootstrap) → job.call ≡ Ok call → call.script.0 < length run.scripts

-- so can all, and the number of each is its place
pub record AreResolvable (run : Constants) : Type 0 where
  pub each : (c : ℕ) (job : ConstJob) → slice_get run.jobs c ≡ Some job → IsResolvable run job
  pub numbered : (c : ℕ) (job : ConstJob) → slice_get run.jobs c ≡ Some job → job.number ≡ c

-- the constants among parts are constants of the run
abbrev pub HavePlaces : Constants → List Part → Type 0
HavePlaces run parts = (i d : ℕ) → slice_get parts i ≡ Some (Constant d) → d < length run.jobs

-- this is the part at a place, if there is one
abbrev pub FindsPart : List Part → ℕ → Option (Bor Part) → Type 0
FindsPart parts at None = slice_get parts at ≡ None
FindsPart parts at (Some part) = slice_get parts at ≡ Some part.now

-- how deep each constant stands over those that it names
pub record AreDepths (run : Constants) (depths : List ℕ) : Type 0 where
  pub count : length depths ≡ length run.jobs
  pub each : (c : ℕ) → c < length run.jobs → slice_index depths c ≡ rank run c

-- what a table has: the jobs, the scripts and the leaves of the run, the depths, and a cell for each constant
pub record IsTable (run : Constants) (jobs : List ConstJob) (scripts : List Script) (leaves : LeafTable) (depths cells : List ℕ) : Type 0 where
  pub jobs_are : jobs ≡ run.jobs
  pub scripts_are : scripts ≡ run.scripts
  pub leaves_are : leaves ≡ run.leaves
  pub are : AreResolvable run
  pub depths_are : AreDepths run depths
  pub cells_are : length cells ≡ length run.jobs
