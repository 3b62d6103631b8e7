-- The constants of a run, and the constants that each names.
use Rattle.std.specs.Prelude.{◌≡◌, ℕ, List, [], ◌∷◌, Ok, Err, Some, slice_get}
use Rattle.mh_leaf.specs.LeafTable.{LeafTable}
use Rattle.mh_script.specs.declared.script.Script.{Script}
use Rattle.mh_jobs.specs.declared.constants.ConstBootstrap.{ConstBootstrap}
use Rattle.mh_jobs.specs.declared.constants.ConstJob.{ConstJob}
use Rattle.mh_jobs.specs.declared.unresolved.Part.{Part}
use Rattle.mh_jobs.specs.declared.unresolved.Part.TheVariants.{Known, Constant}
use Rattle.mh_jobs.specs.declared.unresolved.StaticArguments.{StaticArguments}
use Rattle.mh_jobs.specs.Given.{Given}
use Rattle.mh_jobs.specs.Thrown.{OrThrown}
use Rattle.mh_link.specs.Places.{Has}

-- what the constants of a run are resolved with: the leaves with their classes, the scripts, and the jobs of the constants, in order
pub record Constants : Type 0 where
  pub leaves : LeafTable
  pub scripts : List Script
  pub jobs : List ConstJob

-- what the constants of a run are resolved with, of what it is given
abbrev pub run_of : Given → Constants
run_of given = record { leaves = given.leaves; scripts = given.scripts; jobs = given.constants }

-- the static arguments of a constant's call
abbrev pub arguments_of_call : OrThrown ConstBootstrap → OrThrown StaticArguments
arguments_of_call (Ok call) = Ok call.arguments
arguments_of_call (Err e) = Err e

-- these names have each constant among the parts
abbrev pub Name : List ℕ → List Part → Type 0
Name names [] = Unit {0}
Name names (Known a ∷ parts) = Name names parts
Name names (Constant c ∷ parts) = Has names c × Name names parts

-- a job names the constants that its call has
abbrev pub NamesItsOwn : ConstJob → Type 0
NamesItsOwn job = (call : ConstBootstrap) → job.call ≡ Ok call → Name job.names call.arguments.parts

-- each job does
abbrev pub AreConstJobs : Constants → Type 0
AreConstJobs run = (c : ℕ) (job : ConstJob) → slice_get run.jobs c ≡ Some job → NamesItsOwn job
