-- Runs of constants that tests make, without class files.
use Rattle.std.specs.Prelude.{◌≡◌, ℕ, ◌<◌, ◌≤◌, List, map, length, slice_get, nat_lt, true, Bool, Some, Ok, None}
use Rattle.std.specs.List.{list_all}
use Rattle.mh_values.specs.declared.types.Ty.{Ty}
use Rattle.mh_script.specs.declared.scripts.ScriptId.{ScriptId}
use Rattle.mh_jobs.specs.declared.constants.ConstJob.{ConstJob}
use Rattle.mh_jobs.specs.declared.unresolved.Part.TheVariants.{Constant}
use Rattle.mh_link.specs.Named.{Constants}
use Rattle.mh_condy.specs.Nodes.{unresolved}
use Rattle.mh_condy.specs.Passes.{PassView, TableView}
use Rattle.mh_sharing_tests.specs.declared.constants.built.Built.{Built}

-- the run of these constants
abbrev pub run_of : Built → Constants
run_of built = record { leaves = built.leaves; scripts = built.scripts; jobs = built.jobs }

-- the constant of a number, whose script is given the values of these constants
abbrev pub job_over : ℕ → List ℕ → ScriptId → Ty → List ℕ → ConstJob
job_over number names script t name = record {
  number = number;
  names = names;
  call = Ok (record { script = script; name = name; ty = t; arguments = record { parts = map (λ d. Constant d) names; thrown = None } });
}

-- whether all these numbers are below another one
abbrev pub are_below : ℕ → List ℕ → Bool
are_below below names = list_all (λ d. nat_lt d below) names

-- the job is of the constant of a number, over others below another number, and its script is one of this many
pub record IsOver (below scripts number : ℕ) (job : ConstJob) : Type 0 where
  pub names : List ℕ
  pub script : ScriptId
  pub of : Ty
  pub name : List ℕ
  pub is : job ≡ job_over number names script of name
  pub low : are_below below names ≡ true
  pub there : script.0 < scripts

-- so is each of a run, and its number is its place
abbrev pub AreOver : ℕ → Built → Type 0
AreOver below built = (c : ℕ) (job : ConstJob) → slice_get built.jobs c ≡ Some job → IsOver below (length built.scripts) c job

-- the pass is of the table, and has room for all that it has not learnt
pub record CanResolve (table : TableView) (pass : PassView) : Type 0 where
  pub table_is : pass.table ≡ table
  pub room : unresolved pass.known ≤ pass.seat.room
