-- What is recorded of a dynamic constant, and what its attempt rests on (JVMS SE 17, 5.4.3.6).
use Rattle.std.specs.Prelude.{◌≡◌, ℕ, ◌==◌, if◌then◌else◌, List, [], ◌∷◌, map, slice_get, Some, None, Ok, Err}
use Rattle.mh_values.specs.declared.value.Value.{Value}
use Rattle.mh_jobs.specs.declared.constants.ConstJob.{ConstJob}
use Rattle.mh_jobs.specs.Thrown.{OrThrown}
use Rattle.mh_link.specs.Named.{Constants}
use Rattle.mh_jobs.specs.Given.{Found}
use Rattle.mh_link.specs.Constants.{const_under}
use Rattle.mh_link.specs.Asking.{asked_by}
use Rattle.mh_condy.specs.declared.value.ConstValue.{ConstValue}
use Rattle.mh_condy.specs.declared.value.ConstValue.TheVariants as recorded

-- a value or an error, as definitions see it
abbrev pub outcome_of : ConstValue → OrThrown Value
outcome_of (recorded.Value v) = Ok v
outcome_of (recorded.Error e) = Err e

-- ---- what an attempt rests on

-- a constant that an attempt has looked at, with the serial and the value or error that were recorded of it
pub record FindingView : Type 0 where
  pub constant : ℕ
  pub serial : ℕ
  pub value : OrThrown Value

-- what is found of each constant
abbrev pub found_of : List FindingView → Found
found_of [] c = None
found_of (f ∷ findings) c = if f.constant == c then Some f.value else found_of findings c

-- the constants that were looked at, in order
abbrev pub constants_of : List FindingView → List ℕ
constants_of findings = map (λ f. f.constant) findings

-- ---- recorded constants

-- A recorded constant: its job, the serial of the attempt that made it, and its value or error. Also what its attempt has found of the constants that it looked
-- at itself, in order.
pub record ConstView : Type 0 where
  pub job : ConstJob
  pub serial : ℕ
  pub value : OrThrown Value
  pub under : List FindingView

-- the number of a recorded constant
abbrev pub number_of : ConstView → ℕ
number_of k = k.job.number

-- it is one of the run's, and is what its attempt records under what it has found of the constants that it looks at
pub record IsConst (run : Constants) (k : ConstView) : Type 0 where
  pub named : slice_get run.jobs k.job.number ≡ Some k.job
  pub value_is : k.value ≡ const_under run (found_of k.under) k.job.number k.serial
  pub asked : constants_of k.under ≡ asked_by run (found_of k.under) k.job.number
