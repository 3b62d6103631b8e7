-- What a run of a script relies on: there are few lines, and none divides by 0.
use Rattle.std.specs.Prelude.{◌≤◌, ◌<◌, List, length, All}
use Rattle.mh_script.specs.declared.reading.Stage.{Stage}
use Rattle.mh_script.specs.declared.reading.Stage.TheVariants as stage
use Rattle.mh_script.specs.declared.script.Script.{Script}
use Rattle.mh_script.specs.declared.script.Step.{Step}
use Rattle.mh_script.specs.declared.script.Step.TheVariants as step

-- what the line divides by is not 0
abbrev pub CanDivide : Step → Type 0
CanDivide (step.FailMod modulus remainder) = 1 ≤ modulus
CanDivide s = Unit {0}

-- the lines of a script before its last one: fewer than 64, and none divides by 0
pub record AreRunnable (steps : List Step) : Type 0 where
  pub few : length steps < 64
  pub divide : All CanDivide steps

-- the script can be carried out
abbrev pub CanRun : Script → Type 0
CanRun script = AreRunnable script.steps

-- ---- scripts that are read

-- the lines so far of a script that is begun: no more than 64, and none divides by 0
pub record AreBegun (steps : List Step) : Type 0 where
  pub few : length steps ≤ 64
  pub divide : All CanDivide steps

-- a line may come next: the lines before it within its script are as above
abbrev pub MayStand : Stage → Type 0
MayStand (stage.Within begun) = AreBegun begun.steps
MayStand s = Unit {0}
