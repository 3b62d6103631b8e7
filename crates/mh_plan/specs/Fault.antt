-- Answers of a plan's reader, compared with the meaning.
use Rattle.std.specs.Prelude.{◌≡◌, List, Result, Ok, Err}
use Rattle.mh_base.specs.declared.lines.LineFault.{LineFault}
use Rattle.mh_plan.specs.declared.call.Call.{Call}
use Rattle.mh_plan.specs.declared.kinds.PlanKind.{PlanKind}
use Rattle.mh_plan.specs.declared.kinds.PlanError.{PlanError}
use Rattle.mh_plan.specs.declared.kinds.PlanError.TheVariants.{NoMemory, Fault}

-- The answer is the value, or the fault that counts. If memory runs out, it says nothing.
abbrev pub TellsLines : {A : Type 0} → Result A PlanError → Result A (LineFault PlanKind) → Type 0
TellsLines (Ok got) meaning = meaning ≡ Ok got
TellsLines (Err NoMemory) meaning = Unit {0}
TellsLines (Err (Fault fault)) meaning = meaning ≡ Err fault

-- the same for a whole plan
abbrev pub TellsPlan : Result (List (List Call)) PlanError → Result (List (List Call)) (LineFault PlanKind) → Type 0
TellsPlan result meaning = TellsLines result meaning
