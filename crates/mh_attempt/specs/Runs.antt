-- For proofs: no clause of a public function reaches these definitions.
-- What the rest of a script requires, and how it changes the registers and the work.
use Rattle.std.specs.Prelude.{◌≡◌, ℕ, ◌+◌, ◌*◌, ◌^◌, ◌<◌, List, [], ◌∷◌, ◌++◌, length, map, All, Result, Ok, Err}
use Rattle.mh_values.specs.declared.types.MethodTy.{MethodTy}
use Rattle.mh_intern.specs.Exchanges.{Exchanges}
use Rattle.mh_intern.specs.Views.{HoldView}
use Rattle.mh_leaf.specs.LeafTable.{LeafTable}
use Rattle.mh_tree.specs.Tree.{Tree}
use Rattle.mh_edit.specs.declared.key.Key.{Key}
use Rattle.mh_handle.specs.declared.error.HandleError.{HandleError}
use Rattle.mh_handle.specs.declared.error.HandleError.TheVariants as handle
use Rattle.mh_handle.specs.declared.handle.Handle.{Handle}
use Rattle.mh_handle.specs.declared.work.Work.{Work}
use Rattle.mh_handle.specs.Recipe.{recipe}
use Rattle.mh_handle.specs.Works.{GoesOn, IsReady}
use Rattle.mh_script.specs.declared.operand.Register.{Register}
use Rattle.mh_script.specs.declared.script.End.{End}
use Rattle.mh_script.specs.declared.script.Step.{Step}
use Rattle.mh_script.specs.Limits.{CanDivide}
use Rattle.mh_attempt.specs.declared.registers.Registers.{Registers}
use Rattle.mh_jobs.specs.Thrown.{OrThrown}
use Rattle.mh_link.specs.Linked.{ran, stepped}
use Rattle.mh_link.specs.Made.{nodes_of_step, nodes_of_uses, types_of, unless_thrown}
use Rattle.mh_link.specs.Operands.{Frame, handle_in}
use Rattle.mh_attempt.specs.Asked.{AsksOrThrows}
use Rattle.mh_attempt.specs.AskedTypes.{AsksTypesOrThrows, script_types}
use Rattle.mh_attempt.specs.Lines.{TellsTarget}
use Rattle.mh_attempt.specs.Recipes.{script_recipes, step_asked}
use Rattle.mh_attempt.specs.Registers.{AreHeldBy, Hold, HoldSome, holds_in}

-- the most numbers that these lines and the last one draw
abbrev pub draws : List Step → ℕ
draws steps = 4 * length steps + 1

-- The lines can run. There is room for the numbers that they draw, and the registers stand for a frame.
-- No line divides by 0, and the serial is a long.
pub record MayRun (steps : List Step) (registers : Registers) (w : Work) : Type 0 where
  pub ready : IsReady w (draws steps)
  pub holds : HoldSome w.leaves.now registers
  pub kept : AreHeldBy w.seat.now registers
  pub divide : All CanDivide steps
  pub serial : registers.serial < 2 ^ 63

-- the seat has the holds `came` in place of the holds `gone`
abbrev pub Replaces : List HoldView → List HoldView → Work → Work → Type 0
Replaces gone came old new = (asks : List MethodTy) × Exchanges asks gone came old.seat.now new.seat.now

-- The seat has the types that the registers hold now in place of those before. If there is a handle, it has also those of the handle.
abbrev pub ReplacesTypes : {E : Type 0} → Registers → Registers → Work → Work → Result Handle E → Type 0
ReplacesTypes before after old new (Ok h) = Replaces (holds_in before.assigned.items) (holds_in after.assigned.items ++ h.held) old new
ReplacesTypes before after old new (Err error) = Replaces (holds_in before.assigned.items) (holds_in after.assigned.items) old new

-- ---- one use

-- the node that the use of a register makes: none if it throws
abbrev pub use_nodes : Register → Frame → List Tree
use_nodes r frame = unless_thrown (handle_in frame r) (λ t. nodes_of_uses frame (r ∷ []))

-- the recipe of the form that it asks for
abbrev pub use_recipes : LeafTable → Register → Frame → List (List Key)
use_recipes leaves r frame = map (recipe leaves) (use_nodes r frame)

-- the type of this node
abbrev pub use_types : LeafTable → Register → Frame → List MethodTy
use_types leaves r frame = types_of leaves (use_nodes r frame)

-- ---- one line

-- the recipes of the forms that a line before the last one asks for
abbrev pub step_recipes : LeafTable → Step → Frame → List (List Key)
step_recipes leaves s frame = map (recipe leaves) (step_asked leaves s frame)

-- the types of the nodes that it makes
abbrev pub step_types : LeafTable → Step → Frame → List MethodTy
step_types leaves s frame = types_of leaves (nodes_of_step leaves s frame)

-- The registers stand for the frame after a line, or the answer is the line's exception. If a table is full or memory runs out, this says nothing.
abbrev pub TellsStep : LeafTable → OrThrown Frame → Registers → Result (Unit {0}) HandleError → Type 0
TellsStep leaves next after (Ok u) = (frame : Frame) × (next ≡ Ok frame) × Hold leaves after frame
TellsStep leaves next after (Err (handle.Refused e)) = next ≡ Err e
TellsStep leaves next after (Err error) = Unit {0}

-- how a line before the last one changes registers and work: the registers stand for the next frame, or the line throws
pub record RunsStep (s : Step) (before after : Registers) (old new : Work) (result : Result (Unit {0}) HandleError) : Type 0 where
  pub goes_on : GoesOn 4 old new
  pub types : Replaces (holds_in before.assigned.items) (holds_in after.assigned.items) old new
  pub serial : after.serial ≡ before.serial
  pub told : (frame : Frame) → Hold old.leaves.now before frame → TellsStep old.leaves.now (stepped old.leaves.now s frame) after result
  pub asks : (frame : Frame) → Hold old.leaves.now before frame → AsksOrThrows (step_recipes old.leaves.now s frame) old new result
  pub asked : (frame : Frame) → Hold old.leaves.now before frame → AsksTypesOrThrows (step_types old.leaves.now s frame) old new result

-- ---- all lines

-- How the rest of a script answers and changes the work. The answer is a handle of the target, or an exception.
-- The seat holds the types of the target and of the registers. The forms and types of the script's nodes were asked for.
pub record Runs (steps : List Step) (e : End) (before after : Registers) (old new : Work) (result : Result Handle HandleError) : Type 0 where
  pub goes_on : GoesOn (draws steps) old new
  pub types : ReplacesTypes before after old new result
  pub target : (frame : Frame) → Hold old.leaves.now before frame → TellsTarget (ran old.leaves.now steps e frame) old result
  pub asks : (frame : Frame) → Hold old.leaves.now before frame → AsksOrThrows (script_recipes old.leaves.now steps e frame) old new result
  pub asked : (frame : Frame) → Hold old.leaves.now before frame → AsksTypesOrThrows (script_types old.leaves.now steps e frame) old new result
