-- The types that calls ask a seat for, given the nodes that they make.
use Rattle.std.specs.Prelude.{◌≡◌, ℕ, ◌+◌, List, ◌++◌, flat_map, Result, Ok, Err}
use Rattle.mh_values.specs.declared.types.MethodTy.{MethodTy}
use Rattle.mh_intern.specs.Exchanges.{FindsNoSlot}
use Rattle.mh_intern.specs.Held.{times_type}
use Rattle.mh_intern.specs.Views.{SeatView}
use Rattle.mh_leaf.specs.LeafTable.{LeafTable}
use Rattle.mh_tree.specs.Tree.{Tree}
use Rattle.mh_handle.specs.declared.error.HandleError.{HandleError}
use Rattle.mh_handle.specs.declared.error.HandleError.TheVariants as handle
use Rattle.mh_handle.specs.declared.work.Work.{Work}
use Rattle.mh_jobs.specs.Thrown.{OrThrown}
use Rattle.mh_script.specs.declared.script.End.{End}
use Rattle.mh_script.specs.declared.script.Operation.{Operation}
use Rattle.mh_script.specs.declared.script.Script.{Script}
use Rattle.mh_script.specs.declared.script.Step.{Step}
use Rattle.mh_jobs.specs.declared.job.BootstrapCall.{BootstrapCall}
use Rattle.mh_link.specs.Linked.{ended}
use Rattle.mh_link.specs.Made.{handles_of, returned, nodes, nodes_from, nodes_of, nodes_of_call, nodes_of_uses, types_of, unless_thrown}
use Rattle.mh_link.specs.Operands.{Frame}
use Rattle.mh_link.specs.Operations.{node_of}
use Rattle.mh_attempt.specs.declared.error.WorkError.{WorkError}
use Rattle.mh_attempt.specs.declared.error.WorkError.TheVariants as work
use Rattle.mh_attempt.specs.declared.handle.HandleOperand.{HandleOperand}
use Rattle.mh_attempt.specs.Registers.{node_made}

-- ---- the types of nodes

-- the types of the nodes that operands make, followed by those of these nodes
abbrev pub types_made : LeafTable → List HandleOperand → List Tree → List MethodTy
types_made leaves operands nodes = types_of leaves (flat_map node_made operands ++ nodes)

-- the same for the nodes that an operation makes itself: none if it throws
abbrev pub node_types : LeafTable → List HandleOperand → OrThrown Tree → List MethodTy
node_types leaves operands node = types_of leaves (unless_thrown node (λ n. flat_map node_made operands ++ nodes_of n))

-- the types of the nodes that an operation makes, with its uses of leaves first: none if it throws
abbrev pub line_types : LeafTable → Frame → Operation → List MethodTy
line_types leaves frame op =
    types_of leaves (unless_thrown (node_of leaves frame op) (λ t. nodes_of_uses frame (handles_of op) ++ nodes_of t))

-- the types of the nodes that the last line makes
abbrev pub end_types : LeafTable → End → Frame → List MethodTy
end_types leaves e frame = types_of leaves (unless_thrown (ended leaves e frame) (λ t. nodes_of_uses frame (returned e)))

-- the types of the nodes that the rest of a script makes, up to the line that throws
abbrev pub script_types : LeafTable → List Step → End → Frame → List MethodTy
script_types leaves steps e frame = types_of leaves (nodes_from leaves steps e frame)

-- the types of the nodes that a call of a bootstrap method makes, in the attempt with a serial number
abbrev pub target_types : LeafTable → List Script → ℕ → BootstrapCall → List MethodTy
target_types leaves scripts serial call = types_of leaves (nodes_of_call leaves scripts serial call)

-- the types of the nodes that the attempt with a serial number makes for a call
abbrev pub job_types : LeafTable → List Script → OrThrown BootstrapCall → ℕ → List MethodTy
job_types leaves scripts call serial = types_of leaves (nodes leaves scripts call serial)

-- ---- what a seat is asked for

-- the seat was asked for no types except these and those that it was asked for before
abbrev pub AsksNoOther : List MethodTy → SeatView → SeatView → Type 0
AsksNoOther types old new = (t : MethodTy) → times_type t old.asked + times_type t types ≡ 0 → times_type t new.asked ≡ 0

-- some type found no slot in this bucket, which was full of other types
abbrev pub HasNoSlot : ℕ → SeatView → Type 0
HasNoSlot bucket seat = (t : MethodTy) × FindsNoSlot bucket t seat

-- how a call that asks for no types except these changes the seat
abbrev pub AsksTypes : {A : Type 0} → List MethodTy → Work → Work → Result A WorkError → Type 0
AsksTypes types old new (Ok a) = AsksNoOther types old.seat.now new.seat.now
AsksTypes types old new (Err (work.TypesFull bucket)) = AsksNoOther types old.seat.now new.seat.now × HasNoSlot bucket new.seat.now
AsksTypes types old new (Err (work.FormsFull drawn)) = AsksNoOther types old.seat.now new.seat.now
AsksTypes types old new (Err work.NoMemory) = AsksNoOther types old.seat.now new.seat.now

-- the same for a call that may throw
abbrev pub AsksTypesOrThrows : {A : Type 0} → List MethodTy → Work → Work → Result A HandleError → Type 0
AsksTypesOrThrows types old new (Ok a) = AsksNoOther types old.seat.now new.seat.now
AsksTypesOrThrows types old new (Err (handle.Refused e)) = AsksNoOther types old.seat.now new.seat.now
AsksTypesOrThrows types old new (Err (handle.TypesFull bucket)) = AsksNoOther types old.seat.now new.seat.now × HasNoSlot bucket new.seat.now
AsksTypesOrThrows types old new (Err (handle.FormsFull drawn)) = AsksNoOther types old.seat.now new.seat.now
AsksTypesOrThrows types old new (Err handle.NoMemory) = AsksNoOther types old.seat.now new.seat.now
