-- The registers of a running script stand for a frame, in which method handles are trees.
use denote.Ref.{Bor}
use Rattle.std.specs.Prelude.{◌≡◌, ℕ, ◌<◌, Bool, false, pos, List, [], ◌∷◌, length, flat_map, if◌then◌else◌, Option, Some, None, slice_get}
use Rattle.std.specs.Str.{bytes_eq}
use Rattle.std.specs.Vec.{vec_len, vec_capacity}
use Rattle.mh_values.specs.declared.types.Ty.{Ty}
use Rattle.mh_values.specs.declared.value.Num.TheVariants as num
use Rattle.mh_values.specs.declared.value.Value.TheVariants as values
use Rattle.mh_intern.specs.Exchanges.{AreHeld}
use Rattle.mh_intern.specs.Views.{HoldView, SeatView}
use Rattle.mh_leaf.specs.LeafTable.{LeafTable}
use Rattle.mh_tree.specs.Tree.{Tree}
use Rattle.mh_tree.specs.Tree as tree
use Rattle.mh_handle.specs.Stands.{Stands}
use Rattle.mh_jobs.specs.declared.job.Argument.{Argument}
use Rattle.mh_jobs.specs.declared.job.Argument.TheVariants as argument
use Rattle.mh_jobs.specs.declared.job.BootstrapCall.{BootstrapCall}
use Rattle.mh_script.specs.declared.operand.Register.{Register}
use Rattle.mh_attempt.specs.declared.handle.HandleOperand.{HandleOperand}
use Rattle.mh_attempt.specs.declared.handle.HandleOperand.TheVariants as operand
use Rattle.mh_attempt.specs.declared.registers.Assignment.{Assignment}
use Rattle.mh_attempt.specs.declared.registers.Content.{Content as Found}
use Rattle.mh_attempt.specs.declared.registers.Content.TheVariants as found
use Rattle.mh_attempt.specs.declared.registers.Held.{Held}
use Rattle.mh_attempt.specs.declared.registers.Held.TheVariants as held
use Rattle.mh_attempt.specs.declared.registers.Registers.{Registers}
use Rattle.mh_link.specs.Operands.{Content, Frame, handle, value, method_type, class, content, as_class, last_assigned}
use Rattle.mh_jobs.specs.Thrown.{OrThrown, ◌>>=◌}

-- ---- handles

-- an operand stands for a tree: a held handle as handles do, and a leaf of the table for itself
abbrev pub StandsFor : LeafTable → HandleOperand → Tree → Type 0
StandsFor leaves (operand.Held h) t = Stands leaves h.now t
StandsFor leaves (operand.Leaf l) t = (t ≡ tree.Leaf l) × (l.0 < length leaves.leaves)

-- the operand stands for some tree
abbrev pub StandsForSome : LeafTable → HandleOperand → Type 0
StandsForSome leaves o = (t : Tree) × StandsFor leaves o t

-- ---- what was assigned

-- the assignment is of this name
abbrev pub is_named : List ℕ → Assignment → Bool
is_named name a = bytes_eq a.name.now name

-- what lines have assigned under a name
abbrev pub held_under : List ℕ → List Assignment → Option Held
held_under name [] = None
held_under name (a ∷ assigned) = if is_named name a then Some a.held else held_under name assigned

-- the assignments after one more: in place of what the name had, or after all others if it had nothing
abbrev pub assigned_to : Bor (List ℕ) → Held → List Assignment → List Assignment
assigned_to name h [] = record { name = name; held = h } ∷ []
assigned_to name h (a ∷ assigned) =
    if is_named name.now a then record { name = a.name; held = h } ∷ assigned else a ∷ assigned_to name h assigned

-- what is assigned once what was found under a name is taken out: a number stands in its place
abbrev pub IsTaken : Bor (List ℕ) → Option Held → List Assignment → List Assignment → Type 0
IsTaken name (Some h) before after = after ≡ assigned_to name (held.Number (pos 0)) before
IsTaken name None before after = after ≡ before

-- what a line assigned stands for what a register holds
abbrev pub HoldsContent : LeafTable → Held → Content → Type 0
HoldsContent leaves (held.Handle h) c = (t : Tree) × (c ≡ handle t) × Stands leaves h t
HoldsContent leaves (held.Number n) c = c ≡ value (values.Boxed (num.J n))

-- what is found under a name stands for what was assigned last under it; if nothing was assigned, nothing is found
abbrev pub HoldsLast : LeafTable → Option Held → Option Content → Type 0
HoldsLast leaves (Some h) (Some c) = HoldsContent leaves h c
HoldsLast leaves None None = Unit {0}
HoldsLast leaves _ _ = ⊥

-- under each name is what was assigned last under it
pub record HoldEach (leaves : LeafTable) (assigned : List Assignment) (meant : List (List ℕ × Content)) : Type 0 where
  pub under : (name : List ℕ) → HoldsLast leaves (held_under name assigned) (last_assigned name meant)

-- ---- frames

-- if the static argument is a leaf, it is one of the table
abbrev pub IsLeafWithin : LeafTable → Argument → Type 0
IsLeafWithin leaves (argument.Leaf l) = l.0 < length leaves.leaves
IsLeafWithin leaves _ = Unit {0}

-- the static arguments that are leaves are leaves of the table
abbrev pub HasLeaves : LeafTable → BootstrapCall → Type 0
HasLeaves leaves call = (n : ℕ) (a : Argument) → slice_get call.arguments n ≡ Some a → IsLeafWithin leaves a

-- the registers stand for a frame
pub record Hold (leaves : LeafTable) (registers : Registers) (frame : Frame) : Type 0 where
  pub call : frame.call ≡ registers.call.now
  pub serial : frame.serial ≡ registers.serial
  pub arguments : HasLeaves leaves registers.call.now
  pub assigned : HoldEach leaves registers.assigned.items frame.assigned

-- the registers stand for some frame
abbrev pub HoldSome : LeafTable → Registers → Type 0
HoldSome leaves registers = (frame : Frame) × Hold leaves registers frame

-- the registers hold the same
pub record HoldSame (old new : Registers) : Type 0 where
  pub call : new.call ≡ old.call
  pub serial : new.serial ≡ old.serial
  pub assigned : new.assigned.items ≡ old.assigned.items

-- the registers hold the same under every name except this one
pub record HoldOthers (name : List ℕ) (old new : Registers) : Type 0 where
  pub call : new.call ≡ old.call
  pub serial : new.serial ≡ old.serial
  pub under : (other : List ℕ) → bytes_eq name other ≡ false → held_under other new.assigned.items ≡ held_under other old.assigned.items

-- there is room for one more name
abbrev pub HasRoomForName : Registers → Type 0
HasRoomForName registers = vec_len registers.assigned < vec_capacity registers.assigned

-- ---- what a register holds

-- what was found in a register stands for what it holds
abbrev pub IsContent : LeafTable → Found → Content → Type 0
IsContent leaves (found.Handle o) c = (t : Tree) × (c ≡ handle t) × StandsFor leaves o t
IsContent leaves (found.Value v) c = c ≡ value v
IsContent leaves (found.MethodType t) c = c ≡ method_type t.now
IsContent leaves (found.Class t) c = c ≡ class t

-- ---- nodes that uses make

-- the node that the use of an operand makes: that of a leaf, because its handle is made only then
abbrev pub node_made : HandleOperand → List Tree
node_made (operand.Leaf l) = tree.Leaf l ∷ []
node_made (operand.Held h) = []

-- the same for what a register holds
abbrev pub node_held : Found → List Tree
node_held (found.Handle o) = node_made o
node_held other = []

-- ---- what the seat of types holds

-- if the operand is a held handle, the seat holds its types
abbrev pub IsHeldIn : SeatView → HandleOperand → Type 0
IsHeldIn seat (operand.Held h) = AreHeld seat h.now.held
IsHeldIn seat (operand.Leaf l) = Unit {0}

-- the same for what was found in a register
abbrev pub IsFoundIn : SeatView → Found → Type 0
IsFoundIn seat (found.Handle o) = IsHeldIn seat o
IsFoundIn seat other = Unit {0}

-- the holds of what a line assigned: those of a handle
abbrev pub holds_of : Held → List HoldView
holds_of (held.Handle h) = h.held
holds_of (held.Number n) = []

-- the holds of all that lines have assigned
abbrev pub holds_in : List Assignment → List HoldView
holds_in assigned = flat_map (λ a. holds_of a.held) assigned

-- the seat holds the types of what a line assigned
abbrev pub IsKeptIn : SeatView → Held → Type 0
IsKeptIn seat h = AreHeld seat (holds_of h)

-- the seat holds the types of all handles that registers hold, each as often as it occurs
abbrev pub AreHeldBy : SeatView → Registers → Type 0
AreHeldBy seat registers = AreHeld seat (holds_in registers.assigned.items)

-- ---- classes

-- the class of a register
abbrev pub class_in : Frame → Register → OrThrown Ty
class_in frame r = content frame r >>= as_class
