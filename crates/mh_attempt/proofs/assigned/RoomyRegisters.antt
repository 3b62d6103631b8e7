-- What a line leaves, and registers with room for one name more.
use denote.Ref.{Bor}
use Rattle.std.proofs.Common.{◌≡◌, sym, subst, ℕ, List, [], ◌++◌, Result}
use Rattle.mh_intern.specs.Exchanges.{AreHeld, Exchanges}
use Rattle.mh_intern.specs.Views.{HoldView}
use Rattle.mh_leaf.specs.LeafTable.{LeafTable}
use Rattle.mh_handle.specs.declared.error.HandleError.{HandleError}
use Rattle.mh_handle.specs.declared.handle.Handle.{Handle}
use Rattle.mh_handle.specs.declared.work.Work.{Work}
use Rattle.mh_handle.specs.Works.{GoesOn, HoldsTypes, IsUnchanged}
use Rattle.mh_script.specs.declared.script.Operation.{Operation}
use Rattle.mh_attempt.specs.declared.registers.Held.{Held}
use Rattle.mh_attempt.specs.declared.registers.Registers.{Registers}
use Rattle.mh_link.specs.Operands.{Frame}
use Rattle.mh_attempt.specs.Operations.{MakesOperation}
use Rattle.mh_attempt.specs.Registers.{AreHeldBy, Hold, HoldOthers, HoldSame, HoldSome, assigned_to, holds_in, holds_of}
use Rattle.mh_attempt.specs.Runs.{Replaces, ReplacesTypes}
use Rattle.mh_attempt.proofs.types.Adding.{adds-none}
use Rattle.mh_attempt.proofs.types.Replacing.{replaces-held, replaces-more, replaces-none}
use Rattle.mh_attempt.proofs.assigned.RunRegisters.{same-hold}

-- what the operation of a line leaves, whose handle the register of this name gets
pub record MakesLine (name : List ℕ) (registers left : Registers) (op : Operation) (old new : Work) (r : Result Handle HandleError) : Type 0 where
  pub goes_on : GoesOn 4 old new
  pub types : ReplacesTypes registers left old new r
  pub others : HoldOthers name registers left
  pub line : (frame : Frame) → Hold old.leaves.now registers frame → MakesOperation frame op old new r

-- what the assignment of a register leaves
pub record Assigns (name : Bor (List ℕ)) (h : Held) (before after : Registers) (old new : Work) : Type 0 where
  pub call : after.call ≡ before.call
  pub serial : after.serial ≡ before.serial
  pub assigned : after.assigned.items ≡ assigned_to name h before.assigned.items
  pub unchanged : IsUnchanged old new
  pub types : Exchanges [] (holds_in before.assigned.items ++ holds_of h) (holds_in after.assigned.items) old.seat.now new.seat.now

-- ---- registers with room for one name more

pub roomy-some : (leaves : LeafTable) (before roomy : Registers) → HoldSame before roomy → HoldSome leaves before → HoldSome leaves roomy
roomy-some leaves before roomy same some = (some.0, same-hold leaves before roomy some.0 same some.1)

pub roomy-kept : (w : Work) (before roomy : Registers) → HoldSame before roomy → AreHeldBy w.seat.now before → AreHeldBy w.seat.now roomy
roomy-kept w before roomy same kept = subst (λ l. AreHeld w.seat.now (holds_in l)) (sym same.assigned) kept

pub roomy-replaces : (w : Work) (before roomy : Registers) → HoldSame before roomy → AreHeldBy w.seat.now before →
    Replaces (holds_in before.assigned.items) (holds_in roomy.assigned.items) w w
roomy-replaces w before roomy same kept =
    subst (λ l. Replaces (holds_in before.assigned.items) (holds_in l) w w) (sym same.assigned) (replaces-none (holds_in before.assigned.items) w kept)

-- what the line changes, it changes from what the registers had before
pub roomy-then : (before roomy : Registers) (came : List HoldView) (old new : Work) → HoldSame before roomy →
    Replaces (holds_in roomy.assigned.items) came old new → Replaces (holds_in before.assigned.items) came old new
roomy-then before roomy came old new same x = subst (λ l. Replaces (holds_in l) came old new) same.assigned x

-- the types of a handle that a line made, and of what registers are left with
pub made-kept : (before roomy left : Registers) (h : Handle) (old new : Work) → HoldSame before roomy → AreHeldBy old.seat.now before →
    Replaces (holds_in roomy.assigned.items) (holds_in left.assigned.items ++ h.held) old new → HoldsTypes new (holds_in left.assigned.items ++ h.held)
made-kept before roomy left h old new same kept x =
    let came = holds_in left.assigned.items ++ h.held in
    replaces-held (holds_in before.assigned.items) came old new kept (roomy-then before roomy came old new same x)

pub number-kept : (before roomy : Registers) (w : Work) → HoldSame before roomy → AreHeldBy w.seat.now before →
    HoldsTypes w (holds_in roomy.assigned.items ++ [])
number-kept before roomy w same kept =
    replaces-held (holds_in before.assigned.items) (holds_in roomy.assigned.items ++ []) w w kept
    (replaces-more (holds_in before.assigned.items) (holds_in roomy.assigned.items) [] w w w (roomy-replaces w before roomy same kept) (adds-none w))
