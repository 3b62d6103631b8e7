-- Lines that are not carried out.
use Rattle.std.proofs.Common.{◌≡◌, refl, sym, ◌∙◌, subst, ℕ, List, [], Result, Ok, Err}
use Rattle.std.specs.Prelude.{IsErrAnd}
use Rattle.mh_leaf.specs.LeafTable.{LeafTable}
use Rattle.mh_tree.specs.declared.error.CheckError.{CheckError}
use Rattle.mh_tree.specs.declared.error.CheckError.TheVariants as check
use Rattle.mh_handle.specs.declared.error.HandleError.{HandleError}
use Rattle.mh_handle.specs.declared.error.HandleError.TheVariants.{NoMemory, FormsFull, TypesFull, Refused}
use Rattle.mh_handle.specs.declared.handle.Handle.{Handle}
use Rattle.mh_handle.specs.declared.work.Work.{Work}
use Rattle.mh_handle.specs.Errors.{of_check}
use Rattle.mh_handle.specs.Works.{GoesOn}
use Rattle.mh_handle.proofs.obeying.Rooms.{goes_on-none}
use Rattle.mh_script.specs.declared.script.Operation.{Operation}
use Rattle.mh_script.specs.declared.script.Step.{Step}
use Rattle.mh_script.specs.declared.script.Step.TheVariants as step
use Rattle.mh_attempt.specs.declared.registers.Registers.{Registers}
use Rattle.mh_jobs.specs.Thrown.{OrThrown}
use Rattle.mh_link.specs.Linked.{stepped}
use Rattle.mh_link.specs.Operands.{Frame}
use Rattle.mh_link.specs.Operations.{node_of}
use Rattle.mh_attempt.specs.Asked.{AsksOrThrows}
use Rattle.mh_attempt.specs.AskedTypes.{AsksTypesOrThrows}
use Rattle.mh_attempt.specs.Lines.{MakesNode, passes}
use Rattle.mh_attempt.specs.Registers.{AreHeldBy, Hold, HoldSame, holds_in}
use Rattle.mh_attempt.specs.Runs.{Replaces, RunsStep, TellsStep, step_recipes, step_types}
use Rattle.mh_attempt.specs.Told.{Tells}
use Rattle.mh_attempt.proofs.asked.AskedAfter.{asked_more-none}
use Rattle.mh_attempt.proofs.asked.AskedLines.{asks-error}
use Rattle.mh_attempt.proofs.types.AskingTypes.{no_other-still, types-handed}
use Rattle.mh_attempt.proofs.types.Replacing.{replaces-none}
use Rattle.mh_attempt.proofs.assigned.RunRegisters.{same-hold}
use Rattle.mh_attempt.proofs.running.Running.{let-thrown, pass-thrown}
use Rattle.mh_attempt.proofs.assigned.RoomyRegisters.{MakesLine, roomy-replaces, roomy-then}

-- ---- a line that is not carried out

-- what it tells and asks
pub record Fails (s : Step) (before after : Registers) (old new : Work) (error : HandleError) : Type 0 where
  pub told : (frame : Frame) → Hold old.leaves.now before frame → TellsStep old.leaves.now (stepped old.leaves.now s frame) after (Err error)
  pub asks : (frame : Frame) → Hold old.leaves.now before frame → AsksOrThrows {A = Handle} (step_recipes old.leaves.now s frame) old new (Err error)
  pub asked : (frame : Frame) → Hold old.leaves.now before frame → AsksTypesOrThrows {A = Handle} (step_types old.leaves.now s frame) old new (Err error)

tells-error : (leaves : LeafTable) (next : OrThrown Frame) (after : Registers) (error : HandleError) (r : Result (Unit {0}) HandleError) →
    IsErrAnd r (λ x. x ≡ error) → TellsStep leaves next after (Err error) → TellsStep leaves next after r
tells-error leaves next after error (Ok u) is tells = absurd is
tells-error leaves next after error (Err x) is tells = subst (λ y. TellsStep leaves next after (Err y)) (sym is) tells

step-fails : (s : Step) (before after : Registers) (old new : Work) (error : HandleError) (r : Result (Unit {0}) HandleError) → IsErrAnd r (λ x. x ≡ error) →
    GoesOn 4 old new → Replaces (holds_in before.assigned.items) (holds_in after.assigned.items) old new → after.serial ≡ before.serial →
    Fails s before after old new error → RunsStep s before after old new r
step-fails s before after old new error r is goes types serial fails =
    let leaves = old.leaves.now in
    record {
      goes_on = goes;
      types = types;
      serial = serial;
      told = λ frame hold. tells-error leaves (stepped leaves s frame) after error r is (fails.told frame hold);
      asks = λ frame hold. asks-error Handle (step_recipes leaves s frame) old new error r is (fails.asks frame hold);
      asked = λ frame hold. types-handed Handle (step_types leaves s frame) old new error r is (fails.asked frame hold);
    }

-- no memory was left for a name
pub reserve-fails : (s : Step) (before after : Registers) (w : Work) (r : Result (Unit {0}) HandleError) → IsErrAnd r (λ x. x ≡ NoMemory) →
    HoldSame before after → AreHeldBy w.seat.now before → RunsStep s before after w w r
reserve-fails s before after w r is same kept =
    step-fails s before after w w NoMemory r is (goes_on-none 4 w) (roomy-replaces w before after same kept) same.serial (record {
      told = λ frame hold. tt;
      asks = λ frame hold. tt;
      asked = λ frame hold. no_other-still (step_types w.leaves.now s frame) w.seat.now;
    })

-- no node was made
pub node-fails : (name : List ℕ) (op : Operation) (at : List ℕ) (before roomy left : Registers) (old new : Work) (error : HandleError)
    (r : Result (Unit {0}) HandleError) → IsErrAnd r (λ x. x ≡ error) → HoldSame before roomy → MakesLine at roomy left op old new (Err error) →
    RunsStep (step.Let name op) before left old new r
node-fails name op at before roomy left old new error r is same made =
    let leaves = old.leaves.now in
    step-fails (step.Let name op) before left old new error r is made.goes_on
    (roomy-then before roomy (holds_in left.assigned.items) old new same made.types) (made.others.serial ∙ same.serial) (record {
      told = λ frame hold. cases frame error ((made.line frame (same-hold leaves before roomy frame same hold)).node);
      asks = λ frame hold. (made.line frame (same-hold leaves before roomy frame same hold)).asks;
      asked = λ frame hold. (made.line frame (same-hold leaves before roomy frame same hold)).asked;
    })
  where
    cases : (frame : Frame) (x : HandleError) → MakesNode (node_of old.leaves.now frame op) old new (Err x) →
        TellsStep old.leaves.now (stepped old.leaves.now (step.Let name op) frame) left (Err x)
    cases frame (Refused exc) makes = let-thrown old.leaves.now name op frame exc makes.0
    cases frame (FormsFull drawn) makes = tt
    cases frame (TypesFull bucket) makes = tt
    cases frame NoMemory makes = tt

-- the number of the attempt has the remainder that fails
pub pass-fails : (modulus remainder : ℕ) (registers : Registers) (w : Work) (error : CheckError) (r : Result (Unit {0}) HandleError) →
    IsErrAnd r (λ x. x ≡ of_check error) → AreHeldBy w.seat.now registers → Tells {A = Unit {0}} (Err error) (passes registers.serial modulus remainder) →
    RunsStep (step.FailMod modulus remainder) registers registers w w r
pass-fails modulus remainder registers w error r is kept tells =
    step-fails (step.FailMod modulus remainder) registers registers w w (of_check error) r is (goes_on-none 4 w)
    (replaces-none (holds_in registers.assigned.items) w kept) refl (cases error tells)
  where
    cases : (x : CheckError) → Tells {A = Unit {0}} (Err x) (passes registers.serial modulus remainder) →
        Fails (step.FailMod modulus remainder) registers registers w w (of_check x)
    cases (check.Refused exc) thrown = record {
      told = λ frame hold. pass-thrown w.leaves.now modulus remainder registers.serial frame exc hold.serial thrown;
      asks = λ frame hold. asked_more-none w.pass.now;
      asked = λ frame hold. no_other-still [] w.seat.now;
    }
    cases check.NoMemory thrown = record {
      told = λ frame hold. tt;
      asks = λ frame hold. tt;
      asked = λ frame hold. no_other-still [] w.seat.now;
    }
