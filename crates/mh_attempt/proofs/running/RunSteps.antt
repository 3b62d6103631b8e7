-- Lines that are carried out.
use denote.Ref.{Bor}
use Rattle.std.proofs.Common.{◌≡◌, refl, ◌∙◌, subst, ℕ, ◌<◌, ◌^◌, List, [], ◌++◌, Ok, to_z, w64}
use Rattle.mh_handle.specs.declared.handle.Handle.{Handle}
use Rattle.mh_handle.specs.declared.work.Work.{Work}
use Rattle.mh_handle.proofs.obeying.Going.{goes_on-before}
use Rattle.mh_handle.proofs.obeying.Rooms.{goes_on-none}
use Rattle.mh_script.specs.declared.script.Operation.{Operation}
use Rattle.mh_script.specs.declared.script.Step.TheVariants as step
use Rattle.mh_attempt.specs.declared.registers.Held.TheVariants as held
use Rattle.mh_attempt.specs.declared.registers.Registers.{Registers}
use Rattle.mh_link.specs.Linked.{assigning}
use Rattle.mh_link.specs.Operands.{handle}
use Rattle.mh_attempt.specs.AskedTypes.{line_types}
use Rattle.mh_attempt.specs.Lines.{passes}
use Rattle.mh_attempt.specs.Recipes.{line_recipes}
use Rattle.mh_attempt.specs.Registers.{AreHeldBy, Hold, HoldSame, holds_in}
use Rattle.mh_attempt.specs.Runs.{RunsStep}
use Rattle.mh_attempt.proofs.types.Adding.{adds-none}
use Rattle.mh_attempt.proofs.asked.AskedAfter.{asked_more-none}
use Rattle.mh_attempt.proofs.asked.AskedLines.{asks-given_back}
use Rattle.mh_attempt.proofs.types.AskingRuns.{no_other-back}
use Rattle.mh_attempt.proofs.types.AskingTypes.{no_other-still}
use Rattle.mh_attempt.proofs.assigned.RegisterTypes.{assigned-seated}
use Rattle.mh_attempt.proofs.types.Replacing.{replaces-more, replaces-none, replaces-then}
use Rattle.mh_attempt.proofs.assigned.RunRegisters.{assigned-hold, number-held, numbered, same-hold}
use Rattle.mh_attempt.proofs.running.Running.{let-made, pass-stepped}
use Rattle.mh_attempt.proofs.assigned.RoomyRegisters.{MakesLine, Assigns, roomy-replaces, roomy-then}
use Rattle.mh_attempt.proofs.assigned.OtherRegisters.{over-hold}

-- ---- a line that is carried out

pub let-runs : (name : List ℕ) (op : Operation) (at : Bor (List ℕ)) (h : Handle) (before roomy left after : Registers) (old mid new : Work) → at.now ≡ name →
    HoldSame before roomy → AreHeldBy old.seat.now before → MakesLine at.now roomy left op old mid (Ok h) → Assigns at (held.Handle h) left after mid new →
    RunsStep (step.Let name op) before after old new (Ok tt)
let-runs name op at h before roomy left after old mid new named same kept made assigns =
    let leaves = old.leaves.now in
    let came = holds_in left.assigned.items ++ h.held in
    record {
      goes_on =
          goes_on-before 4 old mid new made.goes_on assigns.unchanged
          (assigned-seated at (held.Handle h) left.assigned.items after.assigned.items mid new assigns.assigned assigns.types);
      types =
          replaces-then (holds_in before.assigned.items) came (holds_in after.assigned.items) old mid new
          (roomy-then before roomy came old mid same made.types) ([], assigns.types);
      serial = assigns.serial ∙ (made.others.serial ∙ same.serial);
      told = λ frame hold.
          let over = same-hold leaves before roomy frame same hold in
          let node = (made.line frame over).node in (
            assigning name (handle node.0) frame,
            let-made leaves name op frame node.0 node.1,
            subst (λ n. Hold leaves after (assigning n (handle node.0) frame)) named
                (over-hold leaves roomy left after at (held.Handle h) frame (handle node.0) made.others assigns.call assigns.serial assigns.assigned over
                (node.0, refl, node.2)),
          );
      asks = λ frame hold.
          asks-given_back {A = Unit {0}} (line_recipes leaves frame op) old mid new (Ok tt) assigns.unchanged.pass
          (made.line frame (same-hold leaves before roomy frame same hold)).asks;
      asked = λ frame hold.
          no_other-back (line_types leaves frame op) came (holds_in after.assigned.items) old.seat.now mid.seat.now
          new.seat.now (made.line frame (same-hold leaves before roomy frame same hold)).asked assigns.types;
    }

pub serial-runs : (name : List ℕ) (at : Bor (List ℕ)) (before roomy after : Registers) (old new : Work) → at.now ≡ name → HoldSame before roomy →
    AreHeldBy old.seat.now before → roomy.serial < 2 ^ 63 → Assigns at (held.Number (to_z w64 roomy.serial)) roomy after old new →
    RunsStep (step.Serial name) before after old new (Ok tt)
serial-runs name at before roomy after old new named same kept low assigns =
    let leaves = old.leaves.now in
    let number = held.Number (to_z w64 roomy.serial) in
    record {
      goes_on =
          goes_on-before 4 old old new (goes_on-none 4 old) assigns.unchanged
          (assigned-seated at number roomy.assigned.items after.assigned.items old new assigns.assigned assigns.types);
      types =
          replaces-then (holds_in before.assigned.items) (holds_in roomy.assigned.items ++ []) (holds_in after.assigned.items) old old new
          (replaces-more (holds_in before.assigned.items) (holds_in roomy.assigned.items) [] old old old (roomy-replaces old before roomy same kept)
          (adds-none old)) ([], assigns.types);
      serial = assigns.serial ∙ same.serial;
      told = λ frame hold.
          let over = same-hold leaves before roomy frame same hold in (
            assigning name (numbered frame.serial) frame,
            refl,
            subst (λ n. Hold leaves after (assigning n (numbered frame.serial) frame)) named
                (assigned-hold leaves roomy after at number frame (numbered frame.serial) assigns.call assigns.serial assigns.assigned over
                (number-held leaves roomy frame over low)),
          );
      asks = λ frame hold. asks-given_back {A = Unit {0}} [] old old new (Ok tt) assigns.unchanged.pass (asked_more-none old.pass.now);
      asked = λ frame hold.
          no_other-back [] (holds_in roomy.assigned.items ++ []) (holds_in after.assigned.items) old.seat.now old.seat.now new.seat.now
          (no_other-still [] old.seat.now) assigns.types;
    }

pub pass-runs : (modulus remainder : ℕ) (registers : Registers) (w : Work) (u : Unit {0}) → AreHeldBy w.seat.now registers →
    passes registers.serial modulus remainder ≡ Ok u → RunsStep (step.FailMod modulus remainder) registers registers w w (Ok tt)
pass-runs modulus remainder registers w u kept passed = record {
  goes_on = goes_on-none 4 w;
  types = replaces-none (holds_in registers.assigned.items) w kept;
  serial = refl;
  told = λ frame hold. (frame, pass-stepped w.leaves.now modulus remainder registers.serial frame u hold.serial passed, hold);
  asks = λ frame hold. asked_more-none w.pass.now;
  asked = λ frame hold. no_other-still [] w.seat.now;
}
