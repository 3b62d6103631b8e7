-- The last line ends its script.
use denote.Ref.{Bor}
use Rattle.std.proofs.Common.{◌≡◌, subst, ℕ, ◌+◌, ◌*◌, ◌≤◌, List, [], Result}
use Rattle.mh_leaf.specs.LeafTable.{LeafTable}
use Rattle.mh_handle.specs.declared.error.HandleError.{HandleError}
use Rattle.mh_handle.specs.declared.handle.Handle.{Handle}
use Rattle.mh_handle.specs.declared.work.Work.{Work}
use Rattle.mh_handle.specs.Works.{GoesOn}
use Rattle.mh_handle.proofs.obeying.Rooms.{goes_on-sum}
use Rattle.mh_script.specs.declared.script.End.{End}
use Rattle.mh_script.specs.declared.script.Step.{Step}
use Rattle.mh_attempt.specs.declared.registers.Registers.{Registers}
use Rattle.mh_link.specs.Linked.{ended}
use Rattle.mh_link.specs.Operands.{Frame}
use Rattle.mh_attempt.specs.Asked.{AsksOrThrows}
use Rattle.mh_attempt.specs.AskedTypes.{AsksTypesOrThrows, end_types}
use Rattle.mh_attempt.specs.Lines.{MakesNode}
use Rattle.mh_attempt.specs.Recipes.{end_recipes}
use Rattle.mh_attempt.specs.Registers.{Hold}
use Rattle.mh_attempt.specs.Runs.{ReplacesTypes, Runs, draws}
use Rattle.mh_attempt.proofs.running.LastUses.{then-replaces}
use Rattle.mh_attempt.proofs.running.RunLines.{HasRun}
use Rattle.mh_attempt.proofs.running.Running.{told-node}
use Rattle.mh_attempt.proofs.running.RunFails.{Says, all-says}

-- ---- the last line

-- what the last line leaves
pub record Ends (e : End) (registers after : Registers) (old new : Work) (r : Result Handle HandleError) : Type 0 where
  pub goes_on : GoesOn 1 old new
  pub types : ReplacesTypes registers after old new r
  pub node : (frame : Frame) → Hold old.leaves.now registers frame → MakesNode (ended old.leaves.now e frame) old new r
  pub asks : (frame : Frame) → Hold old.leaves.now registers frame → AsksOrThrows (end_recipes old.leaves.now e frame) old new r
  pub asked : (frame : Frame) → Hold old.leaves.now registers frame → AsksTypesOrThrows (end_types old.leaves.now e frame) old new r

ends-says : (e : End) (registers after : Registers) (old mid new : Work) (r : Result Handle HandleError) → mid.leaves ≡ old.leaves →
    Ends e registers after mid new r → (frame : Frame) → Hold old.leaves.now registers frame → Says old.leaves.now [] e frame mid new r
ends-says e registers after old mid new r same ends =
    subst (λ (leaves : Bor LeafTable). (frame : Frame) → Hold leaves.now registers frame → Says leaves.now [] e frame mid new r) same
    (λ frame hold. record {
      target = told-node (ended mid.leaves.now e frame) mid new r (ends.node frame hold);
      asks = ends.asks frame hold;
      asked = ends.asked frame hold;
    })

-- no other line is left
pub run-ends : (lines : ℕ) (steps : List Step) (e : End) (before mid after : Registers) (old now new : Work) (r : Result Handle HandleError) →
    4 * lines + 1 ≤ draws steps → HasRun lines steps [] e before mid old now → Ends e mid after now new r → Runs steps e before after old new r
run-ends lines steps e before mid after old now new r few so_far ends =
    let says : (frame : Frame) → Hold old.leaves.now before frame → Says old.leaves.now steps e frame old new r = λ frame hold.
    let at = so_far.reaches frame hold in
    all-says steps [] e frame mid old now new r so_far.goes_on.leaves at
    (ends-says e mid after old now new r so_far.goes_on.leaves ends at.reached at.holds) in
    record {
      goes_on = goes_on-sum (4 * lines) 1 (draws steps) old now new few so_far.goes_on ends.goes_on;
      types = then-replaces before mid after old now new r so_far.types ends.types;
      target = λ frame hold. (says frame hold).target;
      asks = λ frame hold. (says frame hold).asks;
      asked = λ frame hold. (says frame hold).asked;
    }
