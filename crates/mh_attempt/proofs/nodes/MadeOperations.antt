-- What the operation of a line leaves, whichever way it ends.
use Rattle.std.proofs.Common.{◌≡◌, refl, List, flat_map, Result, Err}
use Rattle.std.specs.Prelude.{IsErrAnd}
use Rattle.mh_tree.specs.declared.error.CheckError.{CheckError}
use Rattle.mh_handle.specs.declared.error.HandleError.{HandleError}
use Rattle.mh_handle.specs.declared.handle.Handle.{Handle}
use Rattle.mh_handle.specs.declared.work.Work.{Work}
use Rattle.mh_handle.specs.Errors.{of_check}
use Rattle.mh_jobs.specs.Thrown.{◌>>=◌}
use Rattle.mh_script.specs.declared.script.Operation.{Operation}
use Rattle.mh_link.specs.Made.{handles_of, nodes_of_uses}
use Rattle.mh_link.specs.Operands.{Frame}
use Rattle.mh_link.specs.Operations.{asked_by}
use Rattle.mh_attempt.specs.declared.handle.HandleOperand.{HandleOperand}
use Rattle.mh_attempt.specs.AskedTypes.{line_types}
use Rattle.mh_attempt.specs.Lines.{typed}
use Rattle.mh_attempt.specs.Nodes.{TellsNode}
use Rattle.mh_attempt.specs.Operations.{MakesAsked, MakesOperation}
use Rattle.mh_attempt.specs.Recipes.{asked_itself}
use Rattle.mh_attempt.specs.Registers.{node_made}
use Rattle.mh_attempt.proofs.asked.AskedOperations.{line-asks, line-thrown}
use Rattle.mh_attempt.proofs.types.AskingTypes.{types-refused}
use Rattle.mh_attempt.proofs.nodes.LineNodes.{error-node, thrown-node}
use Rattle.mh_attempt.proofs.types.LineTypes.{line-types}

module _ (frame : Frame) (op : Operation) where
  -- an operand throws
  pub operation-refused : (w : Work) (error : CheckError) (r : Result Handle HandleError) → IsErrAnd r (λ x. x ≡ of_check error) →
      TellsNode w.leaves.now (Err error) (asked_by w.leaves.now frame op) (asked_itself w.leaves.now frame op) → MakesOperation frame op w w r
  operation-refused w error r is told =
      let leaves = w.leaves.now in
      let node = error-node _ w w (of_check error) r is (thrown-node w error (asked_by leaves frame op) (asked_itself leaves frame op) told) in
      record {
        node = node;
        asks = line-thrown leaves frame op w w r node error is;
        asked = types-refused (line_types leaves frame op) w error r is;
      }

  -- operands are found, and what is asked for is made of them
  pub operation-made : (operands : List HandleOperand) (old new : Work) (r : Result Handle HandleError) →
      flat_map node_made operands ≡ nodes_of_uses frame (handles_of op) →
      MakesAsked operands (asked_by old.leaves.now frame op) (asked_itself old.leaves.now frame op) old new r → MakesOperation frame op old new r
  operation-made operands old new r uses makes =
      let leaves = old.leaves.now in
      record {
        node = makes.node;
        asks = line-asks leaves frame op old new r makes.node operands (asked_by leaves frame op) uses refl makes.asks;
        asked = line-types leaves frame op operands (asked_by leaves frame op >>= typed leaves) old new r uses refl makes.asked;
      }
