-- Which types the operation of a line asks for.
use Rattle.std.proofs.Common.{◌≡◌, sym, subst, List, ◌++◌, flat_map, Result}
use Rattle.mh_leaf.specs.LeafTable.{LeafTable}
use Rattle.mh_tree.specs.Tree.{Tree}
use Rattle.mh_handle.specs.declared.error.HandleError.{HandleError}
use Rattle.mh_handle.specs.declared.handle.Handle.{Handle}
use Rattle.mh_handle.specs.declared.work.Work.{Work}
use Rattle.mh_jobs.specs.Thrown.{OrThrown}
use Rattle.mh_script.specs.declared.script.Operation.{Operation}
use Rattle.mh_link.specs.Made.{handles_of, nodes_of, nodes_of_uses, types_of, unless_thrown}
use Rattle.mh_link.specs.Operands.{Frame}
use Rattle.mh_link.specs.Operations.{node_of}
use Rattle.mh_attempt.specs.declared.handle.HandleOperand.{HandleOperand}
use Rattle.mh_attempt.specs.AskedTypes.{AsksTypesOrThrows, line_types, node_types}
use Rattle.mh_attempt.specs.Registers.{node_made}

-- what is asked for where operands are found, and then a node of them is made or thrown
pub line-types : (leaves : LeafTable) (frame : Frame) (op : Operation) (operands : List HandleOperand) (node : OrThrown Tree) (old new : Work)
    (r : Result Handle HandleError) → flat_map node_made operands ≡ nodes_of_uses frame (handles_of op) → node_of leaves frame op ≡ node →
    AsksTypesOrThrows (node_types leaves operands node) old new r → AsksTypesOrThrows (line_types leaves frame op) old new r
line-types leaves frame op operands node old new r uses is asked =
    subst (λ used. AsksTypesOrThrows (types_of leaves (unless_thrown (node_of leaves frame op) (λ u. used ++ nodes_of u))) old new r) uses
    (subst (λ m. AsksTypesOrThrows (node_types leaves operands m) old new r) (sym is) asked)
