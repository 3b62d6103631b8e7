-- Nodes that are asked for, and their operands.
use Rattle.std.proofs.Common.{◌≡◌, sym, subst, List, Result}
use Rattle.mh_intern.specs.Views.{SeatView}
use Rattle.mh_leaf.specs.LeafTable.{LeafTable}
use Rattle.mh_tree.specs.Tree.{Tree}
use Rattle.mh_handle.specs.declared.error.HandleError.{HandleError}
use Rattle.mh_handle.specs.declared.handle.Handle.{Handle}
use Rattle.mh_handle.specs.declared.work.Work.{Work}
use Rattle.mh_jobs.specs.Thrown.{OrThrown}
use Rattle.mh_attempt.specs.declared.lines.nodes.Node.{Node}
use Rattle.mh_attempt.specs.declared.lines.nodes.Node.TheVariants as node
use Rattle.mh_attempt.specs.Nodes.{AreHeldIn, AreOperands, IsAsked, parts_of}
use Rattle.mh_attempt.specs.Operations.{MakesAsked}
use Rattle.mh_attempt.proofs.nodes.SwitchNodes.{all-operands}

-- handles can be made of the operands
pub are-operands : (leaves : LeafTable) (seat : SeatView) (n : Node) (m : OrThrown Tree) (itself : Tree → List Tree) → IsAsked leaves n m itself →
    AreHeldIn seat n → AreOperands leaves seat n
are-operands leaves seat (node.Leaf l) m itself is held = is.0
are-operands leaves seat (node.Constant ty v) m itself is held = tt
are-operands leaves seat (node.Identity ty) m itself is held = tt
are-operands leaves seat (node.Throw ret class) m itself is held = tt
are-operands leaves seat (node.One h by) m itself is held = record { stands = (is.0, is.1); held = held }
are-operands leaves seat (node.Two h by k) m itself is held =
    (record { stands = (is.0, is.2); held = held.0 }, record { stands = (is.1, is.3); held = held.1 })
are-operands leaves seat (node.Three f by h k) m itself is held =
    (record { stands = (is.0, is.3); held = held.0 }, record { stands = (is.1, is.4); held = held.1 }, record { stands = (is.2, is.5); held = held.2 })
are-operands leaves seat (node.Switch h os) m itself is held =
    (record { stands = (is.0, is.2); held = held.0 }, all-operands leaves seat os is.1 is.3 held.1)
are-operands leaves seat (node.Spread h array count) m itself is held = record { stands = (is.0, is.1); held = held }
are-operands leaves seat (node.Use h by asked) m itself is held = record { stands = (is.0, is.1); held = held }

-- where the node is known
pub made-for : (old new : Work) (r : Result Handle HandleError) (n known : Node) (m : OrThrown Tree) (itself : Tree → List Tree) → n ≡ known →
    (IsAsked old.leaves.now known m itself → MakesAsked (parts_of known) m itself old new r) → IsAsked old.leaves.now n m itself →
    MakesAsked (parts_of n) m itself old new r
made-for old new r n known m itself is makes =
    subst (λ x. IsAsked old.leaves.now x m itself → MakesAsked (parts_of x) m itself old new r) (sym is) makes
