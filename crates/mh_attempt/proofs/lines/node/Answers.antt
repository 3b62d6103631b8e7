use Rattle.mh_attempt.specs.Nodes.{parts_of}
use Rattle.mh_attempt.proofs.nodes.MadeOperations.{operation-made, operation-refused}
use Rattle.mh_attempt.proofs.nodes.NodeOperands.{are-operands}
use Rattle.mh_attempt.proofs.nodes.Pairs.{pair-operation}
use Rattle.mh_attempt.proofs.running.LastUses.{made-replaces, same-replaces}
use Rattle.mh_attempt.proofs.lines.node.Goals as goal

-- ---- something is joined to the register's own handle

pub returns-in-Some-clause-line : goal.returns-in-Some-clause-line
returns-in-Some-clause-line g c frame hold =
    pair-operation frame c.args.operation.now c.args.name.now c.in-Some.with.0 c.in-Some.with.1.now c.args.w.now c.join_again.new.w c.join_again.result
    c.in-Some.ensures (c.join_again.ensures.made frame hold)

-- ---- every other operation

pub returns-in_err-node-in-None-clause-line : goal.returns-in_err-node-in-None-clause-line
returns-in_err-node-in-None-clause-line g c frame hold =
    operation-refused frame c.args.operation.now c.args.w.now c.in_err-node-in-None.field-0.0 c.from_residual.result c.from_residual.ensures.1
    (c.in_err-node-in-None.ensures.asked frame hold)

pub returns-in_err-node-in-None-clause-types : goal.returns-in_err-node-in-None-clause-types
returns-in_err-node-in-None-clause-types g c =
    same-replaces c.args.registers.now c.args.w.now c.from_residual.result _ c.from_residual.ensures.1 c.requires.kept

pub make_node-requires-clause-operands : goal.make_node-requires-clause-operands
make_node-requires-clause-operands g c =
    are-operands c.args.w.now.leaves.now c.args.w.now.seat.now c.in_ok-node-in-None.node _ _
    (c.in_ok-node-in-None.ensures.asked c.requires.registers.0 c.requires.registers.1)
    (c.in_ok-node-in-None.ensures.kept c.args.w.now.seat.now c.requires.kept)

pub returns-in_ok-node-in-None-clause-goes_on : goal.returns-in_ok-node-in-None-clause-goes_on
returns-in_ok-node-in-None-clause-goes_on g c =
    (c.make_node.ensures _ _ (c.in_ok-node-in-None.ensures.asked c.requires.registers.0 c.requires.registers.1)).goes_on

pub returns-in_ok-node-in-None-clause-types : goal.returns-in_ok-node-in-None-clause-types
returns-in_ok-node-in-None-clause-types g c =
    made-replaces c.args.registers.now c.args.w.now c.make_node.new.w c.make_node.result c.requires.kept
    (c.make_node.ensures _ _ (c.in_ok-node-in-None.ensures.asked c.requires.registers.0 c.requires.registers.1)).types

pub returns-in_ok-node-in-None-clause-line : goal.returns-in_ok-node-in-None-clause-line
returns-in_ok-node-in-None-clause-line g c frame hold =
    operation-made frame c.args.operation.now (parts_of c.in_ok-node-in-None.node) c.args.w.now c.make_node.new.w c.make_node.result
    (c.in_ok-node-in-None.ensures.makes c.args.w.now.leaves.now frame hold)
    (c.make_node.ensures _ _ (c.in_ok-node-in-None.ensures.asked frame hold))
