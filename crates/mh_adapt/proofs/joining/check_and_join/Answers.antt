use Rattle.std.proofs.Common.{◌++◌}
use Rattle.mh_tree.specs.Joints.{joint_row}
use Rattle.mh_handle.specs.Works.{types_in}
use Rattle.mh_handle.proofs.obeying.Obeying.{given-obeys}
use Rattle.mh_handle.proofs.holding.Trading.{trades-checked, trades-row}
use Rattle.mh_adapt.proofs.joining.check_and_join.Goals as goal

pub returns-in-Ok-clause-obeys : goal.returns-in-Ok-clause-obeys
returns-in-Ok-clause-obeys g c = given-obeys _ c.in-Ok.ty c.join.result c.in-Ok.ensures.tells c.join.ensures.accepted c.join.ensures.typed

pub returns-in-Ok-clause-types : goal.returns-in-Ok-clause-types
returns-in-Ok-clause-types g c =
    trades-row _ c.in-Ok.ty (c.args.target.held ++ c.args.part.held) c.args.w.now c.join.new.w c.join.result c.in-Ok.ensures.tells c.join.ensures.types

pub returns-in-Err-clause-types : goal.returns-in-Err-clause-types
returns-in-Err-clause-types g c =
    trades-checked (types_in (joint_row c.args.joint c.args.target.ty c.args.target.weight c.args.part.ty c.args.part.weight))
    (c.args.target.held ++ c.args.part.held) c.args.w.now c.refuse_with.new.w c.in-Err.error c.refuse_with.result c.refuse_with.ensures.error
    c.refuse_with.ensures.types
