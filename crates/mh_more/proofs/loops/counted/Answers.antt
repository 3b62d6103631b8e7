use Rattle.std.proofs.Common.{◌++◌}
use Rattle.mh_tree.specs.Rows.{counted_row}
use Rattle.mh_handle.specs.Works.{types_in}
use Rattle.mh_handle.proofs.obeying.Obeying.{given-obeys}
use Rattle.mh_handle.proofs.holding.Trading.{trades-checked, trades-row}
use Rattle.mh_more.proofs.loops.counted.Goals as goal

pub returns-in-Ok-clause-obeys : goal.returns-in-Ok-clause-obeys
returns-in-Ok-clause-obeys g c = given-obeys _ c.in-Ok.ty c.counted_of.result c.in-Ok.ensures c.counted_of.ensures.accepted c.counted_of.ensures.typed

pub returns-in-Ok-clause-types : goal.returns-in-Ok-clause-types
returns-in-Ok-clause-types g c =
    trades-row _ c.in-Ok.ty (c.args.iterations.held ++ c.args.init.held ++ c.args.body.held) c.args.w.now c.counted_of.new.w c.counted_of.result
    c.in-Ok.ensures c.counted_of.ensures.types

pub returns-in-Err-clause-types : goal.returns-in-Err-clause-types
returns-in-Err-clause-types g c =
    trades-checked (types_in (counted_row c.args.iterations.ty c.args.iterations.weight c.args.init.ty c.args.init.weight c.args.body.ty c.args.body.weight))
    (c.args.iterations.held ++ c.args.init.held ++ c.args.body.held) c.args.w.now c.refuse.new.w c.in-Err.error c.refuse.result
    c.refuse.ensures.error c.refuse.ensures.types
