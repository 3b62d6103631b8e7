use Rattle.std.proofs.Common.{◌++◌}
use Rattle.mh_tree.specs.Rows.{guard_row}
use Rattle.mh_handle.specs.Works.{types_in}
use Rattle.mh_handle.proofs.obeying.Obeying.{given-obeys}
use Rattle.mh_handle.proofs.holding.Trading.{trades-checked, trades-row}
use Rattle.mh_branch.proofs.branches.guard.Goals as goal

pub returns-in-Ok-clause-obeys : goal.returns-in-Ok-clause-obeys
returns-in-Ok-clause-obeys g c = given-obeys _ c.in-Ok.ty c.guard_of.result c.in-Ok.ensures.tells c.guard_of.ensures.accepted c.guard_of.ensures.typed

pub returns-in-Ok-clause-types : goal.returns-in-Ok-clause-types
returns-in-Ok-clause-types g c =
    trades-row _ c.in-Ok.ty (c.args.test.held ++ c.args.target.held ++ c.args.fallback.held) c.args.w.now c.guard_of.new.w c.guard_of.result
    c.in-Ok.ensures.tells c.guard_of.ensures.types

pub returns-in-Err-clause-types : goal.returns-in-Err-clause-types
returns-in-Err-clause-types g c =
    trades-checked (types_in (guard_row c.args.test.ty c.args.test.weight c.args.target.ty c.args.target.weight c.args.fallback.ty c.args.fallback.weight))
    (c.args.test.held ++ c.args.target.held ++ c.args.fallback.held) c.args.w.now c.refuse.new.w c.in-Err.error c.refuse.result
    c.refuse.ensures.error c.refuse.ensures.types
