use Rattle.std.proofs.Common.{◌++◌}
use Rattle.mh_tree.specs.Rows.{catch_row}
use Rattle.mh_handle.specs.Works.{types_in}
use Rattle.mh_handle.proofs.obeying.Obeying.{given-obeys}
use Rattle.mh_handle.proofs.holding.Trading.{trades-checked, trades-row}
use Rattle.mh_branch.proofs.branches.catch.Goals as goal

pub returns-in-Ok-clause-obeys : goal.returns-in-Ok-clause-obeys
returns-in-Ok-clause-obeys g c = given-obeys _ c.in-Ok.ty c.catch_of.result c.in-Ok.ensures.tells c.catch_of.ensures.accepted c.catch_of.ensures.typed

pub returns-in-Ok-clause-types : goal.returns-in-Ok-clause-types
returns-in-Ok-clause-types g c =
    trades-row _ c.in-Ok.ty (c.args.target.held ++ c.args.handler.held) c.args.w.now c.catch_of.new.w c.catch_of.result c.in-Ok.ensures.tells
    c.catch_of.ensures.types

pub returns-in-Err-clause-types : goal.returns-in-Err-clause-types
returns-in-Err-clause-types g c =
    trades-checked (types_in (catch_row c.args.w.now.leaves.now.classes c.args.target.ty c.args.target.weight c.args.class c.args.handler.ty
    c.args.handler.weight))
    (c.args.target.held ++ c.args.handler.held) c.args.w.now c.refuse.new.w c.in-Err.error c.refuse.result c.refuse.ensures.error c.refuse.ensures.types
