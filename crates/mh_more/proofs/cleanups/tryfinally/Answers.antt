use Rattle.std.proofs.Common.{◌++◌}
use Rattle.mh_intern.proofs.HeldLists.{held-first}
use Rattle.mh_tree.specs.Rows.{tryfinally_row}
use Rattle.mh_handle.specs.Works.{types_in}
use Rattle.mh_handle.proofs.holding.BackwardHolds.{second-yet}
use Rattle.mh_handle.proofs.holding.HoldOrders.{exchanges-back}
use Rattle.mh_handle.proofs.obeying.Obeying.{given-obeys}
use Rattle.mh_handle.proofs.holding.Trading.{trades-checked, trades-row}
use Rattle.mh_more.proofs.cleanups.tryfinally.Goals as goal

pub give_back-requires-clause-held : goal.give_back-requires-clause-held
give_back-requires-clause-held g c = held-first c.args.w.now.seat.now c.args.target.held c.args.cleanup.held c.requires.held

pub refuse-requires-clause-held : goal.refuse-requires-clause-held
refuse-requires-clause-held g c =
    second-yet c.args.target.held c.args.cleanup.held c.args.w.now.seat.now c.give_back.new.w.seat.now c.requires.held c.give_back.ensures.types

pub returns-in-Ok-clause-obeys : goal.returns-in-Ok-clause-obeys
returns-in-Ok-clause-obeys g c =
    given-obeys _ c.in-Ok.ty c.tryfinally_of.result c.in-Ok.ensures c.tryfinally_of.ensures.accepted c.tryfinally_of.ensures.typed

pub returns-in-Ok-clause-types : goal.returns-in-Ok-clause-types
returns-in-Ok-clause-types g c =
    trades-row _ c.in-Ok.ty (c.args.target.held ++ c.args.cleanup.held) c.args.w.now c.tryfinally_of.new.w c.tryfinally_of.result c.in-Ok.ensures
    c.tryfinally_of.ensures.types

pub returns-in-Err-clause-types : goal.returns-in-Err-clause-types
returns-in-Err-clause-types g c =
    trades-checked (types_in (tryfinally_row c.args.target.ty c.args.target.weight c.args.cleanup.ty c.args.cleanup.weight))
    (c.args.target.held ++ c.args.cleanup.held) c.args.w.now c.refuse.new.w c.in-Err.error c.refuse.result c.refuse.ensures.error
    (exchanges-back c.args.target.held c.args.cleanup.held c.args.w.now.seat.now c.give_back.new.w.seat.now c.refuse.new.w.seat.now
    c.give_back.ensures.types c.refuse.ensures.types)
