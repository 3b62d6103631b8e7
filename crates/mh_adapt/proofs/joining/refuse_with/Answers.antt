use Rattle.std.proofs.Common.{[]}
use Rattle.mh_intern.proofs.HeldLists.{held-first}
use Rattle.mh_intern.proofs.Exchanging.{held-still}
use Rattle.mh_handle.proofs.holding.HoldOrders.{exchanges-back}
use Rattle.mh_adapt.proofs.joining.refuse_with.Goals as goal

pub give_back-requires-clause-held : goal.give_back-requires-clause-held
give_back-requires-clause-held c = held-first c.args.w.now.seat.now c.args.target.held c.args.part.held c.requires.held

pub refuse-requires-clause-held : goal.refuse-requires-clause-held
refuse-requires-clause-held c =
    held-still [] c.args.target.held [] c.args.part.held c.args.w.now.seat.now c.give_back.new.w.seat.now c.give_back.ensures.types c.requires.held

pub returns-clause-types : goal.returns-clause-types
returns-clause-types c =
    exchanges-back c.args.target.held c.args.part.held c.args.w.now.seat.now c.give_back.new.w.seat.now c.refuse.new.w.seat.now c.give_back.ensures.types
    c.refuse.ensures.types
