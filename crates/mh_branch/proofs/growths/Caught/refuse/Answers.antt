use Rattle.mh_intern.proofs.HeldLists.{held-first}
use Rattle.mh_handle.proofs.holding.HoldOrders.{exchanges-back}
use Rattle.mh_handle.proofs.holding.BackwardHolds.{second-yet}
use Rattle.mh_branch.proofs.growths.Caught.refuse.Goals as goal

pub give_back-requires-clause-held : goal.give_back-requires-clause-held
give_back-requires-clause-held c = held-first c.args.w.now.seat.now c.args.self.target.held c.args.self.handler.held c.requires.held

pub refuse-requires-clause-held : goal.refuse-requires-clause-held
refuse-requires-clause-held c =
    second-yet c.args.self.target.held c.args.self.handler.held c.args.w.now.seat.now c.give_back.new.w.seat.now c.requires.held c.give_back.ensures.types

pub returns-clause-types : goal.returns-clause-types
returns-clause-types c =
    exchanges-back c.args.self.target.held c.args.self.handler.held c.args.w.now.seat.now c.give_back.new.w.seat.now c.refuse.new.w.seat.now
    c.give_back.ensures.types c.refuse.ensures.types
