use Rattle.std.proofs.Common.{◌++◌}
use Rattle.mh_intern.proofs.HeldLists.{held-first}
use Rattle.mh_handle.proofs.holding.HoldOrders.{exchanges-back}
use Rattle.mh_handle.proofs.holding.BackwardHolds.{second-yet}
use Rattle.mh_branch.proofs.growths.with_two.Goals as goal

pub with_part-requires-clause-held : goal.with_part-requires-clause-held
with_part-requires-clause-held c = held-first c.args.w.now.seat.now (c.args.parts.held ++ c.args.first.held) c.args.second.held c.requires.held

pub give_back-requires-clause-held : goal.give_back-requires-clause-held
give_back-requires-clause-held c =
    second-yet (c.args.parts.held ++ c.args.first.held) c.args.second.held c.args.w.now.seat.now c.with_part.new.w.seat.now c.requires.held
    c.in-Err.ensures.types

pub returns-in-Err-clause-types : goal.returns-in-Err-clause-types
returns-in-Err-clause-types c =
    exchanges-back (c.args.parts.held ++ c.args.first.held) c.args.second.held c.args.w.now.seat.now c.with_part.new.w.seat.now c.give_back.new.w.seat.now
    c.in-Err.ensures.types c.give_back.ensures.types
