use Rattle.std.proofs.Common.{◌++◌}
use Rattle.mh_intern.proofs.HeldLists.{held-first}
use Rattle.mh_handle.proofs.holding.HoldOrders.{exchanges-back}
use Rattle.mh_handle.proofs.holding.BackwardHolds.{second-yet}
use Rattle.mh_more.proofs.loops.Looped.refuse.Goals as goal

pub give_back-requires-clause-held : goal.give_back-requires-clause-held
give_back-requires-clause-held c =
    let p = c.args.self in
    let seat = c.args.w.now.seat.now in
    held-first seat p.iterations.held p.init.held (held-first seat (p.iterations.held ++ p.init.held) p.body.held c.requires.held)

pub give_back-requires-2-clause-held : goal.give_back-requires-2-clause-held
give_back-requires-2-clause-held c =
    let p = c.args.self in
    let seat = c.args.w.now.seat.now in
    second-yet p.iterations.held p.init.held seat c.give_back.new.w.seat.now
    (held-first seat (p.iterations.held ++ p.init.held) p.body.held c.requires.held) c.give_back.ensures.types

pub refuse-requires-clause-held : goal.refuse-requires-clause-held
refuse-requires-clause-held c =
    let p = c.args.self in
    let seat = c.args.w.now.seat.now in
    let last = c.give_back-2.new.w.seat.now in
    second-yet (p.iterations.held ++ p.init.held) p.body.held seat last c.requires.held
    (exchanges-back p.iterations.held p.init.held seat c.give_back.new.w.seat.now last c.give_back.ensures.types c.give_back-2.ensures.types)

pub returns-clause-types : goal.returns-clause-types
returns-clause-types c =
    let p = c.args.self in
    let seat = c.args.w.now.seat.now in
    let last = c.give_back-2.new.w.seat.now in
    exchanges-back (p.iterations.held ++ p.init.held) p.body.held seat last c.refuse.new.w.seat.now
    (exchanges-back p.iterations.held p.init.held seat c.give_back.new.w.seat.now last c.give_back.ensures.types c.give_back-2.ensures.types)
    c.refuse.ensures.types
