use Rattle.std.proofs.Common.{[]}
use Rattle.mh_steps.proofs.Adding.{adds-both, adds-held, adds-next, adds-still, adds-yet}
use Rattle.mh_steps.proofs.leaves.two_constants.Goals as goal

pub give_back-requires-clause-held : goal.give_back-requires-clause-held
give_back-requires-clause-held g c =
    adds-yet [] c.in_ok-one.one.held c.constant_of.new.w.seat.now c.constant_of-2.new.w.seat.now c.in-Err.ensures.types
    (adds-held c.in_ok-one.one.held c.args.w.now.seat.now c.constant_of.new.w.seat.now c.in_ok-one.ensures.types)

pub returns-in-Ok-clause-types : goal.returns-in-Ok-clause-types
returns-in-Ok-clause-types g c =
    adds-both c.in_ok-one.one.held c.in-Ok.other.held c.args.w.now.seat.now c.constant_of.new.w.seat.now c.constant_of-2.new.w.seat.now
    c.in_ok-one.ensures.types
    c.in-Ok.ensures.types

pub returns-in-Err-clause-types : goal.returns-in-Err-clause-types
returns-in-Err-clause-types g c =
    let seat = c.args.w.now.seat.now in
    let next = c.constant_of-2.new.w.seat.now in
    adds-next [] c.in_ok-one.one.held [] seat next c.give_back.new.w.seat.now
    (adds-still c.in_ok-one.one.held seat c.constant_of.new.w.seat.now next c.in_ok-one.ensures.types c.in-Err.ensures.types) ([], c.give_back.ensures.types)
