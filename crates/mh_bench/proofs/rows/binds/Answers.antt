use Rattle.std.proofs.Common.{[]}
use Rattle.mh_steps.proofs.Adding.{adds-held, adds-yet}
use Rattle.mh_bench.proofs.rows.binds.Goals as goal

pub bind_each-sum-requires-clause-held : goal.bind_each-sum-requires-clause-held
bind_each-sum-requires-clause-held g c =
    adds-held c.in_ok-handle.handle.held c.args.w.now.seat.now c.made.new.w.seat.now c.in_ok-handle.ensures.types

pub give_back-requires-clause-held : goal.give_back-requires-clause-held
give_back-requires-clause-held g c =
    let h = c.in_ok-handle.handle.held in
    adds-yet [] h c.made.new.w.seat.now c.bind_each-sum.new.w.seat.now c.bind_each-sum.ensures.types
    (adds-held h c.args.w.now.seat.now c.made.new.w.seat.now c.in_ok-handle.ensures.types)
