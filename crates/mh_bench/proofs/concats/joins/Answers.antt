use Rattle.mh_steps.proofs.Adding.{adds-held}
use Rattle.mh_bench.proofs.concats.joins.Goals as goal

pub give_back-requires-clause-held : goal.give_back-requires-clause-held
give_back-requires-clause-held g c =
    adds-held c.in_ok-handle.handle.held c.args.w.now.seat.now c.joining.new.w.seat.now c.in_ok-handle.ensures.types
