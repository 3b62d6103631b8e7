use Rattle.std.proofs.Common.{arith}
use Rattle.mh_handle.proofs.holding.SingleHolds.{hold-trades}
use Rattle.mh_handle.proofs.work.Work.hold.Goals as goal

pub returns-clause-types : goal.returns-clause-types
returns-clause-types g c =
    hold-trades c.args.ty c.args.self.now.seat.now c.intern.new.seat c.intern.result (omega (arith, c.requires.ready.holds)) c.intern.ensures.interned
    c.intern.ensures.held
