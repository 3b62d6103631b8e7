use Rattle.std.proofs.Common.{[]}
use Rattle.mh_intern.proofs.HeldLists.{hold-held}
use Rattle.mh_handle.proofs.holding.SingleHolds.{copy-trades}
use Rattle.mh_handle.proofs.work.Work.hold_again.Goals as goal

pub dup-requires-clause-held : goal.dup-requires-clause-held
dup-requires-clause-held c = hold-held c.args.self.now.seat.now c.args.held.now [] c.requires.held

pub returns-clause-types : goal.returns-clause-types
returns-clause-types c =
    copy-trades c.args.self.now.seat.now c.dup.new.seat c.dup.result c.requires.room c.dup.ensures.ok c.dup.ensures.held c.dup.ensures.err
