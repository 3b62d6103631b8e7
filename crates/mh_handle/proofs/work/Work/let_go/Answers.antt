use Rattle.std.proofs.Common.{[]}
use Rattle.mh_intern.proofs.HeldLists.{hold-held}
use Rattle.mh_handle.proofs.holding.SingleHolds.{let-go}
use Rattle.mh_handle.proofs.work.Work.let_go.Goals as goal

pub release-requires-clause-held : goal.release-requires-clause-held
release-requires-clause-held c = hold-held c.args.self.now.seat.now c.args.held [] c.requires.held

pub returns-clause-types : goal.returns-clause-types
returns-clause-types c = let-go c.args.held c.args.self.now.seat.now c.release.new.seat c.requires.held c.release.ensures.released
