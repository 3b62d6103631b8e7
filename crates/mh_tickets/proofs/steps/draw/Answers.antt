use Rattle.std.proofs.Common.{arith}
use Rattle.mh_tickets.proofs.Keeps.{draws_allowed}
use Rattle.mh_tickets.proofs.steps.draw.Goals as goal

pub fetch_add-requires : goal.fetch_add-requires
fetch_add-requires c = (c.requires.seat.0, omega arith, draws_allowed _ _ _ c.requires.room)
