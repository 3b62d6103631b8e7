use Rattle.std.proofs.Common.{arith}
use Rattle.mh_tickets.proofs.Keeps.{cuts_allowed}
use Rattle.mh_tickets.proofs.steps.cut.Goals as goal

pub split_seat-requires : goal.split_seat-requires
split_seat-requires g c = (c.requires.seat.0, omega arith, cuts_allowed _ _ _ c.requires.room)
