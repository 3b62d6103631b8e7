use Rattle.std.proofs.Common.{arith}
use Rattle.mh_tickets.proofs.Keeps.{joins_allowed}
use Rattle.mh_tickets.proofs.steps.join.Goals as goal

pub join_seat-requires : goal.join_seat-requires
join_seat-requires c = (c.requires.seat.0, c.requires.other.0, c.requires.other.1, omega arith, joins_allowed _ _ _ _)
