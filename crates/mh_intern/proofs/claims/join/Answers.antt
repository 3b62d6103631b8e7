use Rattle.std.proofs.Common.{arith}
use Rattle.mh_intern.proofs.ClaimSeats.{joins_allowed}
use Rattle.mh_intern.proofs.claims.join.Goals as goal

pub join_seat-requires : goal.join_seat-requires
join_seat-requires c = (c.requires.seat.0, c.requires.other.0, c.requires.other.1, omega arith, joins_allowed _ _ _ _ _)
