use Rattle.std.proofs.Common.{arith}
use Rattle.mh_intern.proofs.ClaimSeats.{splits_allowed}
use Rattle.mh_intern.proofs.claims.split.Goals as goal

pub split_seat-requires : goal.split_seat-requires
split_seat-requires c = (c.requires.seat.0, omega arith, splits_allowed _ _ _)
