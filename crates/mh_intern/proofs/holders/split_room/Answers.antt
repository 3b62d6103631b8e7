use Rattle.std.proofs.Common.{arith}
use Rattle.mh_intern.proofs.Splitting.{cuts_allowed}
use Rattle.mh_intern.proofs.holders.split_room.Goals as goal

pub split_seat-requires : goal.split_seat-requires
split_seat-requires g c = (c.requires.seat.0, omega arith, cuts_allowed _ _ _ (omega (arith, c.requires.pick, c.requires.room)))
