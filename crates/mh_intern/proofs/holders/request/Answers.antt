use Rattle.std.proofs.Common.{arith}
use Rattle.mh_intern.proofs.Splitting.{asks_allowed}
use Rattle.mh_intern.proofs.holders.request.Goals as goal

pub split_seat-requires : goal.split_seat-requires
split_seat-requires g c = (c.requires.seat.0, omega arith, asks_allowed _ _ _ c.requires.room.0 c.requires.room.1)
