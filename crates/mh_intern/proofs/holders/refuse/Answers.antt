use Rattle.std.proofs.Common.{arith}
use Rattle.mh_intern.proofs.Splitting.{refusals_allowed}
use Rattle.mh_intern.proofs.holders.refuse.Goals as goal

pub split_seat-requires : goal.split_seat-requires
split_seat-requires c = (c.requires.seat.0, omega arith, refusals_allowed _ _ c.requires.quiet c.requires.full)
