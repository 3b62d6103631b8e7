use Rattle.std.proofs.Common.{arith}
use Rattle.mh_intern.proofs.Splitting.{replies_allowed}
use Rattle.mh_intern.proofs.holders.reply.Goals as goal

pub split_seat-requires : goal.split_seat-requires
split_seat-requires c = (c.requires.seat.0, omega arith, replies_allowed _ _ c.requires.quiet)
