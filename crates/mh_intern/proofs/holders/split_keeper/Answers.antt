use Rattle.std.proofs.Common.{arith}
use Rattle.mh_intern.proofs.Splitting.{keeps_allowed}
use Rattle.mh_intern.proofs.Opening.{head_and_rest}
use Rattle.mh_intern.proofs.holders.split_keeper.Goals as goal

pub split_seat-requires : goal.split_seat-requires
split_seat-requires c =
    (c.requires.seat.0, omega arith, keeps_allowed _ _ _ _ (head_and_rest _ c.requires.kept) c.requires.fresh.0 c.requires.fresh.1)
