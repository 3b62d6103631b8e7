use Rattle.std.proofs.Common.{arith}
use Rattle.mh_intern.proofs.Looking.{looks_allowed}
use Rattle.mh_intern.proofs.holders.look.Goals as goal

pub load-requires : goal.load-requires
load-requires c = (c.requires.seat.0, omega arith, looks_allowed _ _ _)
