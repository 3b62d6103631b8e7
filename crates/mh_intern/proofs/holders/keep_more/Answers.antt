use Rattle.std.proofs.Common.{arith}
use Rattle.mh_intern.proofs.Callers.{keeps_more_allowed}
use Rattle.mh_intern.proofs.holders.keep_more.Goals as goal

pub load-requires : goal.load-requires
load-requires g c = rw c.requires.pick (
  c.requires.seat.0,
  omega arith,
  keeps_more_allowed _ _ _ c.args.hold.now _ (λ _. c.args.hold.now.slot) c.requires.slot c.requires.held,
)
