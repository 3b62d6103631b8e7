use Rattle.std.proofs.Common.{arith}
use Rattle.mh_intern.proofs.Callers.{releases_allowed}
use Rattle.mh_intern.proofs.holders.lower.Goals as goal

pub fetch_sub-requires : goal.fetch_sub-requires
fetch_sub-requires g c = rw c.requires.pick (
  c.requires.seat.0,
  omega arith,
  releases_allowed _ _ _ c.args.hold.now _ (λ _. c.args.hold.now.slot)
      c.requires.slot c.requires.held,
)
