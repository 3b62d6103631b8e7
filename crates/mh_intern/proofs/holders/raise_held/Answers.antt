use Rattle.std.proofs.Common.{arith}
use Rattle.mh_intern.proofs.Callers.{dups_allowed}
use Rattle.mh_intern.proofs.holders.raise_held.Goals as goal

pub fetch_add-requires : goal.fetch_add-requires
fetch_add-requires g c = rw c.requires.pick (
  c.requires.seat.0,
  omega arith,
  dups_allowed _ _ _ c.args.hold.now _ (λ _. c.args.hold.now.slot) c.requires.slot
      c.requires.room c.requires.held,
)
