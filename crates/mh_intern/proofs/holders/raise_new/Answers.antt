use Rattle.std.proofs.Common.{arith}
use Rattle.mh_intern.proofs.Raising.{raises_new}
use Rattle.mh_intern.proofs.holders.raise_new.Goals as goal

pub fetch_add-requires : goal.fetch_add-requires
fetch_add-requires g c = let r = c.requires in rw (r.pick.0, r.pick.1) (
  r.seat.0,
  omega arith,
  raises_new _ _ _ c.args.hold.now c.args.entries.now _ (λ _. c.args.hold.now.slot) r.slot r.room r.kept r.bucket r.wanted r.zero r.absent r.entries,
)
