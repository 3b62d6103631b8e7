use Rattle.std.proofs.Common.{arith}
use Rattle.mh_intern.proofs.Raising.{raises_listed}
use Rattle.mh_intern.proofs.holders.raise_listed.Goals as goal

pub fetch_add-requires : goal.fetch_add-requires
fetch_add-requires g c = let r = c.requires in rw (r.pick.0, r.pick.1, r.list)
    (r.seat.0, omega arith, raises_listed _ _ _ c.args.hold.now _ (λ _. c.args.hold.now.slot) r.slot r.room r.kept r.entry)
