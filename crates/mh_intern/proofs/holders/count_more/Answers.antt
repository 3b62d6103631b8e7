use Rattle.std.proofs.Common.{arith}
use Rattle.mh_intern.proofs.Callers.{counts_allowed}
use Rattle.mh_intern.proofs.holders.count_more.Goals as goal

pub fetch_add-requires : goal.fetch_add-requires
fetch_add-requires g c = let r = c.requires in rw (r.pick.0, r.pick.1) (
  r.seat.0,
  omega arith,
  counts_allowed _ _ _ c.args.count c.args.hold.now _ (λ _. c.args.hold.now.slot) r.slot r.room r.held,
)
