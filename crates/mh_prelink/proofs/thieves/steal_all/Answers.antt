use Rattle.std.proofs.Common.{◌≡◌, ap, arith}
use Rattle.crossbeam_deque.specs.Handles.{view}
use Rattle.mh_prelink.specs.declared.tally.Tally.{Tally}
use Rattle.mh_prelink.proofs.Balance.{takes}
use Rattle.mh_prelink.proofs.thieves.steal_all.Goals as goal

pub steal_as-requires-clause-takes : goal.steal_as-requires-clause-takes
steal_as-requires-clause-takes g c =
    let e : (view c.loop.lane.place).parts ≡ 1 = ap (λ (h : Tally). h.parts) c.loop.invariant.tally in takes _ _ _ (omega arith)
