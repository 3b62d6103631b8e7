use Rattle.std.proofs.Common.{◌≡◌, ap, arith}
use Rattle.crossbeam_deque.specs.Handles.{worker_view}
use Rattle.mh_prelink.specs.declared.tally.Tally.{Tally}
use Rattle.mh_prelink.proofs.Balance.{takes, finds}
use Rattle.mh_prelink.proofs.working.pop_all.Goals as goal

pub pop_as-requires-clause-fifo : goal.pop_as-requires-clause-fifo
pop_as-requires-clause-fifo g c = λ _.
    let e : (worker_view c.loop.owner).parts ≡ (worker_view c.args.owner.now).parts = ap (λ (h : Tally). h.parts) c.loop.invariant.more.1.2 in
    takes _ _ _ (omega (arith, e, c.requires.can.part))

pub pop_as-requires-clause-empty : goal.pop_as-requires-clause-empty
pop_as-requires-clause-empty g c = finds _ _ _
