use Rattle.std.proofs.Common.{List, []}
use Rattle.mh_threads.specs.Lanes.{HaveRun}
use Rattle.mh_threads.proofs.forking.join_all.Given as goal

abbrev pub invariant-loop-lane : goal.invariant-loop-lane
invariant-loop-lane g l =
    (before : List g.row.T-Lane.Denot) → g.T.ForkJoin.joined l.task before [] l.initial.state →
    HaveRun (g.T.ForkJoin.done l.task) before l.fn.lanes.items → g.T.ForkJoin.joined l.task before l.yielded l.state
