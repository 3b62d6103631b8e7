use Rattle.std.proofs.Common.{List, []}
use Rattle.mh_prelink.specs.Lanes.{HaveWorked}
use Rattle.mh_prelink.specs.Steps.{Did}
use Rattle.mh_prelink.proofs.sharing.join_all.Given as goal

abbrev pub invariant-loop-worker : goal.invariant-loop-worker
invariant-loop-worker g l =
    (before : List g.row.T-Pass.Denot) → g.T.SharesOut.joined l.task before [] l.initial.state →
    HaveWorked (Did (g.T.Linking.step l.task) (g.T.Linking.has l.task)) before l.fn.workers.items → g.T.SharesOut.joined l.task before l.yielded l.state
