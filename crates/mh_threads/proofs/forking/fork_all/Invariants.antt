use Rattle.std.proofs.Common.{◌≡◌, All, length}
use Rattle.mh_threads.proofs.forking.fork_all.Given as goal

abbrev pub invariant-loop-number : goal.invariant-loop-number
invariant-loop-number g l = record {
  forked : g.T.ForkJoin.forked l.task l.state l.lanes.items;
  count : length l.lanes.items ≡ l.number;
  ready : All (g.T.ForkJoin.ready l.task) l.lanes.items;
}
