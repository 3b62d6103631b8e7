use Rattle.std.proofs.Common.{◌≡◌, length}
use Rattle.mh_jobs.specs.Parts.{AreFirstRead}
use Rattle.mh_jobs.proofs.unresolved.entries_of.Given as goal

abbrev pub invariant-loop-bootstrap : goal.invariant-loop-bootstrap
invariant-loop-bootstrap l = record {
  each : AreFirstRead l.from.leaves.now l.from.view.now l.from.first l.entries;
  so_far : length l.entries ≡ l.bootstrap;
}
