use Rattle.std.proofs.Common.{◌≡◌, length}
use Rattle.mh_runtime.specs.Attempts.{AreRecorded}
use Rattle.mh_runtime.proofs.recording.owners.Given as goal

abbrev pub invariant-loop-attempt : goal.invariant-loop-attempt
invariant-loop-attempt g l = record {
  count : length l.owners.items ≡ length g.J.Run.given.jobs;
  own : AreRecorded l.pass l.owners.items;
}
