use Rattle.std.proofs.Common.{◌≡◌, length}
use Rattle.mh_runtime.specs.Report.{AreMakers}
use Rattle.mh_runtime.proofs.recording.makers.Given as goal

abbrev pub invariant-loop-attempt : goal.invariant-loop-attempt
invariant-loop-attempt g l = record {
  count : length l.makers.items ≡ length g.J.ConstRun.run.jobs;
  own : AreMakers l.pass l.makers.items;
}
