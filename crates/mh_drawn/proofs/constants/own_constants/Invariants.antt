use Rattle.std.proofs.Common.{◌≡◌, length}
use Rattle.mh_drawn.specs.Constants.{AreOwn}
use Rattle.mh_drawn.proofs.constants.own_constants.Given as goal

abbrev pub invariant-loop-attempt : goal.invariant-loop-attempt
invariant-loop-attempt g l = record {
  count : length l.own.items ≡ length g.J.ConstRun.run.jobs;
  own : AreOwn l.pass l.own.items;
}
