use Rattle.mh_sharing_tests.specs.Built.{AreOver}
use Rattle.mh_sharing_tests.proofs.constants.built.wide.Given as goal

abbrev pub invariant-loop-other : goal.invariant-loop-other
invariant-loop-other l = AreOver l.count l.built
