use Rattle.mh_sharing_tests.specs.Built.{AreOver}
use Rattle.mh_sharing_tests.proofs.constants.built.ladder.Given as goal

abbrev pub invariant-loop-at : goal.invariant-loop-at
invariant-loop-at l = AreOver l.rungs l.built
