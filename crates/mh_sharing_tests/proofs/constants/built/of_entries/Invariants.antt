use Rattle.mh_sharing_tests.specs.Built.{AreOver}
use Rattle.mh_sharing_tests.proofs.constants.built.of_entries.Given as goal

abbrev pub invariant-loop-entry : goal.invariant-loop-entry
invariant-loop-entry l = AreOver l.count l.built
