use Rattle.std.proofs.Common.{◌≡◌, drop}
use Rattle.mh_sharing_tests.specs.Built.{are_below}
use Rattle.mh_sharing_tests.proofs.constants.built.are_below.Given as goal

abbrev pub invariant-loop-name : goal.invariant-loop-name
invariant-loop-name l = are_below l.below l.names ≡ are_below l.below (drop l.name-index l.names)
