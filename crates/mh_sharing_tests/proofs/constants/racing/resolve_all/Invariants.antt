use Rattle.mh_sharing_tests.specs.Built.{CanResolve}
use Rattle.mh_sharing_tests.proofs.constants.racing.resolve_all.Given as goal

abbrev pub invariant-loop-constant : goal.invariant-loop-constant
invariant-loop-constant g l = CanResolve l.table l.pass
