use Rattle.mh_sharing_tests.specs.Built.{CanResolve}
use Rattle.mh_sharing_tests.proofs.constants.rows.asked_in_turn.Given as goal

abbrev pub invariant-loop-ask : goal.invariant-loop-ask
invariant-loop-ask g l = record {
  one : CanResolve l.table l.one;
  two : CanResolve l.table l.two;
}
