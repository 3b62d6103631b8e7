use Rattle.std.proofs.Common.{◌<◌, length}
use Rattle.mh_values_tests.proofs.values.declare_many.Given as goal

abbrev pub invariant-loop-number : goal.invariant-loop-number
invariant-loop-number l = 0 < length l.classes
