use Rattle.std.proofs.Common.{◌≡◌}
use Rattle.mh_sharing_tests.proofs.cells.put_all.Given as goal

abbrev pub invariant-loop-key : goal.invariant-loop-key
invariant-loop-key g l = l.known.cells ≡ l.cells
