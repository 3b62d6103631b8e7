use Rattle.std.proofs.Common.{◌≡◌, ◌≤◌}
use Rattle.mh_sharing_tests.proofs.full.one_after_another.Given as goal

abbrev pub invariant-loop-number : goal.invariant-loop-number
invariant-loop-number g l = (l.seat.table ≡ l.table) × (1000 ≤ l.seat.room)
