use Rattle.std.proofs.Common.{◌≡◌, ◌≤◌}
use Rattle.mh_handle_tests.proofs.racing.joined.Given as goal

abbrev pub invariant-loop-lane : goal.invariant-loop-lane
invariant-loop-lane l = (l.pass.table ≡ l.initial.pass.table) × (l.initial.pass.seat.room ≤ l.pass.seat.room)
