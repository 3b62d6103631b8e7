use Rattle.std.proofs.Common.{◌≡◌, ◌+◌, ◌*◌, ◌≤◌}
use Rattle.mh_handle_tests.proofs.racing.edit_each.Given as goal

abbrev pub invariant-loop-at : goal.invariant-loop-at
invariant-loop-at g l = (l.pass.table ≡ l.initial.pass.table) × (l.initial.pass.seat.room ≤ l.pass.seat.room + 2 * l.at)
