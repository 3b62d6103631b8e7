use Rattle.std.proofs.Common.{◌≡◌, ◌+◌, ◌≤◌}
use Rattle.mh_handle_tests.proofs.passes.add_each.Given as goal

abbrev pub invariant-loop-count : goal.invariant-loop-count
invariant-loop-count g l = (l.pass.table ≡ l.initial.pass.table) × (l.initial.pass.seat.room ≤ l.pass.seat.room + l.count)
