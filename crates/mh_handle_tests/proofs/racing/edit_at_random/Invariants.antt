use Rattle.std.proofs.Common.{◌≡◌, ◌+◌, ◌*◌, ◌≤◌}
use Rattle.mh_handle_tests.proofs.racing.edit_at_random.Given as goal

abbrev pub invariant-loop-turn : goal.invariant-loop-turn
invariant-loop-turn g l = (l.pass.table ≡ l.initial.pass.table) × (l.initial.pass.seat.room ≤ l.pass.seat.room + 2 * l.turn)
