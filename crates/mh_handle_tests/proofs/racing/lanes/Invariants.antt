use Rattle.std.proofs.Common.{◌≡◌, ◌+◌, ◌*◌, ◌≤◌, ◌^◌, All, length}
use Rattle.mh_handle.specs.Passes.{IsPassOf}
use Rattle.mh_handle_tests.proofs.racing.lanes.Given as goal

abbrev pub invariant-loop-at : goal.invariant-loop-at
invariant-loop-at l =
    (l.pass.table ≡ l.initial.pass.table)
    × (l.initial.pass.seat.room ≤ l.pass.seat.room + 2 ^ 32 * l.at)
    × (length l.lanes.items ≡ l.at)
    × All (λ lane. IsPassOf l.table lane.pass × (200 ≤ lane.pass.seat.room)) l.lanes.items
