use Rattle.std.proofs.Common.{◌≡◌, ◌+◌, ◌≤◌}
use Rattle.mh_intern.specs.Seats.{Holds}
use Rattle.mh_sharing_tests.proofs.full.fill.Given as goal

abbrev pub invariant-loop-number : goal.invariant-loop-number
invariant-loop-number g l = (l.seat.table ≡ l.table) × (1000 ≤ l.seat.room + l.number) × Holds l.seat l.one
