use Rattle.std.proofs.Common.{◌≡◌, ◌+◌, ◌-◌, ◌≤◌, length}
use Rattle.mh_sharing_tests.proofs.draws.draw_all.Given as goal

abbrev pub invariant-loop : goal.invariant-loop
invariant-loop l =
    (l.seat.tickets ≡ l.fn.tickets) × (10000 - l.counter ≤ l.seat.room)
    × (l.seat.room + length l.seat.numbers ≡ l.fn.seat.room + length l.fn.seat.numbers)
