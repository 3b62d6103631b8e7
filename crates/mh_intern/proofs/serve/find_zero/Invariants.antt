use Rattle.std.proofs.Common.{◌≡◌, ℕ, ◌+◌, ◌*◌, ◌<◌, ◌≤◌}
use Rattle.mh_intern.specs.Held.{on_slot}
use Rattle.mh_seats.specs.Room.{times}
use Rattle.mh_intern.specs.Kinds.{with_notes}
use Rattle.mh_intern.proofs.serve.find_zero.Given as goal

abbrev pub invariant-loop-i : goal.invariant-loop-i
invariant-loop-i l =
    (l.seat.table_id ≡ l.fn.seat.table_id)
    × (l.seat.me.1 ≡ l.fn.seat.me.1)
    × (l.seat.me.0 ≡ with_notes l.seat.me.0.zeros l.seat.me.0.busy l.fn.seat.me.0)
    × ((j : ℕ) → 32 * l.bucket ≤ j → j < 32 * l.bucket + l.i → (0 < times j l.seat.me.0.busy) × (0 < on_slot j l.seat.me.0.entries))
