use Rattle.std.proofs.Common.{◌≡◌}
use Rattle.mh_bench.proofs.types.dead.Given as goal

abbrev pub invariant-loop-number : goal.invariant-loop-number
invariant-loop-number g l = (l.seat.table ≡ l.initial.seat.table) × (l.seat.room ≡ l.initial.seat.room)
