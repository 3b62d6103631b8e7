use Rattle.std.proofs.Common.{◌≡◌}
use Rattle.mh_bench.proofs.types.turn_each.Given as goal

abbrev pub invariant-loop : goal.invariant-loop
invariant-loop g l = (l.seat.table ≡ l.initial.seat.table) × (l.seat.room ≡ l.initial.seat.room)
