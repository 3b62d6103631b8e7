use Rattle.std.proofs.Common.{◌≡◌}
use Rattle.mh_bench.proofs.types.dup_each.Given as goal

abbrev pub invariant-loop : goal.invariant-loop
invariant-loop l = l.seat ≡ l.initial.seat
