use Rattle.std.proofs.Common.{◌≡◌}
use Rattle.mh_cells.proofs.known.Known.put_boxed.Given as goal

abbrev pub invariant-loop : goal.invariant-loop
invariant-loop g l = (l.self ≡ l.initial.self) × (l.value.value ≡ l.initial.value.value)
