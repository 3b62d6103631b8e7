use Rattle.std.proofs.Common.{◌≡◌, ◌+◌, ◌≤◌}
use Rattle.mh_bench.proofs.forms.make.Given as goal

-- the pass is one of its table, and for each turn at most one number was drawn
abbrev pub invariant-loop-turn : goal.invariant-loop-turn
invariant-loop-turn g l = (l.pass.table ≡ l.initial.pass.table) × (l.initial.pass.seat.room ≤ l.pass.seat.room + l.turn)
