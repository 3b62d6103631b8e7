use Rattle.std.proofs.Common.{◌≡◌}
use Rattle.mh_cells.proofs.Joining.{Joining}
use Rattle.mh_cells.proofs.known.Known.join.Given as goal

abbrev pub invariant-loop-at : goal.invariant-loop-at
invariant-loop-at g l = (l.self-inside.cells.now ≡ l.initial.self-inside.cells.now)
    × Joining l.initial.self-inside.learnt.items l.initial.others.items l.self-inside.learnt.items l.others.items l.at
