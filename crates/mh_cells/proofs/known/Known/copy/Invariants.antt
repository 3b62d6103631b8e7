use Rattle.std.proofs.Common.{◌≡◌, ◌≤◌, take, vec_len, vec_capacity}
use Rattle.mh_cells.proofs.known.Known.copy.Given as goal

abbrev pub invariant-loop-at : goal.invariant-loop-at
invariant-loop-at g l = (l.self-inside.cells.now ≡ l.initial.self-inside.cells.now) × (l.self-inside.learnt.items ≡ l.initial.self-inside.learnt.items)
    × (l.learnt.items ≡ take l.at l.initial.self-inside.learnt.items) × (vec_len l.learnt ≡ l.at) × (l.count ≤ vec_capacity l.learnt)
