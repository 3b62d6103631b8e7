use Rattle.std.proofs.Common.{◌≡◌, ◌≤◌, replicate, None, vec_len, vec_capacity}
use Rattle.mh_cells.proofs.known.Known.new.Given as goal

abbrev pub invariant-loop : goal.invariant-loop
invariant-loop g l = (l.learnt.items ≡ replicate l.counter None) × (vec_len l.learnt ≡ l.counter) × (l.count ≤ vec_capacity l.learnt)
