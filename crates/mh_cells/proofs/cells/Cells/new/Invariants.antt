use Rattle.std.proofs.Common.{◌≡◌, ◌≤◌, vec_len, vec_capacity}
use Rattle.mh_cells.proofs.cells.Cells.new.Given as goal

abbrev pub invariant-loop : goal.invariant-loop
invariant-loop g l = (vec_len l.cells ≡ l.counter) × (l.count ≤ vec_capacity l.cells)
