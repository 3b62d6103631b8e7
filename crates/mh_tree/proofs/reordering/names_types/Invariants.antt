use Rattle.std.proofs.Common.{◌≡◌, drop}
use Rattle.mh_tree.specs.Rows.{names_types}
use Rattle.mh_tree.proofs.reordering.names_types.Given as goal

abbrev pub invariant-loop-i : goal.invariant-loop-i
invariant-loop-i l = names_types l.params (drop l.i l.reorder) (drop l.i l.types) ≡ names_types l.params l.reorder l.types
