use Rattle.std.proofs.Common.{◌≡◌, ◌++◌}
use Rattle.mh_edit.specs.Applied.{elem_names}
use Rattle.mh_edit.proofs.names.push_elems.Given as goal

abbrev pub invariant-loop-item : goal.invariant-loop-item
invariant-loop-item l = l.names ≡ l.initial.names ++ elem_names l.array 0 l.item
