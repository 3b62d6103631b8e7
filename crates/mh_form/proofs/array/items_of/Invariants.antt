use Rattle.std.proofs.Common.{◌≡◌, drop}
use Rattle.mh_values.specs.Array.{items_of_values}
use Rattle.mh_form.proofs.Items.{items_on}
use Rattle.mh_form.proofs.array.items_of.Given as goal

-- the items so far, and the values that are left
abbrev pub invariant-loop-i : goal.invariant-loop-i
invariant-loop-i l = items_of_values l.fn.values ≡ items_on l.items (items_of_values (drop l.i l.values.items))
