use Rattle.std.proofs.Common.{◌≡◌, drop}
use Rattle.mh_tree.specs.Rows.{can_all}
use Rattle.mh_tree.proofs.conversions.can_all.Given as goal

abbrev pub invariant-loop-i : goal.invariant-loop-i
invariant-loop-i l = can_all l.rules l.classes (drop l.i l.from) (drop l.i l.to) ≡ can_all l.rules l.classes l.from l.to
