use Rattle.std.proofs.Common.{◌≡◌}
use Rattle.mh_values.specs.Class.{is_subclass}
use Rattle.mh_values.proofs.classes.Classes.subclass.Given as goal

abbrev pub invariant-loop-above : goal.invariant-loop-above
invariant-loop-above l = is_subclass l.self l.class l.above ≡ is_subclass l.self l.initial.class l.above

abbrev pub decreases-loop-above : goal.decreases-loop-above
decreases-loop-above l = l.class.0
