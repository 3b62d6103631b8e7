use Rattle.std.proofs.Common.{length, ◌-◌}
use Rattle.mh_class_bytes.proofs.CharLoops.{IsShowing}
use Rattle.mh_class_bytes.proofs.text.Text.shown.Given as goal

abbrev pub invariant-loop-at : goal.invariant-loop-at
invariant-loop-at l = IsShowing l.bytes l.at l.chars.items

abbrev pub decreases-loop-at : goal.decreases-loop-at
decreases-loop-at l = length l.bytes - l.at
