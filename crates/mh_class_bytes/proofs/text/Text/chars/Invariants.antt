use Rattle.std.proofs.Common.{length, ◌-◌}
use Rattle.mh_class_bytes.proofs.CharLoops.{IsDecoding}
use Rattle.mh_class_bytes.proofs.text.Text.chars.Given as goal

abbrev pub invariant-loop-at : goal.invariant-loop-at
invariant-loop-at l = IsDecoding l.bytes l.at l.chars.items

abbrev pub decreases-loop-at : goal.decreases-loop-at
decreases-loop-at l = length l.bytes - l.at
