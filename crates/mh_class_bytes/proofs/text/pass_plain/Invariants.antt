use Rattle.std.proofs.Common.{length, drop, ◌-◌, ◌+◌, ◌≤◌, ◌≡◌}
use Rattle.mh_class_bytes.specs.Mutf8.{sound_len}
use Rattle.mh_class_bytes.proofs.text.pass_plain.Given as goal

abbrev pub invariant-loop-end : goal.invariant-loop-end
invariant-loop-end l = record {
  onward : l.at ≤ l.end;
  within : l.end ≤ length l.bytes;
  passed : l.at + sound_len (drop l.at l.bytes) ≡ l.end + sound_len
      (drop l.end l.bytes);
}

abbrev pub decreases-loop-end : goal.decreases-loop-end
decreases-loop-end l = length l.bytes - l.end
