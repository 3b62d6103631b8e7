use Rattle.std.proofs.Common.{◌≡◌, ◌+◌, ◌-◌, ◌≤◌, ℕ, List, length}
use Rattle.mh_outside.specs.Reach.{ReadsOnce}
use Rattle.mh_outside.specs.Contents.{IsFront}
use Rattle.mh_outside.proofs.whole.read_whole.Given as goal

abbrev pub invariant-loop-bytes : goal.invariant-loop-bytes
invariant-loop-bytes g l = record {
  contents : (n : List ℕ) → g.I.Inputs.contents l.inputs n ≡ g.I.Inputs.contents l.initial.inputs n;
  front : IsFront (g.I.Inputs.contents l.initial.inputs l.name) l.bytes.items;
  reads : ReadsOnce (l.limit + 1) 1 (g.I.Inputs.reached l.initial.inputs) (g.I.Inputs.reached l.inputs)
      (g.I.Inputs.starts l.initial.inputs) (g.I.Inputs.starts l.inputs);
  unread : length l.bytes.items ≡ 0 → g.I.Inputs.starts l.inputs ≤ g.I.Inputs.starts l.initial.inputs;
  no_fault : (n : List ℕ) → g.I.Inputs.faults l.inputs n ≡ g.I.Inputs.faults l.initial.inputs n;
}

abbrev pub decreases-loop-bytes : goal.decreases-loop-bytes
decreases-loop-bytes g l = l.limit + 1 - length l.bytes.items
