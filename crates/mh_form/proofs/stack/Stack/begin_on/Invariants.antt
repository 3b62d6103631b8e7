use Rattle.std.proofs.Common.{◌≡◌, [], map, take}
use Rattle.mh_form.specs.Erasure.{erased}
use Rattle.mh_form.proofs.stack.Stack.begin_on.Given as goal

-- the values so far, as slots
abbrev pub invariant-loop-value : goal.invariant-loop-value
invariant-loop-value l =
    record {
      frame : l.self.frame ≡ map erased (take l.value-index l.value-items);
      calls : l.self.calls ≡ [];
    }
