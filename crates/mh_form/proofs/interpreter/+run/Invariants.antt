use Rattle.std.proofs.Common.{◌≡◌, ◌-◌, drop}
use Rattle.mh_values.specs.Computation.{after, raised}
use Rattle.mh_form.specs.Endings.{turns_on}
use Rattle.mh_form.specs.Run.{senses_in}
use Rattle.mh_form.specs.Stack.{run_slots, slots_on}
use Rattle.mh_form.proofs.interpreter.+run.Given as goal

-- the leaf calls so far, and then the run of the names that are left; the slots of the runs that wait stay
abbrev pub invariant-run_in-loop-name : goal.invariant-run_in-loop-name
invariant-run_in-loop-name l =
    record {
      same : after l.fn.stack.calls (slots_on l.call.leaves.now l.call.n l.bound l.fn.stack)
          ≡ after l.stack.calls
          (run_slots (drop l.name-index l.name-items) (senses_in l.call.leaves.now l.bound) l.stack.frame (raised l.call.n l.stack.calls));
      below : l.stack.below ≡ l.fn.stack.below;
    }

-- what the turns so far made, and then the turns that are left; the slots of the runs that wait stay
abbrev pub invariant-run_turns-loop-number : goal.invariant-run_turns-loop-number
invariant-run_turns-loop-number l =
    record {
      same : after l.fn.stack.calls (turns_on l.call.leaves.now l.call.n l.bound l.looping 0 l.turns l.fn.turning.first l.fn.stack)
          ≡ after l.stack.calls (turns_on l.call.leaves.now l.call.n l.bound l.looping l.number (l.turns - l.number) l.last l.stack);
      below : l.stack.below ≡ l.fn.stack.below;
    }
