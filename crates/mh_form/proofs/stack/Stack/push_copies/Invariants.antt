use Rattle.std.proofs.Common.{◌≡◌, ◌++◌, drop, length}
use Rattle.mh_form.specs.Run.{picked}
use Rattle.mh_form.proofs.Picks.{picked_on}
use Rattle.mh_form.proofs.stack.Stack.push_copies.Given as goal

-- the slots of the run, the copies so far after them, and the places that are left
abbrev pub invariant-loop-place : goal.invariant-loop-place
invariant-loop-place l =
    record {
      whole : l.fn.self.frame ++ drop (length l.fn.self.frame) l.self.frame ≡ l.self.frame;
      copies : picked l.fn.self.frame l.place-items
          ≡ picked_on (drop (length l.fn.self.frame) l.self.frame) (picked l.fn.self.frame (drop l.place-index l.place-items));
      same : l.self ≡ record l.fn.self { frame = l.self.frame };
    }
