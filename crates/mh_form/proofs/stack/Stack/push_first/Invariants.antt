use Rattle.std.proofs.Common.{◌≡◌, ◌++◌, take}
use Rattle.mh_form.proofs.stack.Stack.push_first.Given as goal

-- the slots of the run, and the copies so far after them
abbrev pub invariant-loop-place : goal.invariant-loop-place
invariant-loop-place l = l.self ≡ record l.fn.self { frame = l.fn.self.frame ++ take l.place l.fn.self.frame }
