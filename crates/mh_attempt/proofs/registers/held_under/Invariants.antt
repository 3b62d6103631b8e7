use Rattle.std.proofs.Common.{◌≡◌, drop}
use Rattle.mh_attempt.specs.Registers.{held_under}
use Rattle.mh_attempt.proofs.registers.held_under.Given as goal

-- what is found is found from here on
abbrev pub invariant-loop-assignment : goal.invariant-loop-assignment
invariant-loop-assignment l = held_under l.name l.assigned ≡ held_under l.name (drop l.assignment-index l.assigned)
