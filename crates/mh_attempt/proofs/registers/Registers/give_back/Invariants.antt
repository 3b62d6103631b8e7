use Rattle.std.proofs.Common.{[], vec_len}
use Rattle.mh_intern.specs.Exchanges.{Exchanges}
use Rattle.mh_handle.specs.Works.{IsUnchanged}
use Rattle.mh_attempt.specs.Registers.{holds_in}
use Rattle.mh_attempt.proofs.registers.Registers.give_back.Given as goal

-- the types of what is left are held still, in the place of all
abbrev pub invariant-loop-assignment : goal.invariant-loop-assignment
invariant-loop-assignment l =
    IsUnchanged l.initial.w l.w × Exchanges [] (holds_in l.initial.self.assigned.items) (holds_in l.self.assigned.items) l.initial.w.seat.now l.w.seat.now

abbrev pub decreases-loop-assignment : goal.decreases-loop-assignment
decreases-loop-assignment l = vec_len l.self.assigned
