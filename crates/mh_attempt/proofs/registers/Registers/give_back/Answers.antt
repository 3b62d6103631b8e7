use Rattle.std.proofs.Common.{sym, ap, ◌∙◌, []}
use Rattle.mh_intern.proofs.Exchanging.{exchanges-still, held-came}
use Rattle.mh_handle.proofs.obeying.Going.{unchanged-both, unchanged-still}
use Rattle.mh_handle.proofs.holding.HoldOrders.{exchanges-kept}
use Rattle.mh_attempt.specs.Registers.{holds_in}
use Rattle.mh_attempt.proofs.assigned.RegisterTypes.{last-exchanges, last-kept}
use Rattle.mh_attempt.proofs.registers.Registers.give_back.Goals as goal

pub loop-assignment-init : goal.loop-assignment-init
loop-assignment-init c = (
  unchanged-still c.args.w.now,
  exchanges-kept [] [] [] (holds_in c.args.self.assigned.items) c.args.w.now.seat.now c.args.w.now.seat.now c.requires.kept
      (exchanges-still c.args.w.now.seat.now),
)

pub give_back-requires-clause-of_types : goal.give_back-requires-clause-of_types
give_back-requires-clause-of_types c =
    c.loop-assignment.invariant.1.table ∙ (c.requires.of_types ∙ ap (λ t. t.now) (sym c.loop-assignment.invariant.0.types))

pub give_back-requires-clause-held : goal.give_back-requires-clause-held
give_back-requires-clause-held c =
    last-kept c.loop-assignment.self.assigned.items c.pop.new.self.items c.in-Some.assignment c.loop-assignment.w.seat.now c.in-Some.ensures.items
    (held-came [] (holds_in c.args.self.assigned.items) (holds_in c.loop-assignment.self.assigned.items) c.args.w.now.seat.now
    c.loop-assignment.w.seat.now c.loop-assignment.invariant.1 c.requires.kept)

pub loop-assignment-preserved : goal.loop-assignment-preserved
loop-assignment-preserved c = (
  unchanged-both c.args.w.now c.loop-assignment.w c.give_back.new.w c.loop-assignment.invariant.0 c.give_back.ensures.unchanged,
  last-exchanges (holds_in c.args.self.assigned.items) c.loop-assignment.self.assigned.items c.pop.new.self.items c.in-Some.assignment
      c.args.w.now.seat.now c.loop-assignment.w.seat.now c.give_back.new.w.seat.now c.in-Some.ensures.items
      (held-came [] (holds_in c.args.self.assigned.items) (holds_in c.loop-assignment.self.assigned.items) c.args.w.now.seat.now
      c.loop-assignment.w.seat.now c.loop-assignment.invariant.1 c.requires.kept)
      c.loop-assignment.invariant.1 c.give_back.ensures.types,
)
