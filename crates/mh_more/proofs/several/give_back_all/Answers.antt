use Rattle.std.proofs.Common.{sym, ap, ◌∙◌, []}
use Rattle.mh_intern.proofs.Exchanging.{exchanges-still, held-came}
use Rattle.mh_handle.proofs.obeying.Going.{unchanged-both, unchanged-still}
use Rattle.mh_handle.proofs.holding.HoldOrders.{exchanges-kept}
use Rattle.mh_more.specs.Several.{holds_of}
use Rattle.mh_more.proofs.Lists.{last-held, rest-exchanges}
use Rattle.mh_more.proofs.several.give_back_all.Goals as goal

pub loop-last-init : goal.loop-last-init
loop-last-init c = (
  unchanged-still c.args.w.now,
  exchanges-kept [] [] [] (holds_of c.args.handles.items) c.args.w.now.seat.now c.args.w.now.seat.now c.requires.held
      (exchanges-still c.args.w.now.seat.now),
)

pub give_back-requires-clause-of_types : goal.give_back-requires-clause-of_types
give_back-requires-clause-of_types c =
    c.loop-last.invariant.1.table ∙ (c.requires.of_types ∙ ap (λ t. t.now) (sym c.loop-last.invariant.0.types))

pub give_back-requires-clause-held : goal.give_back-requires-clause-held
give_back-requires-clause-held c =
    last-held c.loop-last.w.seat.now c.loop-last.handles.items c.pop.new.self.items c.in-Some.last c.in-Some.ensures.items
    (held-came [] (holds_of c.args.handles.items) (holds_of c.loop-last.handles.items) c.args.w.now.seat.now c.loop-last.w.seat.now
    c.loop-last.invariant.1 c.requires.held)

pub loop-last-preserved : goal.loop-last-preserved
loop-last-preserved c = (
  unchanged-both c.args.w.now c.loop-last.w c.give_back.new.w c.loop-last.invariant.0 c.give_back.ensures.unchanged,
  rest-exchanges (holds_of c.args.handles.items) c.loop-last.handles.items c.pop.new.self.items c.in-Some.last c.args.w.now.seat.now
      c.loop-last.w.seat.now c.give_back.new.w.seat.now c.in-Some.ensures.items
      (held-came [] (holds_of c.args.handles.items) (holds_of c.loop-last.handles.items) c.args.w.now.seat.now c.loop-last.w.seat.now
      c.loop-last.invariant.1 c.requires.held)
      c.loop-last.invariant.1 c.give_back.ensures.types,
)
