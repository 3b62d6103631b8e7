use Rattle.std.proofs.Common.{◌∙◌, ap, sym, subst, [], ◌++◌, arith}
use Rattle.mh_intern.specs.Exchanges.{AreHeld, Exchanges}
use Rattle.mh_intern.proofs.HeldLists.{held-first}
use Rattle.mh_handle.proofs.holding.HoldOrders.{exchanges-back}
use Rattle.mh_handle.proofs.holding.BackwardHolds.{second-yet}
use Rattle.mh_branch.proofs.Trading.{held-same}
use Rattle.mh_more.specs.Several.{holds_of}
use Rattle.mh_more.proofs.Lists.{adds-given, more-held, trades-given}
use Rattle.mh_more.proofs.several.+with_all.Goals as goal

pub with_all-requires : goal.with_all-requires
with_all-requires t c =
    let seat = c.args.w.now.seat.now in
    let front = c.pop.new.self.items in (
      omega (arith, c.decreases, c.in-Some.ensures.cases),
      (
        c.requires.of_types,
        held-first seat (c.args.parts.held ++ holds_of front) c.in-Some.last.held
            (subst (AreHeld seat) (more-held c.args.parts.held c.args.handles.items front c.in-Some.last c.in-Some.ensures.items) c.requires.held),
      ),
    )

pub with_part-requires-clause-held : goal.with_part-requires-clause-held
with_part-requires-clause-held t c =
    let front = c.pop.new.self.items in
    held-same (c.in-Ok.parts.held ++ c.in-Some.last.held) (c.args.parts.held ++ holds_of c.args.handles.items) c.args.w.now.seat.now
    c.with_all.new.w.seat.now c.in-Ok.ensures.types
    (ap (λ l. l ++ c.in-Some.last.held) c.in-Ok.ensures.adds.held
    ∙ sym (more-held c.args.parts.held c.args.handles.items front c.in-Some.last c.in-Some.ensures.items)) c.requires.held

pub returns-in-Ok-clause-adds : goal.returns-in-Ok-clause-adds
returns-in-Ok-clause-adds t c =
    adds-given c.args.handles.items c.pop.new.self.items c.in-Some.last c.args.parts c.in-Ok.parts c.with_part.result c.in-Some.ensures.items
    c.in-Ok.ensures.adds c.with_part.ensures.adds

pub returns-in-Ok-clause-types : goal.returns-in-Ok-clause-types
returns-in-Ok-clause-types t c =
    let front = c.pop.new.self.items in
    trades-given (c.in-Ok.parts.held ++ c.in-Some.last.held) (c.args.parts.held ++ holds_of c.args.handles.items) c.args.w.now c.with_all.new.w
    c.with_part.new.w c.with_part.result
    (ap (λ l. l ++ c.in-Some.last.held) c.in-Ok.ensures.adds.held
    ∙ sym (more-held c.args.parts.held c.args.handles.items front c.in-Some.last c.in-Some.ensures.items)) c.in-Ok.ensures.types
    c.with_part.ensures.types

pub give_back-requires-clause-held : goal.give_back-requires-clause-held
give_back-requires-clause-held t c =
    let seat = c.args.w.now.seat.now in
    let front = c.pop.new.self.items in
    second-yet (c.args.parts.held ++ holds_of front) c.in-Some.last.held seat c.with_all.new.w.seat.now
    (subst (AreHeld seat) (more-held c.args.parts.held c.args.handles.items front c.in-Some.last c.in-Some.ensures.items) c.requires.held)
    c.in-Err.ensures.types

pub returns-clause-types : goal.returns-clause-types
returns-clause-types t c =
    let seat = c.args.w.now.seat.now in
    let front = c.pop.new.self.items in
    let new = c.give_back.new.w.seat.now in
    subst (λ l. Exchanges [] l [] seat new)
    (sym (more-held c.args.parts.held c.args.handles.items front c.in-Some.last c.in-Some.ensures.items))
    (exchanges-back (c.args.parts.held ++ holds_of front) c.in-Some.last.held seat c.with_all.new.w.seat.now new c.in-Err.ensures.types
    c.give_back.ensures.types)
