use Rattle.std.proofs.Common.{[], ◌++◌, sym, subst}
use Rattle.mh_intern.specs.Exchanges.{AreHeld, Exchanges}
use Rattle.mh_intern.proofs.HeldLists.{held-first}
use Rattle.mh_handle.specs.Parts.{PartsView}
use Rattle.mh_handle.proofs.holding.HoldOrders.{exchanges-back}
use Rattle.mh_handle.proofs.holding.BackwardHolds.{second-yet}
use Rattle.mh_branch.proofs.Growing.{catch-all}
use Rattle.mh_branch.proofs.growths.catch_parts.Goals as goal

pub returns-in-Ok-clause-parts : goal.returns-in-Ok-clause-parts
returns-in-Ok-clause-parts c =
    catch-all c.new-none.result c.in-Ok.parts c.new-none.ensures c.with_handler.result c.args.caught.target c.args.caught.class c.args.caught.handler
    c.in-Ok.ensures.adds c.with_handler.ensures.adds

pub with_part-requires-clause-held : goal.with_part-requires-clause-held
with_part-requires-clause-held c =
    let seat = c.args.w.now.seat.now in
    subst (λ (p : PartsView). AreHeld seat (p.held ++ c.args.caught.target.held)) (sym c.new-none.ensures)
    (held-first seat c.args.caught.target.held c.args.caught.handler.held c.requires.held)

pub give_back-requires-clause-held : goal.give_back-requires-clause-held
give_back-requires-clause-held c =
    let seat = c.args.w.now.seat.now in
    let mid = c.with_part.new.w.seat.now in
    let target = c.args.caught.target.held in
    second-yet target c.args.caught.handler.held seat mid c.requires.held
    (subst (λ (p : PartsView). Exchanges [] (p.held ++ target) [] seat mid) c.new-none.ensures c.in-Err.ensures.types)

pub returns-in-Err-clause-types : goal.returns-in-Err-clause-types
returns-in-Err-clause-types c =
    let seat = c.args.w.now.seat.now in
    let mid = c.with_part.new.w.seat.now in
    let target = c.args.caught.target.held in
    exchanges-back target c.args.caught.handler.held seat mid c.give_back.new.w.seat.now
    (subst (λ (p : PartsView). Exchanges [] (p.held ++ target) [] seat mid) c.new-none.ensures c.in-Err.ensures.types) c.give_back.ensures.types
