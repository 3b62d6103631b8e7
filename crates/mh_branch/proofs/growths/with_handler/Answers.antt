use Rattle.std.proofs.Common.{[], sym, subst}
use Rattle.mh_intern.specs.Exchanges.{AreHeld, Exchanges}
use Rattle.mh_intern.proofs.HeldLists.{held-first}
use Rattle.mh_handle.specs.Parts.{PartsView}
use Rattle.mh_handle.proofs.holding.HoldOrders.{exchanges-back}
use Rattle.mh_handle.proofs.holding.BackwardHolds.{second-yet}
use Rattle.mh_branch.proofs.growths.with_handler.Goals as goal

pub give_back-requires-clause-held : goal.give_back-requires-clause-held
give_back-requires-clause-held c =
    let seat = c.args.w.now.seat.now in
    subst (λ (p : PartsView). AreHeld seat p.held) (sym c.in-Err.ensures.err) (held-first seat c.args.parts.held c.args.handler.held c.requires.held)

pub give_back-requires-in-Err-clause-held : goal.give_back-requires-in-Err-clause-held
give_back-requires-in-Err-clause-held c =
    let seat = c.args.w.now.seat.now in
    let mid = c.give_back.new.w.seat.now in
    second-yet c.args.parts.held c.args.handler.held seat mid c.requires.held
    (subst (λ (p : PartsView). Exchanges [] p.held [] seat mid) c.in-Err.ensures.err c.give_back.ensures.types)

pub returns-in-Err-clause-types : goal.returns-in-Err-clause-types
returns-in-Err-clause-types c =
    let seat = c.args.w.now.seat.now in
    let mid = c.give_back.new.w.seat.now in
    exchanges-back c.args.parts.held c.args.handler.held seat mid c.give_back-in-Err.new.w.seat.now
    (subst (λ (p : PartsView). Exchanges [] p.held [] seat mid) c.in-Err.ensures.err c.give_back.ensures.types) c.give_back-in-Err.ensures.types
