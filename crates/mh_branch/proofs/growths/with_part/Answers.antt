use Rattle.std.proofs.Common.{[], sym, subst}
use Rattle.mh_intern.specs.Exchanges.{AreHeld, Exchanges}
use Rattle.mh_intern.proofs.HeldLists.{held-second}
use Rattle.mh_handle.specs.Parts.{PartsView}
use Rattle.mh_handle.proofs.holding.BackwardHolds.{exchanges-backwards, first-yet}
use Rattle.mh_branch.proofs.growths.with_part.Goals as goal

pub push-requires-clause-held : goal.push-requires-clause-held
push-requires-clause-held c = held-second c.args.w.now.seat.now c.args.parts.held c.args.part.held c.requires.held

pub give_back-requires-clause-held : goal.give_back-requires-clause-held
give_back-requires-clause-held c =
    let mid = c.push.new.w.seat.now in
    subst (λ (p : PartsView). AreHeld mid p.held) (sym c.in-Err.ensures.err)
    (first-yet c.args.parts.held c.args.part.held c.args.w.now.seat.now mid c.requires.held c.in-Err.ensures.given_back)

pub returns-in-Err-clause-types : goal.returns-in-Err-clause-types
returns-in-Err-clause-types c =
    let mid = c.push.new.w.seat.now in
    let new = c.give_back.new.w.seat.now in
    exchanges-backwards c.args.parts.held c.args.part.held c.args.w.now.seat.now mid new c.in-Err.ensures.given_back
    (subst (λ (p : PartsView). Exchanges [] p.held [] mid new) c.in-Err.ensures.err c.give_back.ensures.types)
