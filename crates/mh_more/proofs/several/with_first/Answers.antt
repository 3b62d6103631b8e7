use Rattle.std.proofs.Common.{[], ◌∙◌, List, sym, subst}
use Rattle.mh_intern.specs.Exchanges.{AreHeld, Exchanges}
use Rattle.mh_intern.proofs.HeldLists.{held-first}
use Rattle.mh_handle.specs.Stands.{HandleView}
use Rattle.mh_handle.proofs.holding.HoldOrders.{exchanges-back}
use Rattle.mh_handle.proofs.holding.BackwardHolds.{second-yet}
use Rattle.mh_more.specs.Several.{holds_of}
use Rattle.mh_more.proofs.several.with_first.Goals as goal

pub give_back-requires-clause-held : goal.give_back-requires-clause-held
give_back-requires-clause-held c =
    let seat = c.args.w.now.seat.now in
    subst (λ (h : HandleView). AreHeld seat h.held) (sym c.in-Err.ensures.value_returned)
    (held-first seat c.args.first.held (holds_of c.args.others) c.requires.held)

pub give_back_all-requires-clause-held : goal.give_back_all-requires-clause-held
give_back_all-requires-clause-held c =
    let seat = c.args.w.now.seat.now in
    let mid = c.give_back.new.w.seat.now in
    subst (λ (hs : List HandleView). AreHeld mid (holds_of hs)) (sym (c.in-Err.ensures.items ∙ c.into_vec-all.ensures))
    (second-yet c.args.first.held (holds_of c.args.others) seat mid c.requires.held
    (subst (λ (h : HandleView). Exchanges [] h.held [] seat mid) c.in-Err.ensures.value_returned c.give_back.ensures.types))

pub returns-in-Err-clause-types : goal.returns-in-Err-clause-types
returns-in-Err-clause-types c =
    let seat = c.args.w.now.seat.now in
    let mid = c.give_back.new.w.seat.now in
    let new = c.give_back_all.new.w.seat.now in
    exchanges-back c.args.first.held (holds_of c.args.others) seat mid new
    (subst (λ (h : HandleView). Exchanges [] h.held [] seat mid) c.in-Err.ensures.value_returned c.give_back.ensures.types)
    (subst (λ (hs : List HandleView). Exchanges [] (holds_of hs) [] mid new) (c.in-Err.ensures.items ∙ c.into_vec-all.ensures) c.give_back_all.ensures.types)
