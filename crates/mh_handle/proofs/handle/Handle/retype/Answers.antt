use Rattle.std.proofs.Common.{[], ◌∷◌, ◌++◌, ap, sym, subst}
use Rattle.mh_intern.specs.Exchanges.{AreHeld, Exchanges}
use Rattle.mh_intern.proofs.HeldLists.{held-first, held-second}
use Rattle.mh_handle.specs.Stands.{HandleView}
use Rattle.mh_handle.proofs.holding.HoldOrders.{exchanges-after, exchanges-kept}
use Rattle.mh_handle.proofs.holding.SingleHolds.{held-yet, unheld-yet}
use Rattle.mh_handle.proofs.holding.Trading.{trades-unheld}
use Rattle.mh_handle.proofs.handle.Handle.retype.Goals as goal

pub let_go-requires-clause-held : goal.let_go-requires-clause-held
let_go-requires-clause-held g c =
    let seat = c.args.w.now.seat.now in
    let own = c.self.inside.own ∷ [] in
    let all = subst (AreHeld seat) (sym (ap (λ (h : HandleView). h.held) c.self.view_is)) c.requires.held in
    held-yet (c.args.ty ∷ []) (c.in-Ok.new ∷ []) own seat c.hold.new.self.seat.now c.in-Ok.ensures.types (held-first seat own c.self.inside.sides.items all)

pub give_back-requires-clause-held : goal.give_back-requires-clause-held
give_back-requires-clause-held g c =
    unheld-yet c.args.ty c.args.self.held c.args.w.now.seat.now c.hold.new.self.seat.now c.in-Err.error c.in-Err.ensures.types c.requires.held

pub returns-in-Ok-clause-types : goal.returns-in-Ok-clause-types
returns-in-Ok-clause-types g c =
    let seat = c.args.w.now.seat.now in
    let new = c.let_go.new.self.seat.now in
    let own = c.self.inside.own ∷ [] in
    let sides = c.self.inside.sides.items in
    let is = ap (λ (h : HandleView). h.held) c.self.view_is in
    let all = subst (AreHeld seat) (sym is) c.requires.held in
    let one = exchanges-after (c.args.ty ∷ []) [] (c.in-Ok.new ∷ []) own seat c.hold.new.self.seat.now new c.in-Ok.ensures.types c.let_go.ensures.types in
    subst (λ l. Exchanges (c.args.ty ∷ []) l c.of.result.held seat new) is
    (subst (λ l. Exchanges (c.args.ty ∷ []) (own ++ sides) l seat new) (sym c.of.ensures.held)
    (exchanges-kept (c.args.ty ∷ []) own (c.in-Ok.new ∷ []) sides seat new (held-second seat own sides all) one))

pub returns-in-Err-clause-types : goal.returns-in-Err-clause-types
returns-in-Err-clause-types g c =
    trades-unheld c.args.ty c.args.self.held c.args.w.now c.hold.new.self c.give_back.new.w c.in-Err.error c.in-Err.ensures.types c.give_back.ensures.types
