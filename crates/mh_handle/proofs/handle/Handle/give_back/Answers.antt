use Rattle.std.proofs.Common.{[], ◌∷◌, ap, sym, subst}
use Rattle.mh_intern.specs.Exchanges.{AreHeld, Exchanges}
use Rattle.mh_intern.proofs.HeldLists.{held-first}
use Rattle.mh_intern.proofs.Exchanging.{held-still}
use Rattle.mh_handle.specs.Stands.{HandleView}
use Rattle.mh_handle.proofs.holding.HoldOrders.{exchanges-back}
use Rattle.mh_handle.proofs.handle.Handle.give_back.Goals as goal

pub let_go-requires-clause-held : goal.let_go-requires-clause-held
let_go-requires-clause-held c =
    let seat = c.args.w.now.seat.now in
    let all = subst (AreHeld seat) (sym (ap (λ (h : HandleView). h.held) c.self.view_is)) c.requires.held in
    held-first seat (c.self.inside.own ∷ []) c.self.inside.sides.items all

pub let_all_go-requires-clause-held : goal.let_all_go-requires-clause-held
let_all_go-requires-clause-held c =
    let seat = c.args.w.now.seat.now in
    let all = subst (AreHeld seat) (sym (ap (λ (h : HandleView). h.held) c.self.view_is)) c.requires.held in
    held-still [] (c.self.inside.own ∷ []) [] c.self.inside.sides.items seat c.let_go.new.self.seat.now c.let_go.ensures.types all

pub returns-clause-types : goal.returns-clause-types
returns-clause-types c =
    let seat = c.args.w.now.seat.now in
    subst (λ l. Exchanges [] l [] seat c.let_all_go.new.self.seat.now) (ap (λ (h : HandleView). h.held) c.self.view_is)
    (exchanges-back (c.self.inside.own ∷ []) c.self.inside.sides.items seat c.let_go.new.self.seat.now c.let_all_go.new.self.seat.now c.let_go.ensures.types
    c.let_all_go.ensures.types)
