use Rattle.std.proofs.Common.{[], ◌∷◌, ◌++◌, ap, sym, subst}
use Rattle.mh_intern.specs.Exchanges.{AreHeld}
use Rattle.mh_intern.proofs.HeldLists.{held-second}
use Rattle.mh_intern.proofs.Exchanging.{held-still}
use Rattle.mh_handle.specs.Stands.{HandleView}
use Rattle.mh_handle.specs.Works.{TradesTypes}
use Rattle.mh_handle.proofs.obeying.Going.{goes_on-before, seated-back}
use Rattle.mh_handle.proofs.holding.SingleHolds.{held-swapped}
use Rattle.mh_handle.proofs.holding.Trading.{held_in, traded-any, trades-after, trades-same}
use Rattle.mh_handle.proofs.holding.HoldOrders.{same-swapped}
use Rattle.mh_handle.proofs.handle.Handle.grown.Goals as goal

pub make_from-made-requires-clause-held : goal.make_from-made-requires-clause-held
make_from-made-requires-clause-held g c =
    let seat = c.args.w.now.seat.now in
    let all = subst (λ l. AreHeld seat (l ++ c.args.by.parts.held)) (sym (ap (λ (h : HandleView). h.held) c.self.view_is)) c.requires.held in
    held-second seat (c.self.inside.own ∷ []) (c.self.inside.sides.items ++ c.args.by.parts.held) all

pub let_go-requires-clause-held : goal.let_go-requires-clause-held
let_go-requires-clause-held g c =
    let seat = c.args.w.now.seat.now in
    let mid = c.make_from-made.new.w.seat.now in
    let own = c.self.inside.own ∷ [] in
    let others = c.self.inside.sides.items ++ c.args.by.parts.held in
    let all = subst (λ l. AreHeld seat (l ++ c.args.by.parts.held)) (sym (ap (λ (h : HandleView). h.held) c.self.view_is)) c.requires.held in
    let came = held_in c.make_from-made.result in
    held-second mid came own
    (held-still (c.args.by.ty ∷ []) others came own seat mid
    (traded-any (c.args.by.ty ∷ []) others c.args.w.now c.make_from-made.new.w c.make_from-made.result c.make_from-made.ensures.types)
    (held-swapped seat own others all))

pub returns-clause-goes_on : goal.returns-clause-goes_on
returns-clause-goes_on g c =
    goes_on-before 1 c.args.w.now c.make_from-made.new.w c.let_go.new.self c.make_from-made.ensures.goes_on c.let_go.ensures.unchanged
    (seated-back [] (c.self.inside.own ∷ []) c.make_from-made.new.w c.let_go.new.self c.let_go.ensures.types)

pub returns-clause-types : goal.returns-clause-types
returns-clause-types g c =
    let own = c.self.inside.own ∷ [] in
    let others = c.self.inside.sides.items ++ c.args.by.parts.held in
    let asks = c.args.by.ty ∷ [] in
    subst (λ l. TradesTypes asks (l ++ c.args.by.parts.held) c.args.w.now c.let_go.new.self c.make_from-made.result)
    (ap (λ (h : HandleView). h.held) c.self.view_is)
    (trades-same asks (others ++ own) (own ++ others) c.args.w.now c.let_go.new.self c.make_from-made.result (same-swapped others own)
    (trades-after asks others own c.args.w.now c.make_from-made.new.w c.let_go.new.self c.make_from-made.result c.make_from-made.ensures.types
    c.let_go.ensures.types))
