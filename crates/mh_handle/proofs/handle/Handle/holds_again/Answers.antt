use Rattle.std.proofs.Common.{[], ◌∷◌, ap, sym, subst}
use Rattle.mh_intern.specs.Exchanges.{AreHeld}
use Rattle.mh_intern.proofs.Exchanging.{exchanges-both, held-came}
use Rattle.mh_intern.proofs.HeldLists.{held-first, held-none, held-second}
use Rattle.mh_handle.specs.Stands.{HandleView}
use Rattle.mh_handle.proofs.holding.SingleHolds.{held-yet, taken-back}
use Rattle.mh_handle.proofs.handle.Handle.holds_again.Goals as goal

pub hold_again-requires-clause-held : goal.hold_again-requires-clause-held
hold_again-requires-clause-held c =
    let seat = c.args.w.now.seat.now in
    let all = subst (AreHeld seat) (sym (ap (λ (h : HandleView). h.held) c.self.view_is)) c.requires.held in
    held-first seat (c.self.inside.own ∷ []) c.self.inside.sides.items all

pub hold_all_again-requires-clause-held : goal.hold_all_again-requires-clause-held
hold_all_again-requires-clause-held c =
    let seat = c.args.w.now.seat.now in
    let mid = c.hold_again.new.self.seat.now in
    let all = subst (AreHeld seat) (sym (ap (λ (h : HandleView). h.held) c.self.view_is)) c.requires.held in
    subst (AreHeld mid) (sym c.as_slice.ensures.value)
    (held-yet [] (c.in_ok-own.own ∷ []) c.self.inside.sides.items seat mid c.in_ok-own.ensures.types
    (held-second seat (c.self.inside.own ∷ []) c.self.inside.sides.items all))

pub let_go-requires-clause-held : goal.let_go-requires-clause-held
let_go-requires-clause-held c =
    let seat = c.args.w.now.seat.now in
    let mid = c.hold_again.new.self.seat.now in
    held-yet [] [] (c.in_ok-own.own ∷ []) mid c.hold_all_again.new.self.seat.now c.in-Err.ensures.types
    (held-came [] [] (c.in_ok-own.own ∷ []) seat mid c.in_ok-own.ensures.types (held-none seat))

pub returns-in-Ok-clause-types : goal.returns-in-Ok-clause-types
returns-in-Ok-clause-types c =
    exchanges-both [] [] [] [] (c.in_ok-own.own ∷ []) c.in-Ok.sides.items c.args.w.now.seat.now c.hold_again.new.self.seat.now
    c.hold_all_again.new.self.seat.now c.in_ok-own.ensures.types c.in-Ok.ensures.types

pub returns-in-Err-clause-types : goal.returns-in-Err-clause-types
returns-in-Err-clause-types c =
    taken-back (c.in_ok-own.own ∷ []) c.args.w.now.seat.now c.hold_again.new.self.seat.now c.hold_all_again.new.self.seat.now
    c.let_go.new.self.seat.now c.in_ok-own.ensures.types c.in-Err.ensures.types c.let_go.ensures.types
