use Rattle.std.proofs.Common.{[], rules, ap, ◌<◌, ◌≤◌, ◌∙◌, sym, subst, Result, IfOk}
use Rattle.mh_values.specs.declared.types.MethodTy.{MethodTy}
use Rattle.mh_intern.specs.declared.error.InternError.{InternError}
use Rattle.mh_intern.specs.declared.holding.Holding.{Holding}
use Rattle.mh_intern.specs.Callers.{CallerView}
use Rattle.mh_intern.specs.Held.{has}
use Rattle.mh_intern.specs.Lists.{entry}
use Rattle.mh_intern.specs.Views.{SeatView, HoldView, seat_view}
use Rattle.mh_intern.specs.Seats.{Holds, KeepsSlot, IsSeated}
use Rattle.mh_intern.specs.Trades.{Trades, hold_of}
use Rattle.mh_intern.proofs.Seating.{seated_again, seated_interned, known_seated}
use Rattle.mh_intern.proofs.Trading.{trades_interned}
use Rattle.mh_intern.proofs.Granting.{holds_answer, keeps_answer}
use Rattle.mh_intern.proofs.table.TypeTable.intern.Goals as goal

pub returns-in_err-entry-clause-known : goal.returns-in_err-entry-clause-known
returns-in_err-entry-clause-known g c =
    known_seated c.again.new.self.view (subst (λ (z : CallerView). IsSeated z.view.holds z.view.room z.view.asked z.view.full) (sym c.in_err-entry.ensures.err)
    c.seat.invariant.2)

pub invariant_of-seat-in-Some : goal.invariant_of-seat-in-Some
invariant_of-seat-in-Some g c =
    let again = c.in_ok-entry.ensures.some c.in-Some.entry c.in-Some.is in
    let room = subst (λ (z : SeatView). 1 ≤ z.room) (sym c.seat.view_is) c.requires.room.0 in (
      search rules,
      search rules,
      subst (λ (v : Holding). IsSeated v.holds v.room v.asked v.full) (sym again.moves.1)
          (seated_again c.in-Some.entry _ _ _ _ c.seat.invariant.2 again.held again.slot room),
    )

pub returns-in-Some-clause-again : goal.returns-in-Some-clause-again
returns-in-Some-clause-again g c = λ k mine.
    let again = c.in_ok-entry.ensures.some c.in-Some.entry c.in-Some.is in
    let there = subst (λ (z : SeatView). 0 < has k c.args.ty z.holds) (sym c.seat.view_is) mine in
    ap (λ (h : HoldView). h.entry.slot) c.hold.ensures
    ∙ (c.seat.invariant.2.agrees c.in-Some.entry (entry k c.args.ty) again.held there).1 again.ty

pub returns-in-Some-clause-known : goal.returns-in-Some-clause-known
returns-in-Some-clause-known g c =
    let again = c.in_ok-entry.ensures.some c.in-Some.entry c.in-Some.is in
    let room = subst (λ (z : SeatView). 1 ≤ z.room) (sym c.seat.view_is) c.requires.room.0 in
    known_seated c.again.new.self.view (subst (λ (v : Holding). IsSeated v.holds v.room v.asked v.full) (sym again.moves.1)
    (seated_again c.in-Some.entry _ _ _ _ c.seat.invariant.2 again.held again.slot room))

pub invariant_of-seat-2 : goal.invariant_of-seat-2
invariant_of-seat-2 g c =
    let l = c.ask-answer.ensures.looked in
    let same = c.in_ok-entry.ensures.none c.in_default.is in
    let v = c.again.new.self.view in
    let room = subst (λ (z : CallerView). 1 ≤ z.view.room) (sym same) (subst (λ (z : SeatView). 1 ≤ z.room) (sym c.seat.view_is) c.requires.room.0) in
    let before = subst (λ (z : CallerView). IsSeated z.view.holds z.view.room z.view.asked z.view.full) (sym same) c.seat.invariant.2 in (
      search rules,
      search rules,
      seated_interned _ v _ _ c.ask-answer.ensures.caller before room l.agrees l.full l.asked l.most,
    )

pub returns-clause-held : goal.returns-clause-held
returns-clause-held g c =
    let claims = c.put_back.new.seat.table_id in
    let holders = c.ask-answer.new.self.table in
    let w = c.ask-answer.new.self.view in
    subst (λ (r : Result HoldView InternError). IfOk r (λ h. Holds (seat_view claims holders w) h)) (sym c.held_of.ensures)
    (holds_answer claims holders _ c.again.new.self.view _ w c.ask-answer.ensures.caller)

pub returns-clause-again : goal.returns-clause-again
returns-clause-again g c =
    let same = c.in_ok-entry.ensures.none c.in_default.is in
    subst (λ (z : Result HoldView InternError × (MethodTy × SeatView)). IfOk z.0 (KeepsSlot z.1.0 z.1.1.holds))
    (λ i. (
      sym c.held_of.ensures i,
      (
        c.of-request.ensures.ty i,
        (ap (λ (z : CallerView). seat_view c.seat.inside.claimer.table_id z.table z.view) same ∙ c.seat.view_is) i,
      ),
    ))
    (keeps_answer c.ask-answer.new.self.table _ c.again.new.self.view _ _ c.ask-answer.ensures.caller c.ask-answer.ensures.looked.agrees)

pub returns-clause-traded : goal.returns-clause-traded
returns-clause-traded g c =
    let same = c.in_ok-entry.ensures.none c.in_default.is in
    subst (λ (z : SeatView × Result HoldView InternError). Trades z.0.holds [] (hold_of z.1) c.ask-answer.new.self.view.holds)
    (λ i. (
      (ap (λ (z : CallerView). seat_view c.seat.inside.claimer.table_id z.table z.view) same ∙ c.seat.view_is) i,
      sym c.held_of.ensures i,
    ))
    (trades_interned c.ask-answer.new.self.table _ c.again.new.self.view _ _ c.ask-answer.ensures.caller)
