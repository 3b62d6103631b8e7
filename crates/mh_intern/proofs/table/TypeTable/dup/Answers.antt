use Rattle.std.proofs.Common.{rules, ◌≤◌, sym, subst}
use Rattle.mh_intern.specs.declared.holding.Holding.{Holding}
use Rattle.mh_intern.specs.Callers.{CallerView}
use Rattle.mh_intern.specs.Views.{SeatView, HoldView}
use Rattle.mh_intern.specs.Seats.{Holds, IsSeated}
use Rattle.mh_intern.proofs.Seating.{seated_more}
use Rattle.mh_intern.proofs.table.TypeTable.dup.Goals as goal

pub invariant_of-seat : goal.invariant_of-seat
invariant_of-seat c = (
  search rules,
  search rules,
  subst (λ (z : CallerView). IsSeated z.view.holds z.view.room z.view.asked z.view.full) (sym c.in_err-entry.ensures.err) c.seat.invariant.2,
)

pub invariant_of-seat-2 : goal.invariant_of-seat-2
invariant_of-seat-2 c =
    let mine = subst (λ (z : SeatView × HoldView). Holds z.0 z.1) (λ i. (sym c.seat.view_is i, sym c.held.view_is i)) c.requires.held in
    let room = subst (λ (z : SeatView). 1 ≤ z.room) (sym c.seat.view_is) c.requires.room in (
      search rules,
      search rules,
      subst (λ (v : Holding). IsSeated v.holds v.room v.asked v.full) (sym c.in_ok-entry.ensures.moves.1)
          (seated_more c.held.inside.entry _ _ _ _ c.seat.invariant.2 mine.counted c.held.invariant room),
    )
