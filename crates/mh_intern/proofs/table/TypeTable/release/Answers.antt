use Rattle.std.proofs.Common.{[], ◌∷◌, rules, sym, subst}
use Rattle.mh_intern.specs.declared.holding.Holding.{Holding}
use Rattle.mh_intern.specs.Views.{SeatView, HoldView}
use Rattle.mh_intern.specs.Seats.{Holds, IsSeated}
use Rattle.mh_intern.specs.Trades.{Trades}
use Rattle.mh_intern.proofs.Trading.{trades_lowered}
use Rattle.mh_intern.proofs.Seating.{seated_less}
use Rattle.mh_intern.proofs.table.TypeTable.release.Goals as goal

pub invariant_of-seat : goal.invariant_of-seat
invariant_of-seat c =
    let mine = subst (λ (z : SeatView × HoldView). Holds z.0 z.1) (λ i. (sym c.seat.view_is i, sym c.held.view_is i)) c.requires.held in (
      search rules,
      search rules,
      subst (λ (v : Holding). IsSeated v.holds v.room v.asked v.full) (sym c.release.ensures.1)
          (seated_less c.held.inside.entry _ _ _ _ c.seat.invariant.2 mine.counted),
    )

pub returns-clause-traded : goal.returns-clause-traded
returns-clause-traded c =
    let mine = subst (λ (z : SeatView × HoldView). Holds z.0 z.1) (λ i. (sym c.seat.view_is i, sym c.held.view_is i)) c.requires.held in
    subst (λ (z : SeatView × (HoldView × Holding)). Trades z.0.holds (z.1.0.entry ∷ []) [] z.1.1.holds)
    (λ i. (c.seat.view_is i, (c.held.view_is i, sym c.release.ensures.1 i)))
    (trades_lowered c.held.inside.entry c.seat.inside.caller.view.holds mine.counted)
