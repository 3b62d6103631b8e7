use Rattle.std.proofs.Common.{rules, ◌<◌, sym, subst}
use Rattle.mh_intern.specs.declared.holding.Holding.{Holding}
use Rattle.mh_intern.specs.Views.{SeatView}
use Rattle.mh_intern.specs.Seats.{IsSeated}
use Rattle.mh_intern.proofs.Seating.{seated_part}
use Rattle.mh_intern.proofs.table.TypeTable.split.Goals as goal

pub invariant_of-seat : goal.invariant_of-seat
invariant_of-seat c =
    let room = subst (λ (z : SeatView). c.args.room < z.room) (sym c.seat.view_is) c.requires.room.1 in (
      search rules,
      search rules,
      subst (λ (v : Holding). IsSeated v.holds v.room v.asked v.full) (sym c.split-caller.ensures.left.1)
          (seated_part _ _ c.args.room _ _ c.seat.invariant.2 c.requires.room.0 room),
    )
