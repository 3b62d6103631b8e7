use Rattle.std.proofs.Common.{◌≡◌, ◌∙◌, ◌+◌, ◌<◌, ◌≤◌, ℕ, length, count_by, nat_lt, sym, subst, ap, arith}
use Rattle.mh_seats.specs.Room.{limit}
use Rattle.mh_intern.specs.Views.{SeatView}
use Rattle.mh_intern.specs.Seats.{distinct_slots, distinct_types}
use Rattle.mh_intern.proofs.Closing.{as_many}
use Rattle.mh_intern.proofs.Settling.{closes_settled}
use Rattle.mh_intern.proofs.table.TypeTable.close.Goals as goal

pub returns-clause-slots : goal.returns-clause-slots
returns-clause-slots c =
    let f = c.close_with.ensures.values.2 in
    let whole = subst (λ (z : SeatView). z.room + length z.holds ≡ limit) (sym c.seat.view_is) c.requires.whole in
    c.slots_in_use.ensures ∙ (ap (λ ws. count_by (λ n. nat_lt 0 n) ws) (sym f.2)
    ∙ (closes_settled f.0 f.1.0 _ _ c.seat.inside.caller.view f.1.1 c.settled-last.ensures.settled whole c.seat.invariant.2.small
    ∙ ap (λ (z : SeatView). distinct_slots z.holds) c.seat.view_is))

pub returns-clause-types : goal.returns-clause-types
returns-clause-types c =
    let f = c.close_with.ensures.values.2 in
    let whole = subst (λ (z : SeatView). z.room + length z.holds ≡ limit) (sym c.seat.view_is) c.requires.whole in
    c.slots_in_use.ensures ∙ (ap (λ ws. count_by (λ n. nat_lt 0 n) ws) (sym f.2)
    ∙ (closes_settled f.0 f.1.0 _ _ c.seat.inside.caller.view f.1.1 c.settled-last.ensures.settled whole c.seat.invariant.2.small
    ∙ (as_many _ c.seat.invariant.2.agrees ∙ ap (λ (z : SeatView). distinct_types z.holds) c.seat.view_is)))
