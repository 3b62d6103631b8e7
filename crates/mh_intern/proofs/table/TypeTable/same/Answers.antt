use Rattle.std.proofs.Common.{◌∙◌, sym, subst}
use Rattle.mh_values.specs.Same.{is_same_method_type}
use Rattle.mh_intern.specs.declared.holding.Entry.{Entry}
use Rattle.mh_intern.specs.Views.{SeatView, HoldView}
use Rattle.mh_intern.specs.Seats.{Holds}
use Rattle.mh_intern.proofs.Seating.{agree_test}
use Rattle.mh_intern.proofs.table.TypeTable.same.Goals as goal

pub returns : goal.returns
returns c =
    let a : Entry = c.a.inside.entry in
    let b : Entry = c.b.inside.entry in
    agree_test c.seat.inside.caller.view.holds a b c.seat.invariant.2.agrees
    (subst (λ (z : SeatView × HoldView). Holds z.0 z.1) (λ i. (sym c.seat.view_is i, sym c.a.view_is i)) c.requires.holds.0).counted
    (subst (λ (z : SeatView × HoldView). Holds z.0 z.1) (λ i. (sym c.seat.view_is i, sym c.b.view_is i)) c.requires.holds.1).counted
    ∙ (λ i. is_same_method_type (c.a.view_is i).entry.ty (c.b.view_is i).entry.ty)
