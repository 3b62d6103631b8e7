use Rattle.std.proofs.Common.{[], subst, sym}
use Rattle.mh_intern.specs.Exchanges.{AreHeld, Exchanges}
use Rattle.mh_intern.specs.Views.{SeatView}
use Rattle.mh_steps.proofs.Adding.{adds-held, adds-next}
use Rattle.mh_handle_tests.proofs.trees.answer_on.Goals as goal

pub give_back-requires-clause-held : goal.give_back-requires-clause-held
give_back-requires-clause-held g c =
    let held = c.in_ok-handle.handle.held in
    subst (λ (s : SeatView). AreHeld s held) (sym c.call-answer.ensures.seat)
    (adds-held held c.args.w.now.seat.now c.made.new.w.seat.now c.in_ok-handle.ensures.types)

pub returns-clause-types : goal.returns-clause-types
returns-clause-types g c =
    let held = c.in_ok-handle.handle.held in
    let back = subst (λ (s : SeatView). Exchanges [] held [] s c.give_back.new.w.seat.now) c.call-answer.ensures.seat c.give_back.ensures.types in
    adds-next [] held [] c.args.w.now.seat.now c.made.new.w.seat.now c.give_back.new.w.seat.now c.in_ok-handle.ensures.types ([], back)
