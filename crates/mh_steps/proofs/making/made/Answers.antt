use Rattle.std.proofs.Common.{ap, [], ◌+◌, ◌*◌, arith}
use Rattle.mh_handle.proofs.obeying.Going.{goes_on-both, goes_on-more}
use Rattle.mh_handle.proofs.obeying.Rooms.{ready-less, ready-after}
use Rattle.mh_steps.proofs.Adding.{adds-held, adds-next, adds-refused}
use Rattle.mh_steps.proofs.Rooms.{stands-over}
use Rattle.mh_steps.proofs.making.made.Goals as goal

pub adapted-requires-clause-ready : goal.adapted-requires-clause-ready
adapted-requires-clause-ready g c =
    ready-after (2 * c.loop-step.step-index) 2 (2 * c.loop-step.step-index + 2) _ _ (omega arith) c.loop-step.invariant.goes_on
    (ready-less _ 200 (2 * c.loop-step.step-index + 2) (omega (arith, c.loop-step-test.true, c.requires.few))
    (ready-after 19 200 219 _ _ (omega arith) c.in_ok-h.ensures.goes_on c.requires.ready))

pub returns-in_err-h-2-clause-goes_on : goal.returns-in_err-h-2-clause-goes_on
returns-in_err-h-2-clause-goes_on g c =
    goes_on-more (19 + (2 * c.loop-step.step-index + 2)) 219 _ _ (omega (arith, c.loop-step-test.true, c.requires.few))
    (goes_on-both 19 (2 * c.loop-step.step-index + 2) _ _ _ c.in_ok-h.ensures.goes_on
    (goes_on-both (2 * c.loop-step.step-index) 2 _ _ _ c.loop-step.invariant.goes_on c.adapted.ensures.goes_on))

pub loop-step-preserved : goal.loop-step-preserved
loop-step-preserved g c = record {
  few = omega (arith, c.loop-step-test.true, c.requires.few);
  goes_on =
      goes_on-more (2 * c.loop-step.step-index + 2) (2 * (c.loop-step.step-index + 1)) _ _ (omega arith)
      (goes_on-both (2 * c.loop-step.step-index) 2 _ _ _ c.loop-step.invariant.goes_on c.adapted.ensures.goes_on);
  types =
      adds-next c.in_ok-h.h.held c.loop-step.h.held c.in_ok-h-2.h.held c.rooted.new.w.seat.now c.loop-step.w.seat.now c.adapted.new.w.seat.now
      c.loop-step.invariant.types c.in_ok-h-2.ensures.types;
  stands = stands-over _ _ c.in_ok-h-2.h (ap (λ leaves. leaves.now) c.adapted.ensures.goes_on.leaves) c.in_ok-h-2.ensures.stands;
}

pub returns-clause-goes_on : goal.returns-clause-goes_on
returns-clause-goes_on g c =
    goes_on-more (19 + 2 * c.loop-step.step-index) 219 _ _ (omega (arith, c.loop-step.invariant.few))
    (goes_on-both 19 (2 * c.loop-step.step-index) _ _ _ c.in_ok-h.ensures.goes_on c.loop-step.invariant.goes_on)

pub adapted-requires-clause-held : goal.adapted-requires-clause-held
adapted-requires-clause-held g c =
    adds-held c.loop-step.h.held c.args.w.now.seat.now c.loop-step.w.seat.now
    (adds-next [] c.in_ok-h.h.held c.loop-step.h.held c.args.w.now.seat.now c.rooted.new.w.seat.now c.loop-step.w.seat.now c.in_ok-h.ensures.types
    c.loop-step.invariant.types)

pub returns-in_err-h-2-clause-types : goal.returns-in_err-h-2-clause-types
returns-in_err-h-2-clause-types g c =
    let seat = c.args.w.now.seat.now in
    let mid = c.loop-step.w.seat.now in
    adds-refused _ [] c.args.w.now c.adapted.new.w c.from_residual-in_err-h-2.result c.from_residual-in_err-h-2.ensures.1
    (adds-next [] c.loop-step.h.held [] seat mid c.adapted.new.w.seat.now
    (adds-next [] c.in_ok-h.h.held c.loop-step.h.held seat c.rooted.new.w.seat.now mid c.in_ok-h.ensures.types c.loop-step.invariant.types)
    c.in_err-h-2.ensures.types)

pub returns-clause-types : goal.returns-clause-types
returns-clause-types g c =
    adds-next [] c.in_ok-h.h.held c.loop-step.h.held c.args.w.now.seat.now c.rooted.new.w.seat.now c.loop-step.w.seat.now c.in_ok-h.ensures.types
    c.loop-step.invariant.types
