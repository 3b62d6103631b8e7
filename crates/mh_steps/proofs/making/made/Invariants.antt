use Rattle.std.proofs.Common.{◌*◌, ◌≤◌}
use Rattle.mh_handle.specs.Stands.{StandsForSome}
use Rattle.mh_handle.specs.Works.{GoesOn}
use Rattle.mh_steps.specs.AnyTypes.{ExchangesAny}
use Rattle.mh_steps.proofs.making.made.Given as goal

-- for each step that was made two numbers may have been drawn
abbrev pub invariant-loop-step : goal.invariant-loop-step
invariant-loop-step g l =
    record {
      few : l.step-index ≤ 100;
      goes_on : GoesOn (2 * l.step-index) l.initial.w l.w;
      types : ExchangesAny l.initial.h.held l.h.held l.initial.w.seat.now l.w.seat.now;
      stands : StandsForSome l.w.leaves.now l.h;
    }
