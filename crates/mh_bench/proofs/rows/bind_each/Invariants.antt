use Rattle.std.proofs.Common.{[], ◌+◌, ◌-◌}
use Rattle.mh_handle.specs.Works.{IsReady}
use Rattle.mh_steps.specs.AnyTypes.{ExchangesAny}
use Rattle.mh_bench.proofs.rows.bind_each.Given as goal

-- for each turn that is left a number may be drawn, and the handles of the turns before were given back
abbrev pub invariant-loop-turn : goal.invariant-loop-turn
invariant-loop-turn g l =
    record {
      ready : IsReady l.w (1 + (l.turns - l.turn));
      types : ExchangesAny [] [] l.initial.w.seat.now l.w.seat.now;
    }
