use Rattle.std.proofs.Common.{◌≡◌, ◌-◌}
use Rattle.mh_handle.specs.Works.{IsReady}
use Rattle.mh_bench.proofs.rows.edit_each.Given as goal

-- for each turn that is left a number may be drawn, and no type was asked for
abbrev pub invariant-loop-turn : goal.invariant-loop-turn
invariant-loop-turn g l =
    record {
      ready : IsReady l.w (l.turns - l.turn);
      types : l.w.types ≡ l.initial.w.types;
      seat : l.w.seat.now ≡ l.initial.w.seat.now;
    }
