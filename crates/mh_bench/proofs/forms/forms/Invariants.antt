use Rattle.std.proofs.Common.{◌-◌}
use Rattle.mh_handle.specs.Works.{GoesOn, IsReady}
use Rattle.mh_bench.proofs.forms.forms.Given as goal

-- for each turn that is left a number may be drawn, and for each one before at most one was drawn
abbrev pub invariant-loop-turn : goal.invariant-loop-turn
invariant-loop-turn g l = IsReady l.w (l.turns - l.turn) × GoesOn l.turn l.initial.w l.w
