use Rattle.std.proofs.Common.{◌≡◌, drop}
use Rattle.mh_condy.specs.Lines.{is_assigned}
use Rattle.mh_condy.proofs.script.is_assigned.Given as goal

-- no line so far does
abbrev pub invariant-loop-step : goal.invariant-loop-step
invariant-loop-step l = is_assigned l.steps l.name ≡ is_assigned (drop l.step-index l.steps) l.name
