use Rattle.std.proofs.Common.{◌≡◌, drop}
use Rattle.mh_condy.specs.Lines.{lines_pass}
use Rattle.mh_condy.proofs.script.lines.Given as goal

-- the lines so far have passed
abbrev pub invariant-loop-step : goal.invariant-loop-step
invariant-loop-step l = lines_pass l.serial l.steps ≡ lines_pass l.serial (drop l.step-index l.steps)
