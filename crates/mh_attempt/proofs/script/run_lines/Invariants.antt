use Rattle.std.proofs.Common.{drop}
use Rattle.mh_attempt.proofs.running.RunLines.{HasRun}
use Rattle.mh_attempt.proofs.script.run_lines.Given as goal

-- what the lines so far have left
abbrev pub invariant-loop-step : goal.invariant-loop-step
invariant-loop-step g l = HasRun l.step-index l.steps (drop l.step-index l.steps) l.end l.initial.registers l.registers l.initial.w l.w
