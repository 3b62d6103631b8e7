use Rattle.std.proofs.Common.{◌≡◌, drop}
use Rattle.std.specs.List.{list_all}
use Rattle.mh_link.specs.ConstScripts.{is_plain_step}
use Rattle.mh_condy.proofs.script.are_plain.Given as goal

abbrev pub invariant-loop-step : goal.invariant-loop-step
invariant-loop-step l = list_all is_plain_step l.steps ≡ list_all is_plain_step (drop l.step-index l.steps)
