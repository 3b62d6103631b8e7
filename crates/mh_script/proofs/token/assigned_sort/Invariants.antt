use Rattle.std.proofs.Common.{◌≡◌, drop, fold, None}
use Rattle.mh_script.specs.Tokens.{sort_after}
use Rattle.mh_script.proofs.token.assigned_sort.Given as goal

abbrev pub invariant-loop-step : goal.invariant-loop-step
invariant-loop-step l = fold (sort_after l.name) None l.steps ≡ fold (sort_after l.name) l.sort (drop l.step-index l.steps)
