use Rattle.std.proofs.Common.{◌≡◌, map, take}
use Rattle.mh_runtime.specs.Report.{as_attempt}
use Rattle.mh_runtime.proofs.running.resolving.Given as goal

abbrev pub invariant-loop-attempt : goal.invariant-loop-attempt
invariant-loop-attempt l = l.all.items ≡ map as_attempt (take l.attempt-index l.attempts)
