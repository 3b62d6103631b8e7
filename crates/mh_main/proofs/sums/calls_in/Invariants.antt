use Rattle.std.proofs.Common.{◌≡◌, ◌+◌, drop}
use Rattle.mh_plan.specs.Limits.{calls_in}
use Rattle.mh_main.proofs.sums.calls_in.Given as goal

abbrev pub invariant-loop-calls : goal.invariant-loop-calls
invariant-loop-calls l = l.count + calls_in (drop l.calls-index l.plan) ≡ calls_in l.plan
