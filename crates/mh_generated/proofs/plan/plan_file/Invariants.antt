use Rattle.std.proofs.Common.{◌≡◌}
use Rattle.mh_generated.specs.Plan.{threads_text}
use Rattle.mh_generated.proofs.plan.plan_file.Given as goal

abbrev pub invariant-loop-thread : goal.invariant-loop-thread
invariant-loop-thread l = l.text.items ≡ threads_text l.sites l.thread
