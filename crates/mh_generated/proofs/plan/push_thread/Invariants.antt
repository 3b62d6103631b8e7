use Rattle.std.proofs.Common.{◌≡◌, ◌++◌}
use Rattle.mh_generated.specs.Plan.{calls_text}
use Rattle.mh_generated.proofs.plan.push_thread.Given as goal

abbrev pub invariant-loop-call : goal.invariant-loop-call
invariant-loop-call l = l.text.items ≡ l.initial.text.items ++ calls_text l.sites l.thread l.call
