use Rattle.std.proofs.Common.{◌≡◌, false, replicate}
use Rattle.mh_class_pool.proofs.references.unmarked.Given as goal

abbrev pub invariant-loop : goal.invariant-loop
invariant-loop l = l.marked.items ≡ replicate l.counter false
