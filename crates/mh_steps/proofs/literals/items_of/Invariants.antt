use Rattle.std.proofs.Common.{◌≡◌, length}
use Rattle.mh_steps.proofs.literals.items_of.Given as goal

abbrev pub invariant-loop-text : goal.invariant-loop-text
invariant-loop-text l = length l.items ≡ l.text-index
