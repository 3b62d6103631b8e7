use Rattle.std.proofs.Common.{◌≡◌}
use Rattle.mh_outside.proofs.words.all_words.Given as goal

abbrev pub invariant-loop-word : goal.invariant-loop-word
invariant-loop-word g l = l.all.items ≡ l.yielded
