use Rattle.std.proofs.Common.{length}
use Rattle.mh_drawn.proofs.words.+push_others.Given as goal

-- each call looks at one word less
abbrev pub decreases-push_others : goal.decreases-push_others
decreases-push_others l = length l.words.now
