use Rattle.std.proofs.Common.{length}
use Rattle.mh_drawn.proofs.words.+asked_of.Given as goal

-- each call looks at one word less
abbrev pub decreases-asked_of : goal.decreases-asked_of
decreases-asked_of l = length l.words.now
