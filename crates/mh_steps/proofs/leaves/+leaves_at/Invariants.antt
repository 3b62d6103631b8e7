use Rattle.std.proofs.Common.{length}
use Rattle.mh_steps.proofs.leaves.+leaves_at.Given as goal

-- each call looks at one leaf less
abbrev pub decreases-leaves_at : goal.decreases-leaves_at
decreases-leaves_at g l = length l.ids.now
