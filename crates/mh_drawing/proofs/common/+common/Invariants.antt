use Rattle.std.proofs.Common.{length}
use Rattle.mh_drawing.proofs.common.+common.Given as goal

-- each call looks at one key less
abbrev pub decreases-common : goal.decreases-common
decreases-common l = length l.one.now
