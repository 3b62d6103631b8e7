use Rattle.std.proofs.Common.{length}
use Rattle.mh_astype.proofs.conversions.+push_convs.Given as goal

-- each call looks at one parameter less
abbrev pub decreases-push_convs : goal.decreases-push_convs
decreases-push_convs l = length l.asked.now
