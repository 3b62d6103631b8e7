use Rattle.std.proofs.Common.{length}
use Rattle.mh_astype.proofs.conversions.+are_trivial.Given as goal

-- each call looks at one parameter less
abbrev pub decreases-are_trivial : goal.decreases-are_trivial
decreases-are_trivial l = length l.asked.now
