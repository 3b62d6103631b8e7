use Rattle.std.proofs.Common.{length}
use Rattle.mh_astype.proofs.conversions.+push_entries.Given as goal

-- each call looks at one parameter less
abbrev pub decreases-push_entries : goal.decreases-push_entries
decreases-push_entries l = length l.asked.now
