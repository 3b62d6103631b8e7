use Rattle.std.proofs.Common.{length}
use Rattle.mh_edit.proofs.fit.+names_each.Given as goal

-- each call looks at one place less
abbrev pub decreases-names_each : goal.decreases-names_each
decreases-names_each l = length l.reorder.now
