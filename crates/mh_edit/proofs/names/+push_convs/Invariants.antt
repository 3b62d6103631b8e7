use Rattle.std.proofs.Common.{length}
use Rattle.mh_edit.proofs.names.+push_convs.Given as goal

-- each call looks at one entry less
abbrev pub decreases-push_convs : goal.decreases-push_convs
decreases-push_convs l = length l.entries.now
