use Rattle.std.proofs.Common.{length}
use Rattle.mh_more.proofs.switches.+weight_of.Given as goal

-- each call looks at one handle less
abbrev pub decreases-weight_of : goal.decreases-weight_of
decreases-weight_of l = length l.handles.now
