use Rattle.std.proofs.Common.{length}
use Rattle.mh_drawing.proofs.why.+push_fields.Given as goal

-- each call looks at one field less
abbrev pub decreases-push_fields : goal.decreases-push_fields
decreases-push_fields l = length l.one.now
