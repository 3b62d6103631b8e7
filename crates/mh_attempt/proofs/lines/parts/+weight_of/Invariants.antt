use Rattle.std.proofs.Common.{length}
use Rattle.mh_attempt.proofs.lines.parts.+weight_of.Given as goal

-- each call looks at one operand less
abbrev pub decreases-weight_of : goal.decreases-weight_of
decreases-weight_of l = length l.operands.now
