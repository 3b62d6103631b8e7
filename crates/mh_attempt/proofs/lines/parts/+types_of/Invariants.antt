use Rattle.std.proofs.Common.{length}
use Rattle.mh_attempt.proofs.lines.parts.+types_of.Given as goal

-- each call looks at one operand less
abbrev pub decreases-types_of : goal.decreases-types_of
decreases-types_of l = length l.operands.now
