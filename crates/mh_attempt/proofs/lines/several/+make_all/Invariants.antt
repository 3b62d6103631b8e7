use Rattle.std.proofs.Common.{length}
use Rattle.mh_attempt.proofs.lines.several.+make_all.Given as goal

-- each call looks at one operand less
abbrev pub decreases-make_all : goal.decreases-make_all
decreases-make_all g l = length l.operands.now
