use Rattle.std.proofs.Common.{length}
use Rattle.mh_attempt.proofs.lines.nodes.+cases_of.Given as goal

-- each call looks at one case less
abbrev pub decreases-cases_of : goal.decreases-cases_of
decreases-cases_of l = length l.cases.now
