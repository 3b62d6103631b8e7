use Rattle.std.proofs.Common.{length}
use Rattle.mh_script.proofs.fault.+handles_fault.Given as goal

-- each call looks at one token less
abbrev pub decreases-handles_fault : goal.decreases-handles_fault
decreases-handles_fault l = length l.tokens.now
