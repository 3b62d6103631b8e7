use Rattle.std.proofs.Common.{◌+◌, ◌*◌, take}
use Rattle.mh_link.specs.Depth.{rank}
use Rattle.mh_condy.specs.Given.{HaveGiven}
use Rattle.mh_condy.proofs.resolving.+resolve.Given as goal

abbrev pub decreases-arguments : goal.decreases-arguments
decreases-arguments g l = 3 * l.under

abbrev pub decreases-attempt : goal.decreases-attempt
decreases-attempt g l = 3 * rank g.J.ConstRun.run l.c + 1

abbrev pub decreases-resolve : goal.decreases-resolve
decreases-resolve g l = 3 * rank g.J.ConstRun.run l.c + 2

-- the parts so far were gone through
abbrev pub invariant-arguments-loop-at : goal.invariant-arguments-loop-at
invariant-arguments-loop-at g l = HaveGiven g.J.ConstRun.run l.under (take l.at l.parts) l.findings.items l.fn.pass l.pass
