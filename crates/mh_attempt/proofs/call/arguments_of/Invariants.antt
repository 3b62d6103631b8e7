use Rattle.mh_condy.specs.Nodes.{found_in}
use Rattle.mh_attempt.proofs.linking.Resolving.{AreFound}
use Rattle.mh_attempt.proofs.call.arguments_of.Given as goal

-- the parts so far are resolved
abbrev pub invariant-loop-part : goal.invariant-loop-part
invariant-loop-part g l = AreFound (found_in l.asked.known) l.arguments.thrown l.part-items l.part-index l.found
