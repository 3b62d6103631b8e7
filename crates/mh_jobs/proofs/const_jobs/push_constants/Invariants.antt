use Rattle.mh_jobs.proofs.NumberedOn.{AreMade}
use Rattle.mh_jobs.proofs.const_jobs.push_constants.Given as goal

abbrev pub invariant-loop-d : goal.invariant-loop-d
invariant-loop-d l = AreMade l.from.leaves.now l.from.scripts.now l.from.view.now l.initial.constants l.d l.constants
