use Rattle.mh_jobs.specs.Job.{constants_at}
use Rattle.mh_jobs.proofs.Parted.{AreParts}
use Rattle.mh_jobs.proofs.unresolved.parts_of.Given as goal

abbrev pub invariant-loop-k : goal.invariant-loop-k
invariant-loop-k l = AreParts l.from.leaves.now l.from.view.now l.from.first (constants_at l.from.view.now l.bootstrap) l.k l.parts
