use Rattle.mh_jobs.specs.Job.{constants_at}
use Rattle.mh_jobs.proofs.Parted.{AreNamed}
use Rattle.mh_jobs.proofs.unresolved.names_of.Given as goal

abbrev pub invariant-loop-k : goal.invariant-loop-k
invariant-loop-k l = AreNamed l.from.view.now l.from.first (constants_at l.from.view.now l.bootstrap) l.k l.names
