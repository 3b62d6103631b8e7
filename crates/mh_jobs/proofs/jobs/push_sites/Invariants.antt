use Rattle.mh_jobs.specs.Jobs.{HasMore}
use Rattle.mh_jobs.specs.Types.{AreTypes}
use Rattle.mh_jobs.proofs.Numbering.{AreMade}
use Rattle.mh_jobs.proofs.jobs.push_sites.Given as goal

abbrev pub invariant-loop-k : goal.invariant-loop-k
invariant-loop-k l =
    AreMade l.from.leaves.now l.from.scripts.now l.from.view.now l.from.first l.initial.jobs l.k l.jobs × HasMore l.initial.jobs l.jobs
    × AreTypes l.from.leaves.now.classes l.types
