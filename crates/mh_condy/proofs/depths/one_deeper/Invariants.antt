use Rattle.std.proofs.Common.{◌≡◌, map, take}
use Rattle.mh_jobs.specs.declared.constants.ConstJob.{ConstJob}
use Rattle.mh_condy.specs.Depths.{over_names}
use Rattle.mh_condy.proofs.depths.one_deeper.Given as goal

abbrev pub invariant-loop-c : goal.invariant-loop-c
invariant-loop-c l = l.next.items ≡ map (λ (job : ConstJob). over_names l.depths job.names) (take l.c l.jobs)
