use Rattle.std.proofs.Common.{ℕ, List, Bor, map}
use Rattle.mh_plan.proofs.Fitting.{told-calls}
use Rattle.mh_plan.proofs.Limits.{told-limits}
use Rattle.mh_plan.proofs.ReadWritten.{told-again}
use Rattle.mh_plan.proofs.reading.read_plan.Goals as goal

pub returns-clause-calls : goal.returns-clause-calls
returns-clause-calls c =
    told-calls c.args.leaves.now c.args.jobs.now (map (λ (line : Bor (List ℕ)). line.now) c.deref.result.now) c.read_all.result c.read_all.ensures

pub returns-clause-limits : goal.returns-clause-limits
returns-clause-limits c =
    told-limits c.args.leaves.now c.args.jobs.now (map (λ (line : Bor (List ℕ)). line.now) c.deref.result.now) c.read_all.result c.read_all.ensures

pub returns-clause-again : goal.returns-clause-again
returns-clause-again c =
    told-again c.args.leaves.now c.args.jobs.now (map (λ (line : Bor (List ℕ)). line.now) c.deref.result.now) c.read_all.result c.read_all.ensures
