use Rattle.mh_runtime.specs.Bases.{pass_of}
use Rattle.mh_runtime.proofs.lanes.WholeJoin.{joined-none}
use Rattle.mh_runtime.proofs.joining.PlanRunForkJoin.start.Goals as goal

pub returns : goal.returns
returns g c = λ lanes forked count.
    (forked.0, joined-none g.J.Run.given (pass_of g.B.Based.base) c.args.self.now.plan.now c.args.joined.now lanes forked.1 count)
