use Rattle.std.proofs.Common.{length}
use Rattle.mh_runtime.proofs.workers.WorkersJoined.{begun}
use Rattle.mh_runtime.proofs.prelinking.PrelinkingSharesOut.start.Goals as goal

pub returns : goal.returns
returns g c = λ passes off count.
    begun g.J.Run.given c.args.self.now.linker.now c.args.self.now.constants.now (length c.args.self.now.plan.now) c.args.self.now.workers passes
    c.args.state.now off count
