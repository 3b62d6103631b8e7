use Rattle.mh_runtime.proofs.workers.WorkerSteps.{link-handed, site-linked}
use Rattle.mh_runtime.proofs.prelinking.PrelinkingLinking.link.Goals as goal

pub returns-in_err-resolve-clause-step : goal.returns-in_err-resolve-clause-step
returns-in_err-resolve-clause-step g c =
    link-handed g.J.Run.given c.args.item c.args.pass.now c.resolve.new.pass c.in_err-resolve.field-0.0 c.from_residual.result
    c.from_residual.ensures.1 c.in_err-resolve.ensures.resolves

pub returns-clause-step : goal.returns-clause-step
returns-clause-step g c =
    site-linked g.J.Run.given c.args.item c.args.pass.now c.resolve.new.pass c.in_ok-resolve.field-0 c.in_ok-resolve.ensures.resolves
