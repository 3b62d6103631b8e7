use Rattle.mh_runtime.specs.Linkers.{pass_in}
use Rattle.mh_runtime.proofs.asking.MadeCalls.{site-made, site-refused, site-stopped}
use Rattle.mh_runtime.proofs.context.Context.call_site.Goals as goal

pub returns-in_err-linkage-clause-makes : goal.returns-in_err-linkage-clause-makes
returns-in_err-linkage-clause-makes g c =
    site-refused g.J.Run.given c.args.site c.args.args.now (pass_in c.args.pass.now c.args.w.now) (pass_in c.resolve.new.pass c.resolve.new.w)
    c.in_err-linkage.field-0.0 c.from_residual.result c.from_residual.ensures.1 c.in_err-linkage.ensures.resolves

pub returns-in_err-call_with-clause-makes : goal.returns-in_err-call_with-clause-makes
returns-in_err-call_with-clause-makes g c =
    site-stopped g.J.Run.given c.args.site c.args.args.now (pass_in c.args.pass.now c.args.w.now) (pass_in c.resolve.new.pass c.resolve.new.w)
    c.in_ok-linkage.linkage c.in_ok-linkage.ensures.resolves c.from_residual-in_err-call_with.result c.from_residual-in_err-call_with.ensures.1

pub returns-clause-makes : goal.returns-clause-makes
returns-clause-makes g c =
    site-made g.J.Run.given c.args.site c.args.args.now (pass_in c.args.pass.now c.args.w.now) (pass_in c.resolve.new.pass c.resolve.new.w)
    c.in_ok-linkage.linkage c.in_ok-linkage.ensures.resolves c.job-job.ensures.named c.told.ensures c.in_ok-call_with.field-0 c.in_ok-call_with.ensures
