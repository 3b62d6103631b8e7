use Rattle.std.proofs.Common.{◌∙◌, subst}
use Rattle.mh_handle.specs.Passes.{IsPut}
use Rattle.mh_handle.proofs.passes.Passing.{put-is, starts-trans}
use Rattle.mh_handle.proofs.walks.put_form.Goals as goal

pub returns-in-Ok-clause-put : goal.returns-in-Ok-clause-put
returns-in-Ok-clause-put g c =
    let nodes = c.find_or_put.new.walk.nodes in
    subst (λ ours. IsPut nodes ours c.in-Ok.put) c.loop.invariant.2 (put-is c.loop.walk.nodes nodes c.loop.form c.in-Ok.put c.in-Ok.ensures.put)

pub loop-preserved : goal.loop-preserved
loop-preserved g c = (
  c.find_or_put.ensures.chain ∙ c.loop.invariant.0,
  starts-trans c.args.walk.now.nodes c.loop.walk.nodes c.find_or_put.new.walk.nodes c.loop.invariant.1 c.find_or_put.ensures.nodes,
  c.in_ok-form-in-Err.ensures c.find_or_put.new.walk.nodes c.find_or_put.new.walk.chain c.loop.form c.in-Err.ensures.put ∙ c.loop.invariant.2,
)
