use Rattle.std.proofs.Common.{subst}
use Rattle.mh_condy.specs.Passes.{PassView}
use Rattle.mh_condy.specs.Trails.{HasPutAll, trail_of}
use Rattle.mh_runtime.proofs.constants.JoinedValues.{all-found}
use Rattle.mh_runtime.proofs.running.settled.Goals as goal

pub returns-clause-settled : goal.returns-clause-settled
returns-clause-settled g c = record {
  is = c.constants_told.ensures;
  put = subst (λ (p : PassView). HasPutAll (trail_of p)) c.constants.ensures c.in_ok-rows.ensures.own;
  found = all-found c.args.links.now c.told.ensures.found c.told.ensures.linked c.in_ok-table.ensures.own;
}
