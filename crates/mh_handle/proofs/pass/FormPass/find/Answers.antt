use Rattle.std.proofs.Common.{refl}
use Rattle.mh_handle.specs.Chains.{learnt_by}
use Rattle.mh_handle.proofs.passes.Learning.{kept-found}
use Rattle.mh_handle.proofs.passes.Passing.{found-form, pass-learns}
use Rattle.mh_handle.proofs.pass.FormPass.find.Goals as goal

pub invariant_of-self : goal.invariant_of-self
invariant_of-self c = pass-learns c.self.inside.walks c.find.new.self _ c.self.inside.seen c.self.inside.seat c.self.invariant c.find.ensures.chains
    c.find.ensures.learnt c.find.ensures.once

pub returns-clause-learns : goal.returns-clause-learns
returns-clause-learns c = rw (← c.self.view_is) (record {
  table = refl;
  learnt = kept-found (learnt_by c.self.inside.walks) (learnt_by c.find.new.self) c.find.ensures.learnt c.find.ensures.once;
  made = refl;
  asked = refl;
  seat = refl;
})

pub returns-clause-form : goal.returns-clause-form
returns-clause-form c = found-form c.args.recipe.now (learnt_by c.find.new.self) c.find.result c.find.ensures.once c.find.ensures.found
