use Rattle.std.proofs.Common.{◌++◌, ◌∷◌, []}
use Rattle.mh_handle.specs.Chains.{learnt_by}
use Rattle.mh_handle.proofs.passes.Passing.{seen-form}
use Rattle.mh_handle.proofs.pass.FormPass.seen.Goals as goal

pub returns-clause-form : goal.returns-clause-form
returns-clause-form c =
    rw (← c.self.view_is) (seen-form (c.args.recipe.now ++ c.args.key.now ∷ []) (learnt_by c.self.inside.walks) c.self.inside.seen c.find.result
    c.self.invariant.learnt c.self.invariant.once c.find.ensures)
