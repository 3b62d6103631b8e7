use Rattle.std.proofs.Common.{◌+◌, ◌*◌, ◌%◌, ap, ◌∙◌, sym}
use Rattle.mh_handle.specs.Chains.{chain_count, kind_of}
use Rattle.mh_handle.proofs.recipes.Recipes.{chain_of-snoc}
use Rattle.mh_handle.proofs.recipe.Recipe.chain_then.Goals as goal

pub returns-clause-chain : goal.returns-clause-chain
returns-clause-chain c = rw (← c.self.view_is) (c.chain_then.ensures.chain
    ∙ (ap (λ n. (31 * n + kind_of c.args.key.now) % chain_count) c.self.invariant.2 ∙ sym (chain_of-snoc c.self.inside.keys c.args.key.now)))
