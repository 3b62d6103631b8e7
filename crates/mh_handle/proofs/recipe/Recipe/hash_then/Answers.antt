use Rattle.std.proofs.Common.{ap₂, ◌∙◌, sym}
use Rattle.mh_handle.specs.Hashes.{mixed}
use Rattle.mh_handle.proofs.recipes.Recipes.{hash_of-snoc}
use Rattle.mh_handle.proofs.recipe.Recipe.hash_then.Goals as goal

pub returns-clause-hash : goal.returns-clause-hash
returns-clause-hash c =
    rw (← c.self.view_is) (c.mix.ensures.mixed ∙ (ap₂ mixed c.self.invariant.0 c.hash.ensures.part ∙ sym (hash_of-snoc c.self.inside.keys c.args.key.now)))
