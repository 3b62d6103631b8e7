use Rattle.std.proofs.Common.{◌∙◌, subst, length, ◌<◌, IfSome}
use Rattle.mh_leaf.specs.LeafTable.{LeafTable}
use Rattle.mh_leaves.specs.Find.{has_texts}
use Rattle.mh_leaves.proofs.Once.{position-within}
use Rattle.mh_leaves.proofs.leaves.Leaves.place_of.Goals as goal

pub returns-clause-within : goal.returns-clause-within
returns-clause-within c =
    subst (λ (table : LeafTable). IfSome c.find.result (λ at. at < length table.leaves)) c.self.view_is
    (position-within (has_texts c.args.owner c.args.name.now c.args.descriptor.now) c.self.inside.leaves.items c.find.result
    (c.find.ensures ∙ c.self.invariant.indexed.found c.args.owner c.args.name.now c.args.descriptor.now))
