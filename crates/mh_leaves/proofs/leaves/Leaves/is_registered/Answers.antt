use Rattle.std.proofs.Common.{◌∙◌, ap}
use Rattle.std.specs.Option.{is_some}
use Rattle.mh_leaves.specs.Find.{has_texts}
use Rattle.mh_leaves.proofs.Once.{position-any}
use Rattle.mh_leaves.proofs.leaves.Leaves.is_registered.Goals as goal

pub returns : goal.returns
returns c =
    c.is_some.ensures ∙ ap is_some c.place_of.ensures.found
    ∙ position-any (has_texts c.args.owner c.args.name.now c.args.descriptor.now) c.args.self.now.leaves
