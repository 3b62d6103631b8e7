use Rattle.mh_leaves.proofs.Keeping.{kept-declared}
use Rattle.mh_leaves.proofs.leaves.Leaves.add_class.Goals as goal

pub invariant_of-self : goal.invariant_of-self
invariant_of-self c = kept-declared c.declare.result _ _ _ _ _ c.self.invariant c.declare.ensures.added c.declare.ensures.err
