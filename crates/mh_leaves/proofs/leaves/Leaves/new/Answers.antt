use Rattle.mh_leaves.proofs.Keeping.{kept-nothing}
use Rattle.mh_leaves.proofs.leaves.Leaves.new.Goals as goal

pub invariant_of-result : goal.invariant_of-result
invariant_of-result c = kept-nothing c.in_ok-builtin.field-0 c.new.result.items c.new-2.result c.new.ensures.items c.new-2.ensures
