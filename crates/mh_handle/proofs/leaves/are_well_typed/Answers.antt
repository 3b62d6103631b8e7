use Rattle.std.proofs.Common.{subst}
use Rattle.mh_values.specs.Classes.{AreClasses}
use Rattle.mh_tree.proofs.Registered.{registered-well_typed}
use Rattle.mh_handle.proofs.leaves.are_well_typed.Goals as goal

pub returns : goal.returns
returns c = registered-well_typed c.args.leaves.now (subst AreClasses c.classes.ensures c.len-classes.ensures.classes) c.count-count.ensures.registered
