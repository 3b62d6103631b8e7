use Rattle.std.proofs.Common.{subst, length, ◌<◌, IfSome}
use Rattle.mh_values.specs.declared.class.ClassId.{ClassId}
use Rattle.mh_leaf.specs.LeafTable.{LeafTable}
use Rattle.mh_leaves.proofs.Growing.{class_named-all}
use Rattle.mh_leaves.proofs.leaves.Leaves.class_of.Goals as goal

pub returns-clause-within : goal.returns-clause-within
returns-clause-within c =
    subst (λ (table : LeafTable). IfSome c.find.result (λ (class : ClassId). class.0 < length table.classes)) c.self.view_is
    (class_named-all c.self.inside.classes c.args.name.now c.find.result c.find.ensures.found)
