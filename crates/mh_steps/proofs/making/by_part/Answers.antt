use Rattle.mh_tree.specs.Tree as tree
use Rattle.mh_steps.proofs.Rooms.{some-tree}
use Rattle.mh_steps.proofs.making.by_part.Goals as goal

pub returns-in-Filter-clause-stands : goal.returns-in-Filter-clause-stands
returns-in-Filter-clause-stands g c =
    some-tree c.args.w.now.leaves.now (tree.FilterArg c.requires.stands.0 c.in-Filter.position c.requires.part.0) c.filter.result
    (c.filter.ensures.stands c.requires.stands.0 c.requires.part.0 c.requires.stands.1 c.requires.part.1)

pub returns-in-Fold-clause-stands : goal.returns-in-Fold-clause-stands
returns-in-Fold-clause-stands g c =
    some-tree c.args.w.now.leaves.now (tree.Fold c.requires.stands.0 c.in-Fold.position c.requires.part.0) c.fold.result
    (c.fold.ensures.stands c.requires.stands.0 c.requires.part.0 c.requires.stands.1 c.requires.part.1)

pub returns-in-Collect-clause-stands : goal.returns-in-Collect-clause-stands
returns-in-Collect-clause-stands g c =
    some-tree c.args.w.now.leaves.now (tree.Collect c.requires.stands.0 c.in-Collect.position c.requires.part.0) c.collect.result
    (c.collect.ensures.stands c.requires.stands.0 c.requires.part.0 c.requires.stands.1 c.requires.part.1)
