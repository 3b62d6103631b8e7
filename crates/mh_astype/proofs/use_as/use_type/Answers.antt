use Rattle.std.proofs.Common.{subst}
use Rattle.mh_tree.specs.Check.{TellsRow}
use Rattle.mh_astype.proofs.Asking.{row-at}
use Rattle.mh_astype.proofs.use_as.use_type.Goals as goal

pub returns-clause-tells : goal.returns-clause-tells
returns-clause-tells c =
    subst (λ row. TellsRow c.check_convert.result row)
    (row-at c.args.rules c.classes-classes.result.now c.args.w.now.leaves.now.classes c.ty.result.now c.args.target.now.ty c.weight.result
    c.args.target.now.weight c.args.ty.now
    c.classes-classes.ensures.classes c.ty.ensures.ty c.weight.ensures.weight) c.check_convert.ensures
