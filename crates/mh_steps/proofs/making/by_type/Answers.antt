use Rattle.mh_steps.proofs.Adding.{adds}
use Rattle.mh_steps.proofs.making.by_type.Goals as goal

pub returns-in-AsType-clause-types : goal.returns-in-AsType-clause-types
returns-in-AsType-clause-types g c = adds _ c.args.target.held c.args.w.now c.as_type.new.w c.as_type.result c.as_type.ensures.types

pub returns-in-Explicit-clause-types : goal.returns-in-Explicit-clause-types
returns-in-Explicit-clause-types g c = adds _ c.args.target.held c.args.w.now c.explicit.new.w c.explicit.result c.explicit.ensures.types
