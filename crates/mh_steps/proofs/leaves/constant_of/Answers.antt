use Rattle.mh_steps.proofs.Adding.{none-made}
use Rattle.mh_steps.proofs.leaves.constant_of.Goals as goal

pub returns-in_err-ret-clause-types : goal.returns-in_err-ret-clause-types
returns-in_err-ret-clause-types g c = none-made _ c.args.w.now c.from_residual.result c.from_residual.ensures.1

pub returns-in_err-value-clause-types : goal.returns-in_err-value-clause-types
returns-in_err-value-clause-types g c = none-made _ c.args.w.now c.from_residual-in_err-value.result c.from_residual-in_err-value.ensures.1
