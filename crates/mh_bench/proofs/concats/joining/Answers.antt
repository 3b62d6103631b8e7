use Rattle.mh_steps.proofs.Adding.{none-made}
use Rattle.mh_bench.proofs.concats.joining.Goals as goal

pub returns-in_err-ty-clause-types : goal.returns-in_err-ty-clause-types
returns-in_err-ty-clause-types g c = none-made _ c.args.w.now c.from_residual.result c.from_residual.ensures.1

pub returns-in_err-pieces-clause-types : goal.returns-in_err-pieces-clause-types
returns-in_err-pieces-clause-types g c = none-made _ c.args.w.now c.from_residual-in_err-pieces.result c.from_residual-in_err-pieces.ensures.1
