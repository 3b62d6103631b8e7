use Rattle.mh_steps.proofs.Adding.{none-made}
use Rattle.mh_steps.proofs.roots.rooted.Goals as goal

pub returns-in_err-ty-in-Identity-clause-types : goal.returns-in_err-ty-in-Identity-clause-types
returns-in_err-ty-in-Identity-clause-types g c = none-made _ c.args.w.now c.from_residual.result c.from_residual.ensures.1

pub returns-in_err-ret-in-Throw-clause-types : goal.returns-in_err-ret-in-Throw-clause-types
returns-in_err-ret-in-Throw-clause-types g c =
    none-made _ c.args.w.now c.from_residual-in_err-ret-in-Throw.result c.from_residual-in_err-ret-in-Throw.ensures.1
