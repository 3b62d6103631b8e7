use Rattle.std.proofs.Common.{sym, subst}
use Rattle.mh_condy.specs.Given.{IsUnasked}
use Rattle.mh_condy.specs.declared.thrown.Failure.TheVariants.{Thrown}
use Rattle.mh_condy.proofs.Calling.{uncalled-unasked}
use Rattle.mh_condy.proofs.attempt.uncalled.Goals as goal

pub unasked-requires : goal.unasked-requires
unasked-requires g c =
    subst (λ e. IsUnasked g.J.ConstRun.run c.args.begun.job.now c.args.begun.serial (Thrown e)) (sym c.in_ok-thrown.ensures)
    (uncalled-unasked g.J.ConstRun.run c.args.begun.job.now c.args.begun.serial c.args.exc.now c.requires.named c.requires.depth c.requires.call)
