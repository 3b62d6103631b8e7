use Rattle.std.proofs.Common.{sym, ◌∙◌, ap, Ok, Err}
use Rattle.mh_jobs.specs.declared.job.Argument.TheVariants as argument
use Rattle.mh_condy.specs.Recorded.{outcome_of}
use Rattle.mh_attempt.proofs.linking.AskedConstants.{argument-error, argument-none, argument-value}
use Rattle.mh_attempt.proofs.nodes.Telling.{throws-tells}
use Rattle.mh_attempt.proofs.call.constant_argument.Goals as goal

pub returns-in_default : goal.returns-in_default
returns-in_default g c =
    throws-tells c.thrown.result _ _ (argument-none c.args.asked.now.known c.args.c c.in_default.ensures) c.thrown.ensures

pub returns-in_ok-copy-in-Value : goal.returns-in_ok-copy-in-Value
returns-in_ok-copy-in-Value g c =
    argument-value c.args.asked.now.known c.args.c c.in-Some.node.now _ c.in-Some.ensures (sym c.value.ensures ∙ ap outcome_of c.in-Value.is)
    ∙ ap (λ v. Ok (argument.Value v)) (sym c.in_ok-copy-in-Value.ensures)

pub returns-in_ok-copy-in-Error : goal.returns-in_ok-copy-in-Error
returns-in_ok-copy-in-Error g c =
    argument-error c.args.asked.now.known c.args.c c.in-Some.node.now _ c.in-Some.ensures (sym c.value.ensures ∙ ap outcome_of c.in-Error.is)
    ∙ ap (λ e. Err e) (sym c.in_ok-copy-in-Error.ensures)
