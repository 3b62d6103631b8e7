use Rattle.std.proofs.Common.{◌∙◌, ap}
use Rattle.mh_link.specs.Constants.{as_recorded}
use Rattle.mh_condy.specs.Recorded.{outcome_of}
use Rattle.mh_condy.proofs.Calling.{unasked-is}
use Rattle.mh_condy.proofs.attempt.unasked.Goals as goal

pub new-requires : goal.new-requires
new-requires g c =
    unasked-is g.J.ConstRun.run c.args.begun.job.now c.args.begun.serial c.args.failure (outcome_of c.in_ok-value.value) c.new-under.result.items c.requires
    c.new-under.ensures.items
    (λ outcome tells. c.in_ok-value.ensures outcome tells
    ∙ ap (λ classes. as_recorded classes outcome) (c.classes.ensures ∙ ap (λ leaves. leaves.classes) c.leaves.ensures))
