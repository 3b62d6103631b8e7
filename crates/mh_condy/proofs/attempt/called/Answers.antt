use Rattle.std.proofs.Common.{◌∙◌, ap}
use Rattle.mh_link.specs.Constants.{as_recorded}
use Rattle.mh_condy.specs.Given.{call_outcome}
use Rattle.mh_condy.specs.Nodes.{found_in}
use Rattle.mh_condy.specs.Recorded.{outcome_of}
use Rattle.mh_condy.proofs.Calling.{called-is}
use Rattle.mh_condy.proofs.Under.{named-places}
use Rattle.mh_condy.proofs.attempt.called.Goals as goal

pub end_of-end-requires-clause-places : goal.end_of-end-requires-clause-places
end_of-end-requires-clause-places g c =
    let job = c.args.begun.job.now in
    let is = c.told.ensures.each job.number job c.requires.named in
    named-places g.J.ConstRun.run job.names is.places c.args.call.now.arguments.parts (is.names c.args.call.now c.requires.call)

pub end_of-end-requires-clause-script : goal.end_of-end-requires-clause-script
end_of-end-requires-clause-script g c =
    let job = c.args.begun.job.now in
    (c.told.ensures.each job.number job c.requires.named).script c.args.call.now c.requires.call

pub new-requires : goal.new-requires
new-requires g c =
    let outcome = call_outcome g.J.ConstRun.run (found_in c.args.pass.now.known) c.args.call.now c.args.begun.serial in
    called-is g.J.ConstRun.run c.args.pass.now.known c.args.begun.job.now c.args.begun.serial c.args.call.now c.args.asked.findings.items
    (outcome_of c.in_ok-value.value) c.requires.named c.requires.depth c.requires.call c.requires.asked.constants c.requires.asked.knows
    (c.in_ok-value.ensures outcome c.end_of-end.ensures
    ∙ ap (λ classes. as_recorded classes outcome) (c.classes.ensures ∙ ap (λ leaves. leaves.classes) c.leaves.ensures))
