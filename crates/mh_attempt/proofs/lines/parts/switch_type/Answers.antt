use Rattle.std.proofs.Common.{◌∙◌, sym, ap, Ok}
use Rattle.mh_attempt.proofs.nodes.SwitchNodes.{switch-told}
use Rattle.mh_attempt.proofs.lines.parts.switch_type.Goals as goal

pub returns : goal.returns
returns c t ts stands stand =
    switch-told c.args.w.now.leaves.now c.args.fallback.now c.args.cases.now t ts c.as_slice.result.now stands stand c.typed-own.result.ty.now
    c.typed-own.result.weight (c.typed-own.ensures.typed t stands) (c.in_ok-types.ensures ts stand ∙ ap Ok (sym c.as_slice.ensures))
    c.cases_weight-weight.result
    c.cases_weight-weight.ensures c.check_switch.result c.check_switch.ensures
