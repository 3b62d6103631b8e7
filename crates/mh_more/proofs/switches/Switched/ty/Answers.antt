use Rattle.std.proofs.Common.{◌≡◌, ◌≤◌, ◌∙◌, List, ap, subst, sym, length}
use Rattle.mh_tree.specs.Check.{TellsRow}
use Rattle.mh_tree.specs.Rows.{most_cases, switch_row}
use Rattle.mh_handle.specs.Stands.{HandleView}
use Rattle.mh_more.specs.Several.{own_types, weights_of}
use Rattle.mh_more.proofs.SwitchAnswers.{switch-told}
use Rattle.mh_more.proofs.switches.Switched.ty.Goals as goal

pub returns : goal.returns
returns c =
    let cases = c.args.self.now.cases in
    let f = c.args.self.now.fallback in
    let rule : switch_row c.ty.result.now c.weight.result c.as_slice-2.result.now c.cases_weight.result
    ≡ switch_row f.ty f.weight c.in_ok-types.types c.cases_weight.result =
    λ i. switch_row (c.ty.ensures.ty i) (c.weight.ensures.weight i) (c.as_slice-2.ensures i) c.cases_weight.result in
    switch-told f cases c.cases_weight.result c.in_ok-types.types (c.in_ok-types.ensures ∙ ap own_types c.as_slice.ensures)
    (λ few. c.cases_weight.ensures (subst (λ (hs : List HandleView). length hs ≤ most_cases) (sym c.as_slice-3.ensures) few)
    ∙ ap weights_of c.as_slice-3.ensures) c.check_switch.result (subst (TellsRow c.check_switch.result) rule c.check_switch.ensures)
