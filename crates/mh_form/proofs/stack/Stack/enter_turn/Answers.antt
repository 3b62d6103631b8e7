use Rattle.std.proofs.Common.{◌≡◌, ◌++◌, pos, take, ap, ◌∙◌}
use Rattle.std.specs.Prelude.{option_to_list}
use Rattle.mh_form.specs.declared.slot.Slot.TheVariants.{I}
use Rattle.mh_form.specs.Stack.{StackView, begun, with_slot, with_slots}
use Rattle.mh_form.proofs.Frames.{turn-below, turn-frame}
use Rattle.mh_form.proofs.stack.Stack.enter_turn.Goals as goal

pub returns-clause-frame : goal.returns-clause-frame
returns-clause-frame c =
    let m = c.args.self.now in
    let G = option_to_list c.args.given in
    let x = I (pos c.args.number) in
    let own = c.count-count.result in
    let put : c.push_kept.new.self ≡ with_slots (with_slot (with_slots m G) x) (take c.args.kept (take own (with_slot (with_slots m G) x).frame)) =
    c.in_ok-push_kept.ensures
    ∙ ap (λ (s : StackView). with_slots s (take c.args.kept (take own s.frame)))
    (c.in_ok-push_number.ensures ∙ ap (λ (s : StackView). with_slot s x) c.in_ok-push_if_any.ensures) in
    ap (λ (s : StackView). s.frame) (c.begin.ensures ∙ ap (begun own) put) ∙ turn-frame m.frame G x own c.args.kept c.count-count.ensures

pub returns-clause-below : goal.returns-clause-below
returns-clause-below c =
    let m = c.args.self.now in
    let G = option_to_list c.args.given in
    let x = I (pos c.args.number) in
    let own = c.count-count.result in
    let put : c.push_kept.new.self ≡ with_slots (with_slot (with_slots m G) x) (take c.args.kept (take own (with_slot (with_slots m G) x).frame)) =
    c.in_ok-push_kept.ensures
    ∙ ap (λ (s : StackView). with_slots s (take c.args.kept (take own s.frame)))
    (c.in_ok-push_number.ensures ∙ ap (λ (s : StackView). with_slot s x) c.in_ok-push_if_any.ensures) in
    ap (λ (s : StackView). s.below) (c.begin.ensures ∙ ap (begun own) put)
    ∙ ap (λ q. m.below ++ q) (turn-below m.frame G x own c.args.kept c.count-count.ensures)
