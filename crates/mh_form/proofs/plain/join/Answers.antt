use Rattle.std.proofs.Common.{◌≡◌, sym, ap₂, ◌∙◌, subst, IfOk}
use Rattle.mh_values.specs.Computation.{raised}
use Rattle.mh_form.specs.Run.{senses_in}
use Rattle.mh_form.specs.Slots.{joined_at}
use Rattle.mh_form.specs.Stack.{done, on_stack}
use Rattle.mh_form.proofs.CalledAt.{step-joined}
use Rattle.mh_form.proofs.plain.join.Goals as goal

pub join_at-requires : goal.join_at-requires
join_at-requires c =
    let call = c.args.call.now in
    let frame = c.args.stack.now.frame in
    let args = c.args.args.now in
    let pieces = c.in-Some.pieces.now in
    let step = step-joined call.leaves.now.classes pieces (senses_in call.leaves.now c.args.bound.now) c.args.field frame args
    (raised call.n c.args.stack.now.calls) (sym c.in-Some.ensures) c.requires in
    λ none. c.requires (step ∙ (sym (ap₂ (λ cs slots. joined_at cs pieces slots args) c.classes.ensures c.frame.ensures) ∙ none))

pub returns-clause-done : goal.returns-clause-done
returns-clause-done c =
    let call = c.args.call.now in
    let frame = c.args.stack.now.frame in
    let args = c.args.args.now in
    let pieces = c.in-Some.pieces.now in
    let step = step-joined call.leaves.now.classes pieces (senses_in call.leaves.now c.args.bound.now) c.args.field frame args
    (raised call.n c.args.stack.now.calls) (sym c.in-Some.ensures) c.requires in
    let is = c.in_ok-joined.ensures ∙ (ap₂ (λ cs slots. joined_at cs pieces slots args) c.classes.ensures c.frame.ensures ∙ sym step) in
    subst (λ v. IfOk c.give.result (λ g. done g c.give.new.self ≡ on_stack c.args.stack.now v)) is c.give.ensures.done
