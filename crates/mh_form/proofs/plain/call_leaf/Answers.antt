use Rattle.std.proofs.Common.{◌≡◌, sym, ap, ◌∙◌, subst, IfOk}
use Rattle.mh_values.specs.Computation.{raised}
use Rattle.mh_form.specs.Run.{senses_in}
use Rattle.mh_form.specs.Slots.{filled}
use Rattle.mh_form.specs.Stack.{done, on_stack}
use Rattle.mh_form.proofs.CalledAt.{step-called}
use Rattle.mh_form.proofs.plain.call_leaf.Goals as goal

pub call_at-requires : goal.call_at-requires
call_at-requires c =
    let table = c.args.call.now.leaves.now in
    let n = raised c.args.call.now.n c.args.stack.now.calls in
    let senses = senses_in table c.args.bound.now in
    λ none. c.requires (step-called table c.in-Some.leaf senses c.args.field c.args.stack.now.frame c.args.args.now n (sym c.in-Some.ensures) c.requires
    ∙ ap filled none)

pub returns-clause-done : goal.returns-clause-done
returns-clause-done c =
    let table = c.args.call.now.leaves.now in
    let n = raised c.args.call.now.n c.args.stack.now.calls in
    let senses = senses_in table c.args.bound.now in
    subst
    (λ v. IfOk c.call_at.result (λ g. done g c.call_at.new.stack ≡ on_stack c.args.stack.now v))
    (sym (step-called table c.in-Some.leaf senses c.args.field c.args.stack.now.frame c.args.args.now n (sym c.in-Some.ensures) c.requires))
    c.call_at.ensures.done
