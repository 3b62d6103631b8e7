use Rattle.std.proofs.Common.{◌≡◌, refl, sym, ap, ap₂, ◌∙◌, subst, IfOk}
use Rattle.mh_values.specs.Computation.{raised}
use Rattle.mh_form.specs.OnSlots.{on_slots}
use Rattle.mh_form.specs.Run.{picked}
use Rattle.mh_form.specs.Stack.{done, on_stack}
use Rattle.mh_form.proofs.OnSlots.{called-fills, called-picked, picks-some}
use Rattle.mh_form.proofs.leaf.call_at.Goals as goal

pub on_slots-requires : goal.on_slots-requires
on_slots-requires c =
    let there = called-picked c.args.call.now.leaves.now c.args.id c.args.stack.now.frame c.args.places.now
    (raised c.args.call.now.n c.args.stack.now.calls) c.leaf-leaf.result.now c.leaf-leaf.ensures c.requires in
    λ none. there (sym (ap₂ picked c.frame.ensures c.as_slice.ensures) ∙ none)

pub returns-in-Some-clause-done : goal.returns-in-Some-clause-done
returns-in-Some-clause-done c =
    let table = c.args.call.now.leaves.now in
    let frame = c.args.stack.now.frame in
    let places = c.args.places.now in
    let n = raised c.args.call.now.n c.args.stack.now.calls in
    let leaf = c.leaf-leaf.result.now in
    let slot = c.in-Some.slot in
    let picks = picks-some frame places (picked frame places) refl (called-picked table c.args.id frame places n leaf c.leaf-leaf.ensures c.requires) in
    let count : c.raised-before.result ≡ n = c.raised-before.ensures ∙ ap (raised c.args.call.now.n) c.calls.ensures in
    let same : on_slots leaf.kind c.frame.result.now c.as_slice.result.now c.raised-before.result ≡ on_slots leaf.kind frame places n =
    λ i. on_slots leaf.kind (c.frame.ensures i) (c.as_slice.ensures i) (count i) in
    let given = sym same ∙ (sym c.in_ok-slot.ensures ∙ c.in-Some.is) in
    let all = called-fills table c.args.id frame places n leaf picks.0 slot c.leaf-leaf.ensures c.if-leaf.false picks.1 given c.requires in
    subst (λ r. IfOk c.give_called.result (λ g. done g c.give_called.new.stack ≡ on_stack c.args.stack.now r)) (sym all.2)
    (c.give_called.ensures.done leaf all.0 c.leaf-leaf.ensures all.1)
