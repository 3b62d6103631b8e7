use Rattle.std.proofs.Common.{◌≡◌, [], sym, ap, ap₂, ◌∙◌}
use Rattle.mh_values.specs.Computation.{Gave, Threw, after, and_then, raised}
use Rattle.mh_form.specs.Run.{ended, senses_in}
use Rattle.mh_form.specs.Stack.{done, run_slots}
use Rattle.mh_form.proofs.Computations.{after-nil}
use Rattle.mh_form.proofs.Links.{bound-split, bound-stuck, out-gave, out-stuck, out-threw}
use Rattle.mh_form.proofs.interpreter.run_whole.Goals as goal

pub run_in-requires : goal.run_in-requires
run_in-requires c =
    let table = c.args.call.now.leaves.now in
    let b = c.args.bound.now in
    let slots = c.args.stack.now.frame in
    let n = c.args.call.now.n in
    record {
      well_formed = λ h. c.requires.well_formed (bound-stuck table b slots n
          (ap (λ C. run_slots b.body.now.names (senses_in table b) slots (raised n C)) (sym c.requires.first) ∙ h));
    }

pub take_result-requires : goal.take_result-requires
take_result-requires c =
    let table = c.args.call.now.leaves.now in
    let b = c.args.bound.now in
    let slots = c.args.stack.now.frame in
    let n = c.args.call.now.n in
    let ran = c.run_in.new.stack in
    let gave = ap (λ g. done g ran) (sym c.in-On.is) ∙ (c.in_ok-run_in.ensures.done
    ∙ ap (λ C. after C (run_slots b.body.now.names (senses_in table b) slots (raised n C))) c.requires.first) in
    λ none. c.requires.well_formed (bound-split table b slots n
    ∙ out-stuck (run_slots b.body.now.names (senses_in table b) slots n) ran.frame [] ran.calls n b.body.now.out gave none)

pub returns-in-On : goal.returns-in-On
returns-in-On c =
    let table = c.args.call.now.leaves.now in
    let b = c.args.bound.now in
    let slots = c.args.stack.now.frame in
    let n = c.args.call.now.n in
    let ran = c.run_in.new.stack in
    let names = run_slots b.body.now.names (senses_in table b) slots n in
    let gave : Gave ran.frame ran.calls ≡ after [] names = ap (λ g. done g ran) (sym c.in-On.is) ∙ (c.in_ok-run_in.ensures.done
    ∙ ap (λ C. after C (run_slots b.body.now.names (senses_in table b) slots (raised n C))) c.requires.first) in
    ap (Gave c.take_result.result) c.take_result.ensures.calls
    ∙ (out-gave names ran.frame [] ran.calls n b.body.now.out c.take_result.result gave c.take_result.ensures.given
    ∙ (after-nil (and_then names n (ended b.body.now.out)) ∙ sym (bound-split table b slots n)))

pub returns-in-Threw : goal.returns-in-Threw
returns-in-Threw c =
    let table = c.args.call.now.leaves.now in
    let b = c.args.bound.now in
    let slots = c.args.stack.now.frame in
    let n = c.args.call.now.n in
    let ran = c.run_in.new.stack in
    let names = run_slots b.body.now.names (senses_in table b) slots n in
    let threw : Threw ran.thrown ran.calls ≡ after [] names = ap (λ g. done g ran) (sym c.in-Threw.is) ∙ (c.in_ok-run_in.ensures.done
    ∙ ap (λ C. after C (run_slots b.body.now.names (senses_in table b) slots (raised n C))) c.requires.first) in
    ap₂ Threw c.take_thrown.ensures.given c.take_thrown.ensures.calls
    ∙ (out-threw names [] ran.calls n ran.thrown b.body.now.out threw
    ∙ (after-nil (and_then names n (ended b.body.now.out)) ∙ sym (bound-split table b slots n)))
