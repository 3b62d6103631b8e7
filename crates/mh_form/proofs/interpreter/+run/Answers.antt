use Rattle.std.proofs.Common.{◌≡◌, ◌≤◌, ◌-◌, ◌+◌, ◌++◌, ◌∷◌, [], suc, Some, sym, ap, ap₂, ◌∙◌, subst, append-nil, arith, rules, drop, drop-cons, length, IfOk, List}
use Rattle.std.specs.Prelude.{slice_get}
use Rattle.std.specs.Option.{option_map}
use Rattle.std.proofs.lemmas.List.{get_or_read}
use Rattle.mh_values.specs.declared.calls.LeafCall.{LeafCall}
use Rattle.mh_values.specs.declared.value.Exc.{Exc}
use Rattle.mh_values.specs.Computation.{Gave, Ran, Threw, after, raised, is_caught}
use Rattle.mh_leaf.specs.Ending.{rethrown}
use Rattle.mh_form.specs.declared.slot.Slot.{Slot}
use Rattle.mh_form.specs.declared.field.Bound.{the_lemmas}
use Rattle.mh_form.specs.Endings.{bounded_on, cleaned_up, finally_on, loop_on, rethrown_on, started_on, taken, turns_on}
use Rattle.mh_form.specs.Guards.{guarded_on}
use Rattle.mh_form.specs.Run.{result_at, run_field, senses_in, turn_of}
use Rattle.mh_form.specs.Slots.{filled, none_as_zero, told_turns}
use Rattle.mh_form.specs.Stack.{StackView, done, left, on_stack, run_slots, step_on}
use Rattle.mh_form.proofs.Cleaning.{Entered, below-again, bounded-gave, bounded-stuck, bounded-threw, cleaned-run, enough-below, finally-gave, finally-stuck, finally-threw}
use Rattle.mh_form.proofs.Cleaning.{follows, follows-stuck, frame-again, goes-on, loop-gave, loop-stuck, loop-threw, rethrown-run, start-gave, start-stuck, start-threw, under-again}
use Rattle.mh_form.proofs.Endings.{pushed-some, rethrown-gave, rethrown-threw, slot-given, taken-gave, taken-threw, turns-over}
use Rattle.mh_form.proofs.Fields.{run_field-held, run_field-none}
use Rattle.mh_form.proofs.Frames.{left-below}
use Rattle.mh_form.proofs.Guarding.{after-stuck, again, guarded-gave, handled, threw-again}
use Rattle.mh_form.proofs.Links.{bound-gave, bound-out, bound-stuck, bound-threw}
use Rattle.mh_form.proofs.Split.{name-next}
use Rattle.mh_form.proofs.Turning.{turn-begins, turn-ends, turn-next, turn-stuck, turn-waits}
use Rattle.mh_form.proofs.interpreter.+run.Goals as goal

pub run_part-run_in-requires : goal.run_part-run_in-requires
run_part-run_in-requires t c =
    let stuck = bound-stuck c.args.call.now.leaves.now c.args.part.now c.args.stack.now.frame (raised c.args.call.now.n c.args.stack.now.calls) in
    (search (rules, the_lemmas, get_or_read), λ h. c.requires.well_formed (stuck h))

pub run_part-leave_with-requires-clause-out : goal.run_part-leave_with-requires-clause-out
run_part-leave_with-requires-clause-out t c =
    let ran = c.run_in.new.stack in
    let gave = ap (λ g. done g ran) (sym c.in-On.is) ∙ c.in_ok-run_in.ensures.done in
    λ none. c.requires.well_formed (bound-out c.args.call.now.leaves.now c.args.part.now c.args.stack.now.frame ran.frame c.args.stack.now.calls ran.calls
    (raised c.args.call.now.n c.args.stack.now.calls) gave none)

pub run_part-returns-in_ok-leave_with-in-On-clause-done : goal.run_part-returns-in_ok-leave_with-in-On-clause-done
run_part-returns-in_ok-leave_with-in-On-clause-done t c =
    let old = c.args.stack.now in
    let ran = c.run_in.new.stack in
    let out = c.args.part.now.body.now.out in
    let F = (left c.args.count old).frame in
    let H = c.leave_with.new.self.frame in
    let gave = ap (λ g. done g ran) (sym c.in-On.is) ∙ c.in_ok-run_in.ensures.done in
    let is : option_map (λ r. F ++ none_as_zero r ∷ []) (result_at out ran.frame) ≡ Some H =
    ap (λ b. option_map (λ r. drop (length b - c.args.count) b ++ none_as_zero r ∷ []) (result_at out ran.frame)) (sym c.in_ok-run_in.ensures.below)
    ∙ c.in_ok-leave_with-in-On.ensures.frame in
    ap (Gave H) c.in_ok-leave_with-in-On.ensures.calls
    ∙ bound-gave c.args.call.now.leaves.now c.args.part.now old.frame F ran.frame H old.calls ran.calls (raised c.args.call.now.n old.calls) gave is

pub run_part-returns-in-Threw-clause-done : goal.run_part-returns-in-Threw-clause-done
run_part-returns-in-Threw-clause-done t c =
    let old = c.args.stack.now in
    let ran = c.run_in.new.stack in
    let threw = ap (λ g. done g ran) (sym c.in-Threw.is) ∙ c.in_ok-run_in.ensures.done in
    ap (λ (m : StackView). Threw m.thrown m.calls) c.leave.ensures
    ∙ bound-threw c.args.call.now.leaves.now c.args.part.now old.frame (left c.args.count old).frame old.calls ran.calls
    (raised c.args.call.now.n old.calls) ran.thrown threw

pub run_entered-unreachable-requires-in_default : goal.run_entered-unreachable-requires-in_default
run_entered-unreachable-requires-in_default t c =
    let fields = c.args.bound.now.fields in
    c.requires.well_formed (run_field-none c.args.call.now.leaves.now fields.items c.args.field c.index.result.now c.args.stack.now.frame
    (raised c.args.call.now.n c.args.stack.now.calls) (omega (arith, fields.ok.0)) c.index.ensures c.in_default.not-Part)

pub run_entered-run_part-requires : goal.run_entered-run_part-requires
run_entered-run_part-requires t c =
    let fields = c.args.bound.now.fields in
    let is = run_field-held c.args.call.now.leaves.now fields.items c.args.field c.index.result.now c.in-Part.part c.deref.result.now c.args.stack.now.frame
    (raised c.args.call.now.n c.args.stack.now.calls) (omega (arith, fields.ok.0)) c.index.ensures c.in-Part.is c.deref.ensures in
    (search (rules, the_lemmas, get_or_read), (c.requires.waits, λ h. c.requires.well_formed (is ∙ h)))

pub run_entered-returns-clause-done : goal.run_entered-returns-clause-done
run_entered-returns-clause-done t c =
    let fields = c.args.bound.now.fields in
    let is = run_field-held c.args.call.now.leaves.now fields.items c.args.field c.index.result.now c.in-Part.part c.deref.result.now c.args.stack.now.frame
    (raised c.args.call.now.n c.args.stack.now.calls) (omega (arith, fields.ok.0)) c.index.ensures c.in-Part.is c.deref.ensures in
    subst
    (λ v. IfOk c.run_part.result (λ g. done g c.run_part.new.stack ≡ on_stack (left c.args.count c.args.stack.now) (filled v)))
    (sym is)
    c.run_part.ensures.done

pub run_guarded-handle-requires : goal.run_guarded-handle-requires
run_guarded-handle-requires t c =
    let table = c.args.call.now.leaves.now in
    let n = c.args.call.now.n in
    let old = c.args.stack.now in
    let m = c.run_entered.new.stack in
    let ok = c.in_ok-kept.ensures in
    let ran = c.in_ok-run_entered.ensures in
    let threw = threw-again table n c.args.bound.now c.args.guard old c.enter_again.new.self m c.in_ok-kept.kept (ok.frame, ok.below, ok.calls, ok.count)
    ran.below (ran.threw c.in-Threw.is) (ap (λ g. done g m) (sym c.in-Threw.is) ∙ ran.done) in
    let waits = subst (λ b. c.args.count ≤ length b) (sym threw.0) c.requires.waits in
    let stuck = after-stuck old.calls (guarded_on table n c.args.bound.now c.args.guard old) in
    (search (rules, the_lemmas, get_or_read), (waits, λ h. c.requires.well_formed (stuck (threw.1 ∙ ap (after m.calls) h))))

pub run_guarded-returns-in-Threw-clause-done : goal.run_guarded-returns-in-Threw-clause-done
run_guarded-returns-in-Threw-clause-done t c =
    let table = c.args.call.now.leaves.now in
    let n = c.args.call.now.n in
    let old = c.args.stack.now in
    let m = c.run_entered.new.stack in
    let ok = c.in_ok-kept.ensures in
    let ran = c.in_ok-run_entered.ensures in
    let threw = threw-again table n c.args.bound.now c.args.guard old c.enter_again.new.self m c.in_ok-kept.kept (ok.frame, ok.below, ok.calls, ok.count)
    ran.below (ran.threw c.in-Threw.is) (ap (λ g. done g m) (sym c.in-Threw.is) ∙ ran.done) in
    subst
    (λ v. IfOk c.handle.result (λ g. done g c.handle.new.stack ≡ v))
    (handled table n c.args.bound.now c.args.guard old m c.args.count threw.0 threw.1)
    c.handle.ensures.done

pub run_guarded-returns-in_ok-leave_with_last-in-On-clause-done : goal.run_guarded-returns-in_ok-leave_with_last-in-On-clause-done
run_guarded-returns-in_ok-leave_with_last-in-On-clause-done t c =
    let table = c.args.call.now.leaves.now in
    let n = c.args.call.now.n in
    let part = run_field (senses_in table c.args.bound.now) c.args.guard.part in
    let old = c.args.stack.now in
    let gave = c.run_entered.new.stack in
    let last = c.leave_with_last.new.self in
    let ok = c.in_ok-kept.ensures in
    let below : gave.below ≡ old.below =
    c.in_ok-run_entered.ensures.below ∙ left-below old.below old.frame c.enter_again.new.self.below c.in_ok-kept.kept ok.below ok.count in
    let is = ap (λ g. done g gave) (sym c.in-On.is) ∙ (c.in_ok-run_entered.ensures.done
    ∙ again part n old c.enter_again.new.self c.in_ok-kept.kept ok.frame ok.below ok.calls ok.count) in
    let whole = ap₂ (λ b k. option_map (λ s. drop (length b - c.args.count) b ++ s ∷ []) (slice_get gave.frame k)) (sym below) (sym ok.count)
    ∙ c.in_ok-leave_with_last-in-On.ensures.frame in
    ap (Gave last.frame) c.in_ok-leave_with_last-in-On.ensures.calls
    ∙ guarded-gave (part old.frame (raised n old.calls)) old.frame (left c.args.count old).frame gave.frame last.frame old.calls gave.calls
    (is_caught table.classes c.args.guard.class) (raised n old.calls) _ is whole

pub run_in-loop-name-preserved : goal.run_in-loop-name-preserved
run_in-loop-name-preserved t c =
    let m = c.loop-name.stack in
    let next = c.step.new.stack in
    let table = c.args.call.now.leaves.now in
    let n = c.args.call.now.n in
    let items = c.as_slice-name-items.result.now in
    let senses = senses_in table c.args.bound.now in
    let i = c.loop-name.name-index in
    let name = c.name-item.result in
    let more : suc i ≡ i + 1 = omega arith in
    let cons : drop i items ≡ name ∷ drop (suc i) items =
    drop-cons items i name c.loop-name-test.true ∙ ap (λ x. x ∷ drop (suc i) items) (sym c.name-item.is) in
    let h : Gave next.frame next.calls ≡ on_stack m (step_on table n c.args.bound.now name m) =
    ap (λ g. done g next) (sym c.in-On.is) ∙ c.in_ok-step.ensures.done in
    record {
      same =
          c.loop-name.invariant.same
          ∙ (ap (λ q. after m.calls (run_slots q senses m.frame (raised n m.calls))) cons
          ∙ (name-next (step_on table n c.args.bound.now name m) m.frame next.frame m.calls next.calls n
          (λ f k. run_slots (drop (suc i) items) senses f k) h
          ∙ ap (λ j. after next.calls (run_slots (drop j items) senses next.frame (raised n next.calls))) more));
      below = c.in_ok-step.ensures.below ∙ c.loop-name.invariant.below;
    }

pub run_taking-take_last-requires : goal.run_taking-take_last-requires
run_taking-take_last-requires t c =
    let old = c.args.stack.now in
    let ran = c.run_entered.new.stack in
    let gave = ap (λ g. done g ran) (sym c.in-On.is) ∙ c.in_ok-run_entered.ensures.done in
    pushed-some _ (left c.args.count old).frame ran.frame old.calls ran.calls gave

pub run_taking-returns-in-On-clause-taken : goal.run_taking-returns-in-On-clause-taken
run_taking-returns-in-On-clause-taken t c =
    let old = c.args.stack.now in
    let ran = c.run_entered.new.stack in
    let last = c.take_last.new.self in
    let s = c.take_last.result in
    let gave = ap (λ g. done g ran) (sym c.in-On.is) ∙ c.in_ok-run_entered.ensures.done in
    ap (Gave s) c.take_last.ensures.calls
    ∙ (taken-gave _ (left c.args.count old).frame ran.frame last.frame old.calls ran.calls s gave c.take_last.ensures.given).1

pub run_taking-returns-in-On-clause-frame : goal.run_taking-returns-in-On-clause-frame
run_taking-returns-in-On-clause-frame t c =
    let old = c.args.stack.now in
    let ran = c.run_entered.new.stack in
    let last = c.take_last.new.self in
    let gave = ap (λ g. done g ran) (sym c.in-On.is) ∙ c.in_ok-run_entered.ensures.done in
    (taken-gave _ (left c.args.count old).frame ran.frame last.frame old.calls ran.calls c.take_last.result gave c.take_last.ensures.given).0

pub run_taking-returns-in-Threw-clause-taken : goal.run_taking-returns-in-Threw-clause-taken
run_taking-returns-in-Threw-clause-taken t c =
    let old = c.args.stack.now in
    let ran = c.run_entered.new.stack in
    taken-threw _ (left c.args.count old).frame old.calls ran.calls ran.thrown
    (ap (λ g. done g ran) (sym c.in-Threw.is) ∙ c.in_ok-run_entered.ensures.done)

pub run_turns-run_taking-requires : goal.run_turns-run_taking-requires
run_turns-run_taking-requires t c =
    let table = c.args.call.now.leaves.now in
    let l = c.args.turning.looping in
    let m = c.loop-number.stack in
    let begun = c.enter_turn.new.self in
    let own = c.in_ok-own.own in
    let v = c.loop-number.last in
    let ok = c.in_ok-own.ensures in
    let begins = turn-begins l c.loop-number.number v own m begun _ ok.frame c.given.ensures ok.below ok.calls ok.count in
    let stuck = turn-stuck table c.args.call.now.n c.args.bound.now l c.loop-number.number c.args.turning.turns v own m begun c.loop-number-test.true begins in
    let waits = turn-waits table c.args.call.now.n c.args.bound.now l c.loop-number.number c.args.turning.turns v own m begun c.loop-number-test.true
    begins in (
      search (rules, the_lemmas, get_or_read),
      (waits, λ h. c.requires.well_formed (after-stuck c.args.stack.now.calls _ (c.loop-number.invariant.same ∙ stuck h))),
    )

pub run_turns-loop-number-preserved : goal.run_turns-loop-number-preserved
run_turns-loop-number-preserved t c =
    let table = c.args.call.now.leaves.now in
    let l = c.args.turning.looping in
    let m = c.loop-number.stack in
    let begun = c.enter_turn.new.self in
    let own = c.in_ok-own.own in
    let v = c.loop-number.last in
    let ran = c.run_taking.new.stack in
    let ok = c.in_ok-own.ensures in
    let begins = turn-begins l c.loop-number.number v own m begun _ ok.frame c.given.ensures ok.below ok.calls ok.count in
    let gave = ap (λ o. taken o ran) (sym c.in-Some.is) ∙ c.in_ok-slot.ensures.taken in
    record {
      same =
          c.loop-number.invariant.same
          ∙ turn-next table c.args.call.now.n c.args.bound.now l c.loop-number.number c.args.turning.turns v own m begun c.loop-number-test.true begins
          ran c.in-Some.slot gave c.in_ok-slot.ensures.frame;
      below =
          c.in_ok-slot.ensures.below
          ∙ (left-below m.below m.frame begun.below own ok.below ok.count ∙ c.loop-number.invariant.below);
    }

-- ---- cleanups

pub clean_up-run_entered-requires : goal.clean_up-run_entered-requires
clean_up-run_entered-requires t c =
    let old = c.args.stack.now in
    let ends = c.end_with.new.self in
    let ok = c.in_ok-end_with.ensures in
    let run = cleaned-run c.args.call.now.leaves.now c.args.call.now.n c.args.bound.now c.args.ending old ends c.args.slot _ ok.frame c.given.ensures
    ok.calls in (
      search (rules, the_lemmas, get_or_read),
      (under-again c.args.count old ends ok.below c.requires.waits, λ h. c.requires.well_formed (run ∙ ap filled h)),
    )

pub clean_up-returns-clause-done : goal.clean_up-returns-clause-done
clean_up-returns-clause-done t c =
    let old = c.args.stack.now in
    let ends = c.end_with.new.self in
    let ok = c.in_ok-end_with.ensures in
    let run = cleaned-run c.args.call.now.leaves.now c.args.call.now.n c.args.bound.now c.args.ending old ends c.args.slot _ ok.frame c.given.ensures
    ok.calls in
    subst
    (λ v. IfOk c.run_entered.result (λ g. done g c.run_entered.new.stack ≡ v))
    (follows c.args.count old ends (cleaned_up c.args.call.now.leaves.now c.args.call.now.n c.args.bound.now c.args.ending c.args.slot old) _ ok.below
    (ap₂ (λ (C : List LeafCall) (r : Ran Slot). after C r) (sym ok.calls) run))
    c.run_entered.ensures.done

pub clean_up_thrown-run_entered-requires : goal.clean_up_thrown-run_entered-requires
clean_up_thrown-run_entered-requires t c =
    let old = c.args.stack.now in
    let ends = c.end_with.new.self in
    let ok = c.in_ok-end_with.ensures in
    let run = rethrown-run c.args.call.now.leaves.now c.args.call.now.n c.args.bound.now c.args.ending old ends c.in_ok-exc.exc _ ok.frame
    c.default_slot.ensures ok.calls
    (c.in_ok-exc.ensures ∙ c.thrown.ensures) in (
      search (rules, the_lemmas, get_or_read),
      (under-again c.args.count old ends ok.below c.requires.waits, λ h. c.requires.well_formed (run ∙ ap (λ r. rethrown c.in_ok-exc.exc (filled r)) h)),
    )

pub clean_up_thrown-returns-in-On-clause-done : goal.clean_up_thrown-returns-in-On-clause-done
clean_up_thrown-returns-in-On-clause-done t c =
    let old = c.args.stack.now in
    let ends = c.end_with.new.self in
    let ran = c.run_entered.new.stack in
    let ok = c.in_ok-end_with.ensures in
    let run = rethrown-run c.args.call.now.leaves.now c.args.call.now.n c.args.bound.now c.args.ending old ends c.in_ok-exc.exc _ ok.frame
    c.default_slot.ensures ok.calls
    (c.in_ok-exc.ensures ∙ c.thrown.ensures) in
    let gave = ap (λ g. done g ran) (sym c.in-On.is) ∙ c.in_ok-run_entered.ensures.done in
    ap (λ g. done g c.throw.new.self) c.throw.ensures.going
    ∙ (ap (λ (m : StackView). Threw m.thrown m.calls) c.throw.ensures.held
    ∙ (ap (λ e. Threw e ran.calls) c.in_ok-again.ensures
    ∙ (rethrown-gave _ (left c.args.count ends).frame ran.frame ends.calls ran.calls c.in_ok-exc.exc gave
    ∙ follows c.args.count old ends (rethrown_on c.args.call.now.leaves.now c.args.call.now.n c.args.bound.now c.args.ending old) _ ok.below
    (ap₂ (λ (C : List LeafCall) (r : Ran Slot). after C r) (sym ok.calls) run))))

pub clean_up_thrown-returns-in-Threw-clause-done : goal.clean_up_thrown-returns-in-Threw-clause-done
clean_up_thrown-returns-in-Threw-clause-done t c =
    let old = c.args.stack.now in
    let ends = c.end_with.new.self in
    let ran = c.run_entered.new.stack in
    let ok = c.in_ok-end_with.ensures in
    let run = rethrown-run c.args.call.now.leaves.now c.args.call.now.n c.args.bound.now c.args.ending old ends c.in_ok-exc.exc _ ok.frame
    c.default_slot.ensures ok.calls
    (c.in_ok-exc.ensures ∙ c.thrown.ensures) in
    let threw = ap (λ g. done g ran) (sym c.in-Threw.is) ∙ c.in_ok-run_entered.ensures.done in
    rethrown-threw _ (left c.args.count ends).frame ends.calls ran.calls ran.thrown c.in_ok-exc.exc threw
    ∙ follows c.args.count old ends (rethrown_on c.args.call.now.leaves.now c.args.call.now.n c.args.bound.now c.args.ending old) _ ok.below
    (ap₂ (λ (C : List LeafCall) (r : Ran Slot). after C r) (sym ok.calls) run)

pub run_finally-run_taking-requires : goal.run_finally-run_taking-requires
run_finally-run_taking-requires t c =
    let ok = c.in_ok-own.ensures in
    let old = c.args.stack.now in
    let begun = c.enter_again.new.self in
    let entered : Entered c.in_ok-own.own old begun = record { below = ok.below; calls = ok.calls; count = ok.count } in (
      search (rules, the_lemmas, get_or_read),
      (
        enough-below c.in_ok-own.own old begun entered,
        λ h. c.requires.well_formed (finally-stuck c.args.call.now.leaves.now c.args.call.now.n c.args.bound.now c.args.ending c.in_ok-own.own old
            begun ok.frame entered h),
      ),
    )

pub run_finally-clean_up-requires : goal.run_finally-clean_up-requires
run_finally-clean_up-requires t c =
    let ok = c.in_ok-own.ensures in
    let old = c.args.stack.now in
    let begun = c.enter_again.new.self in
    let ran = c.run_taking.new.stack in
    let own = c.in_ok-own.own in
    let entered : Entered c.in_ok-own.own old begun = record { below = ok.below; calls = ok.calls; count = ok.count } in
    let gave = ap (λ o. taken o ran) (sym c.in-Some.is) ∙ c.in_ok-slot.ensures.taken in
    let waits = frame-again own old begun ran entered c.in_ok-slot.ensures.frame in
    let same = finally-gave c.args.call.now.leaves.now c.args.call.now.n c.args.bound.now c.args.ending own old begun ran c.in-Some.slot ok.frame
    entered waits gave in (
      search (rules, the_lemmas, get_or_read),
      (
        under-again c.args.count old ran (below-again own old begun ran entered c.in_ok-slot.ensures.below) c.requires.waits,
        λ h. c.requires.well_formed (follows-stuck old ran (finally_on c.args.call.now.leaves.now c.args.call.now.n c.args.bound.now c.args.ending old)
            _ same h),
      ),
    )

pub run_finally-returns-in-Some-clause-done : goal.run_finally-returns-in-Some-clause-done
run_finally-returns-in-Some-clause-done t c =
    let ok = c.in_ok-own.ensures in
    let old = c.args.stack.now in
    let begun = c.enter_again.new.self in
    let ran = c.run_taking.new.stack in
    let own = c.in_ok-own.own in
    let entered : Entered c.in_ok-own.own old begun = record { below = ok.below; calls = ok.calls; count = ok.count } in
    let gave = ap (λ o. taken o ran) (sym c.in-Some.is) ∙ c.in_ok-slot.ensures.taken in
    let waits = frame-again own old begun ran entered c.in_ok-slot.ensures.frame in
    let same = finally-gave c.args.call.now.leaves.now c.args.call.now.n c.args.bound.now c.args.ending own old begun ran c.in-Some.slot ok.frame
    entered waits gave in
    subst
    (λ v. IfOk c.clean_up.result (λ g. done g c.clean_up.new.stack ≡ v))
    (follows c.args.count old ran (finally_on c.args.call.now.leaves.now c.args.call.now.n c.args.bound.now c.args.ending old) _
    (below-again own old begun ran entered c.in_ok-slot.ensures.below) same)
    c.clean_up.ensures.done

pub run_finally-clean_up_thrown-requires : goal.run_finally-clean_up_thrown-requires
run_finally-clean_up_thrown-requires t c =
    let ok = c.in_ok-own.ensures in
    let old = c.args.stack.now in
    let begun = c.enter_again.new.self in
    let ran = c.run_taking.new.stack in
    let own = c.in_ok-own.own in
    let entered : Entered c.in_ok-own.own old begun = record { below = ok.below; calls = ok.calls; count = ok.count } in
    let threw = ap (λ o. taken o ran) (sym c.in-None.is) ∙ c.in_ok-slot.ensures.taken in
    let waits = frame-again own old begun ran entered c.in_ok-slot.ensures.frame in
    let same = finally-threw c.args.call.now.leaves.now c.args.call.now.n c.args.bound.now c.args.ending own old begun ran ok.frame entered waits threw in (
      search (rules, the_lemmas, get_or_read),
      (
        under-again c.args.count old ran (below-again own old begun ran entered c.in_ok-slot.ensures.below) c.requires.waits,
        λ h. c.requires.well_formed (follows-stuck old ran (finally_on c.args.call.now.leaves.now c.args.call.now.n c.args.bound.now c.args.ending old)
            _ same h),
      ),
    )

pub run_finally-returns-in-None-clause-done : goal.run_finally-returns-in-None-clause-done
run_finally-returns-in-None-clause-done t c =
    let ok = c.in_ok-own.ensures in
    let old = c.args.stack.now in
    let begun = c.enter_again.new.self in
    let ran = c.run_taking.new.stack in
    let own = c.in_ok-own.own in
    let entered : Entered c.in_ok-own.own old begun = record { below = ok.below; calls = ok.calls; count = ok.count } in
    let threw = ap (λ o. taken o ran) (sym c.in-None.is) ∙ c.in_ok-slot.ensures.taken in
    let waits = frame-again own old begun ran entered c.in_ok-slot.ensures.frame in
    let same = finally-threw c.args.call.now.leaves.now c.args.call.now.n c.args.bound.now c.args.ending own old begun ran ok.frame entered waits threw in
    subst
    (λ v. IfOk c.clean_up_thrown.result (λ g. done g c.clean_up_thrown.new.stack ≡ v))
    (follows c.args.count old ran (finally_on c.args.call.now.leaves.now c.args.call.now.n c.args.bound.now c.args.ending old) _
    (below-again own old begun ran entered c.in_ok-slot.ensures.below) same)
    c.clean_up_thrown.ensures.done

-- ---- loops

pub run_turns-returns-clause-done : goal.run_turns-returns-clause-done
run_turns-returns-clause-done t c =
    let table = c.args.call.now.leaves.now in
    let n = c.args.call.now.n in
    let l = c.args.turning.looping in
    let old = c.args.stack.now in
    let m = c.loop-number.stack in
    let v = c.loop-number.last in
    let over : c.args.turning.turns - c.loop-number.number ≡ 0 = let no = c.loop-number-test.false in omega (arith, no) in
    let turns = turns_on table n c.args.bound.now l 0 c.args.turning.turns c.args.turning.first old in
    let gave : after old.calls turns ≡ Gave v m.calls =
    c.loop-number.invariant.same
    ∙ (ap (λ k. after m.calls (turns_on table n c.args.bound.now l c.loop-number.number k v m)) over
    ∙ turns-over (turn_of (run_field (senses_in table c.args.bound.now) l.body) l.counts.body l.ret m.frame) c.loop-number.number v m.calls n) in
    ap (λ (s : StackView). Gave s.frame s.calls) c.in_ok-push.ensures
    ∙ (ap (λ (s : StackView). Gave (s.frame ++ v ∷ []) s.calls) c.leave-2.ensures
    ∙ (ap (λ b. Gave (drop (length b - c.args.count) b ++ v ∷ []) m.calls) c.loop-number.invariant.below
    ∙ slot-given (left c.args.count old).frame old.calls m.calls turns v gave))

pub run_turns-returns-in-None-clause-done : goal.run_turns-returns-in-None-clause-done
run_turns-returns-in-None-clause-done t c =
    let l = c.args.turning.looping in
    let m = c.loop-number.stack in
    let begun = c.enter_turn.new.self in
    let ran = c.run_taking.new.stack in
    let ok = c.in_ok-own.ensures in
    let begins = turn-begins l c.loop-number.number c.loop-number.last c.in_ok-own.own m begun _ ok.frame c.given.ensures ok.below ok.calls ok.count in
    let threw = ap (λ o. taken o ran) (sym c.in-None.is) ∙ c.in_ok-slot.ensures.taken in
    ap (λ (s : StackView). Threw s.thrown s.calls) c.leave.ensures
    ∙ goes-on c.args.count c.args.stack.now ran.calls ran.thrown
    (turns_on c.args.call.now.leaves.now c.args.call.now.n c.args.bound.now l 0 c.args.turning.turns c.args.turning.first c.args.stack.now)
    (c.loop-number.invariant.same
    ∙ turn-ends c.args.call.now.leaves.now c.args.call.now.n c.args.bound.now l c.loop-number.number c.args.turning.turns c.loop-number.last
    c.in_ok-own.own m begun
    c.loop-number-test.true begins ran threw)

pub run_started-run_taking-requires : goal.run_started-run_taking-requires
run_started-run_taking-requires t c =
    let ok = c.in_ok-own.ensures in
    let old = c.args.stack.now in
    let begun = c.enter_first.new.self in
    let entered : Entered c.in_ok-own.own old begun = record { below = ok.below; calls = ok.calls; count = ok.count } in (
      search (rules, the_lemmas, get_or_read),
      (
        enough-below c.in_ok-own.own old begun entered,
        λ h. c.requires.well_formed (start-stuck c.args.call.now.leaves.now c.args.call.now.n c.args.bound.now c.args.looping c.in_ok-own.own
            c.args.turns old begun ok.frame entered h),
      ),
    )

pub run_started-run_turns-requires : goal.run_started-run_turns-requires
run_started-run_turns-requires t c =
    let ok = c.in_ok-own.ensures in
    let old = c.args.stack.now in
    let begun = c.enter_first.new.self in
    let ran = c.run_taking.new.stack in
    let own = c.in_ok-own.own in
    let entered : Entered c.in_ok-own.own old begun = record { below = ok.below; calls = ok.calls; count = ok.count } in
    let gave = ap (λ o. taken o ran) (sym c.in-Some.is) ∙ c.in_ok-first.ensures.taken in
    let waits = frame-again own old begun ran entered c.in_ok-first.ensures.frame in
    let same = start-gave c.args.call.now.leaves.now c.args.call.now.n c.args.bound.now c.args.looping own c.args.turns old begun ran c.in-Some.first
    ok.frame entered waits gave in (
      search (rules, the_lemmas, get_or_read),
      (
        under-again c.args.count old ran (below-again own old begun ran entered c.in_ok-first.ensures.below) c.requires.waits,
        (
          c.requires.few,
          λ h. c.requires.well_formed (follows-stuck old ran (started_on c.args.call.now.leaves.now c.args.call.now.n c.args.bound.now
              c.args.looping c.args.turns old) _ same h),
        ),
      ),
    )

pub run_started-returns-in-Some-clause-done : goal.run_started-returns-in-Some-clause-done
run_started-returns-in-Some-clause-done t c =
    let ok = c.in_ok-own.ensures in
    let old = c.args.stack.now in
    let begun = c.enter_first.new.self in
    let ran = c.run_taking.new.stack in
    let own = c.in_ok-own.own in
    let entered : Entered c.in_ok-own.own old begun = record { below = ok.below; calls = ok.calls; count = ok.count } in
    let gave = ap (λ o. taken o ran) (sym c.in-Some.is) ∙ c.in_ok-first.ensures.taken in
    let waits = frame-again own old begun ran entered c.in_ok-first.ensures.frame in
    let same = start-gave c.args.call.now.leaves.now c.args.call.now.n c.args.bound.now c.args.looping own c.args.turns old begun ran c.in-Some.first
    ok.frame entered waits gave in
    subst
    (λ v. IfOk c.run_turns.result (λ g. done g c.run_turns.new.stack ≡ v))
    (follows c.args.count old ran (started_on c.args.call.now.leaves.now c.args.call.now.n c.args.bound.now c.args.looping c.args.turns old) _
    (below-again own old begun ran entered c.in_ok-first.ensures.below) same)
    c.run_turns.ensures.done

pub run_started-returns-in-None-clause-done : goal.run_started-returns-in-None-clause-done
run_started-returns-in-None-clause-done t c =
    let ok = c.in_ok-own.ensures in
    let old = c.args.stack.now in
    let begun = c.enter_first.new.self in
    let ran = c.run_taking.new.stack in
    let entered : Entered c.in_ok-own.own old begun = record { below = ok.below; calls = ok.calls; count = ok.count } in
    let threw = ap (λ o. taken o ran) (sym c.in-None.is) ∙ c.in_ok-first.ensures.taken in
    ap (λ (s : StackView). Threw s.thrown s.calls) c.leave.ensures
    ∙ goes-on c.args.count old ran.calls ran.thrown (started_on c.args.call.now.leaves.now c.args.call.now.n c.args.bound.now c.args.looping c.args.turns old)
    (start-threw c.args.call.now.leaves.now c.args.call.now.n c.args.bound.now c.args.looping c.in_ok-own.own c.args.turns old begun ran ok.frame entered threw)

pub run_bounded-turns_before-requires : goal.run_bounded-turns_before-requires
run_bounded-turns_before-requires t c = λ h. c.requires.well_formed (bounded-stuck c.args.end.now _ h)

pub run_bounded-run_started-requires : goal.run_bounded-run_started-requires
run_bounded-run_started-requires t c =
    let told = ap told_turns (sym c.in-Some.is) ∙ c.turns_before.ensures.told in (
      search (rules, the_lemmas, get_or_read),
      (c.requires.waits, (c.in-Some.ensures.few, λ h. c.requires.well_formed (bounded-gave c.args.end.now c.in-Some.turns _ told ∙ h))),
    )

pub run_bounded-returns-in-Some-clause-done : goal.run_bounded-returns-in-Some-clause-done
run_bounded-returns-in-Some-clause-done t c =
    let old = c.args.stack.now in
    let told = ap told_turns (sym c.in-Some.is) ∙ c.turns_before.ensures.told in
    subst
    (λ v. IfOk c.run_started.result (λ g. done g c.run_started.new.stack ≡ on_stack (left c.args.count old) v))
    (sym (bounded-gave c.args.end.now c.in-Some.turns (λ turns. started_on c.args.call.now.leaves.now c.args.call.now.n c.args.bound.now
    c.args.looping turns old) told))
    c.run_started.ensures.done

pub run_bounded-returns-in_ok-exc-in-None-clause-done : goal.run_bounded-returns-in_ok-exc-in-None-clause-done
run_bounded-returns-in_ok-exc-in-None-clause-done t c =
    let old = c.args.stack.now in
    let told = ap told_turns (sym c.in-None.is) ∙ c.turns_before.ensures.told in
    let bound = bounded_on c.args.call.now.leaves.now c.args.call.now.n c.args.bound.now c.args.looping c.args.end.now old in
    ap (λ g. done g c.throw.new.self) c.throw.ensures.going
    ∙ (ap (λ (s : StackView). Threw s.thrown s.calls) c.throw.ensures.held
    ∙ (ap₂ (λ (e : Exc) (s : StackView). Threw e s.calls) c.in_ok-exc-in-None.ensures c.leave.ensures
    ∙ goes-on c.args.count old old.calls _ bound
    (ap (after old.calls) (bounded-threw c.args.end.now _ _ told) ∙ ap (Threw _) (append-nil old.calls))))

pub run_loop-run_taking-requires : goal.run_loop-run_taking-requires
run_loop-run_taking-requires t c =
    let ok = c.in_ok-own.ensures in
    let old = c.args.stack.now in
    let begun = c.enter_first.new.self in
    let entered : Entered c.in_ok-own.own old begun = record { below = ok.below; calls = ok.calls; count = ok.count } in (
      search (rules, the_lemmas, get_or_read),
      (
        enough-below c.in_ok-own.own old begun entered,
        λ h. c.requires.well_formed (loop-stuck c.args.call.now.leaves.now c.args.call.now.n c.args.bound.now c.args.looping c.in_ok-own.own old begun
            ok.frame entered h),
      ),
    )

pub run_loop-run_bounded-requires : goal.run_loop-run_bounded-requires
run_loop-run_bounded-requires t c =
    let ok = c.in_ok-own.ensures in
    let old = c.args.stack.now in
    let begun = c.enter_first.new.self in
    let ran = c.run_taking.new.stack in
    let own = c.in_ok-own.own in
    let entered : Entered c.in_ok-own.own old begun = record { below = ok.below; calls = ok.calls; count = ok.count } in
    let gave = ap (λ o. taken o ran) (sym c.in-Some.is) ∙ c.in_ok-end.ensures.taken in
    let waits = frame-again own old begun ran entered c.in_ok-end.ensures.frame in
    let same = loop-gave c.args.call.now.leaves.now c.args.call.now.n c.args.bound.now c.args.looping own old begun ran c.in-Some.end ok.frame
    entered waits gave in (
      search (rules, the_lemmas, get_or_read),
      (
        under-again c.args.count old ran (below-again own old begun ran entered c.in_ok-end.ensures.below) c.requires.waits,
        λ h. c.requires.well_formed (follows-stuck old ran (loop_on c.args.call.now.leaves.now c.args.call.now.n c.args.bound.now c.args.looping old) _ same h),
      ),
    )

pub run_loop-returns-in-Some-clause-done : goal.run_loop-returns-in-Some-clause-done
run_loop-returns-in-Some-clause-done t c =
    let ok = c.in_ok-own.ensures in
    let old = c.args.stack.now in
    let begun = c.enter_first.new.self in
    let ran = c.run_taking.new.stack in
    let own = c.in_ok-own.own in
    let entered : Entered c.in_ok-own.own old begun = record { below = ok.below; calls = ok.calls; count = ok.count } in
    let gave = ap (λ o. taken o ran) (sym c.in-Some.is) ∙ c.in_ok-end.ensures.taken in
    let waits = frame-again own old begun ran entered c.in_ok-end.ensures.frame in
    let same = loop-gave c.args.call.now.leaves.now c.args.call.now.n c.args.bound.now c.args.looping own old begun ran c.in-Some.end ok.frame
    entered waits gave in
    subst
    (λ v. IfOk c.run_bounded.result (λ g. done g c.run_bounded.new.stack ≡ v))
    (follows c.args.count old ran (loop_on c.args.call.now.leaves.now c.args.call.now.n c.args.bound.now c.args.looping old) _
    (below-again own old begun ran entered c.in_ok-end.ensures.below) same)
    c.run_bounded.ensures.done

pub run_loop-returns-in-None-clause-done : goal.run_loop-returns-in-None-clause-done
run_loop-returns-in-None-clause-done t c =
    let ok = c.in_ok-own.ensures in
    let old = c.args.stack.now in
    let begun = c.enter_first.new.self in
    let ran = c.run_taking.new.stack in
    let entered : Entered c.in_ok-own.own old begun = record { below = ok.below; calls = ok.calls; count = ok.count } in
    let threw = ap (λ o. taken o ran) (sym c.in-None.is) ∙ c.in_ok-end.ensures.taken in
    ap (λ (s : StackView). Threw s.thrown s.calls) c.leave.ensures
    ∙ goes-on c.args.count old ran.calls ran.thrown (loop_on c.args.call.now.leaves.now c.args.call.now.n c.args.bound.now c.args.looping old)
    (loop-threw c.args.call.now.leaves.now c.args.call.now.n c.args.bound.now c.args.looping c.in_ok-own.own old begun ran ok.frame entered threw)
