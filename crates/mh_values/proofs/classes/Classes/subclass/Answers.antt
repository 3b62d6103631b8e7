use Rattle.std.proofs.Common.{◌≡◌, ◌∙◌, sym, refl, false, true, ap, length}
use Rattle.mh_values.specs.Class.{is_subclass}
use Rattle.mh_values.proofs.Subclasses.{reaches-sound, is_subclass-complete, is_subclass-up, is_subclass-top, is_subclass-itself, other_class, one_class}
use Rattle.mh_values.proofs.classes.Classes.subclass.Goals as goal

-- at a class without a superclass the way ends
ends : (c : goal.In_default) → is_subclass c.args.self.now c.args.class c.args.above ≡ false
ends c =
    let top = is_subclass-top c.args.self.now c.loop-above.class c.args.above (sym c.in_default.ensures.superclass) (other_class c.loop-above.class c.args.above
    c.loop-above-test.ensures) in
    sym c.loop-above.invariant ∙ top

pub returns-in_default-clause-reached : goal.returns-in_default-clause-reached
returns-in_default-clause-reached c =
    let ascending = c.in_default.ensures.classes.ordered.ascending in
    (λ h. cc, λ way. sym (ends c) ∙ is_subclass-complete c.args.self.now ascending c.args.class c.args.above way)

pub returns-in_default-clause-same : goal.returns-in_default-clause-same
returns-in_default-clause-same c = sym (ends c)

pub loop-above-smaller : goal.loop-above-smaller
loop-above-smaller c = c.in-Some.ensures.classes.ordered.ascending c.loop-above.class c.in-Some.superclass (sym c.in-Some.ensures.superclass)

pub loop-above-preserved : goal.loop-above-preserved
loop-above-preserved c =
    let ascending = c.in-Some.ensures.classes.ordered.ascending in
    sym (is_subclass-up c.args.self.now ascending c.loop-above.class c.args.above c.in-Some.superclass (sym c.in-Some.ensures.superclass)
    (other_class c.loop-above.class c.args.above c.loop-above-test.ensures)) ∙ c.loop-above.invariant

-- at the class itself the way is found
found : (c : goal.After-loop-above) → is_subclass c.args.self.now c.args.class c.args.above ≡ true
found c =
    let here = one_class c.loop-above.class c.args.above c.loop-above-test.ensures in
    sym c.loop-above.invariant ∙ ap (λ d. is_subclass c.args.self.now d c.args.above) here ∙ is_subclass-itself c.args.self.now c.args.above

pub returns-clause-reached : goal.returns-clause-reached
returns-clause-reached c = (λ h. reaches-sound (length c.args.self.now) c.args.self.now c.args.class c.args.above (found c), λ way. refl)

pub returns-clause-same : goal.returns-clause-same
returns-clause-same c = sym (found c)
