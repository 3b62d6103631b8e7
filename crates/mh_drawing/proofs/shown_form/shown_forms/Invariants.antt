use Rattle.std.proofs.Common.{◌≡◌, map, take}
use Rattle.mh_drawing.proofs.shown_form.shown_forms.Given as goal

abbrev pub invariant-loop-form : goal.invariant-loop-form
invariant-loop-form l = l.shown.items ≡ map (λ form. form.now) (take l.form-index l.forms)
