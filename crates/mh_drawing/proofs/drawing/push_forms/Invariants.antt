use Rattle.std.proofs.Common.{◌≡◌, ◌++◌, flat_map, take}
use Rattle.mh_drawing.specs.Drawing.{form_text}
use Rattle.mh_drawing.proofs.drawing.push_forms.Given as goal

abbrev pub invariant-loop-form : goal.invariant-loop-form
invariant-loop-form l = l.text.items ≡ l.initial.text.items ++ flat_map (form_text l.forms l.targets) (take l.form-index l.forms)
