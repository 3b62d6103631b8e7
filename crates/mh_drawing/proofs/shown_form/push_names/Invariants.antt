use Rattle.std.proofs.Common.{◌≡◌, ◌++◌, codes, flat_map, take}
use Rattle.mh_shown.specs.NameText.{name_text}
use Rattle.mh_drawing.proofs.shown_form.push_names.Given as goal

abbrev pub invariant-loop-name : goal.invariant-loop-name
invariant-loop-name l = l.text.items ≡ l.initial.text.items ++ flat_map (λ name. codes "; " ++ name_text name) (take l.name-index l.names)
