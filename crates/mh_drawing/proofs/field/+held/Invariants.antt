use Rattle.std.proofs.Common.{◌≡◌, ◌++◌, codes, flat_map, take}
use Rattle.mh_drawing.specs.Drawing.{body_text, form_of}
use Rattle.mh_drawing.specs.Fields.{held_text, part_text}
use Rattle.mh_drawing.proofs.field.+held.Given as goal

-- the form, and the fields so far
abbrev pub invariant-push_part-loop-field : goal.invariant-push_part-loop-field
invariant-push_part-loop-field l =
    l.text.items ≡ l.fn.text.items ++ codes "part (" ++ part_text (form_of l.forms (body_text l.part.body.now))
    ++ flat_map (λ f. codes ", " ++ held_text l.classes l.forms f) (take l.field-index l.field-items)
