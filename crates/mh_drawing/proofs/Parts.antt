-- What side parts are written as.
use Rattle.std.proofs.Common.{◌≡◌, refl, sym, ◌∙◌, ap, List, ◌∷◌, ◌++◌, codes, flat_map, append_assoc}
use Rattle.std.specs.declared.sync.Arc.{Arc}
use Rattle.std.specs.declared.alloc.Global.{Global}
use Rattle.mh_values.specs.declared.class.Class.{Class}
use Rattle.mh_form.specs.declared.field.Bound.{Bound, Row_of-Field, end_of-Field, more_of-Field, items-the_row-Field, items_hidden-the_row-Field-0}
use Rattle.mh_form.specs.declared.field.Field.TheBlock.{hidden-the_row-Field-0}
use Rattle.mh_form.specs.declared.field.Field.{Field}
use Rattle.mh_form.specs.declared.field.Field.TheVariants.{Part}
use Rattle.mh_handle.specs.Form.{FormView}
use Rattle.mh_drawing.specs.Drawing.{body_text, form_of}
use Rattle.mh_drawing.specs.Fields.{bound_text, held_text, part_text, row_text}

-- a row of fields as a list
row-items : {m : _} (classes : List Class) (forms : List FormView) (row : Row_of-Field m) →
    row_text classes forms row ≡ flat_map (λ f. codes ", " ++ held_text classes forms f) (items-the_row-Field m row)
row-items classes forms end_of-Field = refl
row-items classes forms (more_of-Field f rest) = ap (λ text. codes ", " ++ held_text classes forms f ++ text) (row-items classes forms rest)

pub held_part : (classes : List Class) (forms : List FormView) (part : Arc Bound Global) →
    held_text classes forms (Part part) ≡ bound_text classes forms part.value
held_part classes forms part =
    let each : Field → _ = λ f. codes ", " ++ held_text classes forms f in
    ap (λ text. codes "part (" ++ part_text (form_of forms (body_text part.value.body.now)) ++ text ++ codes ")")
    (row-items classes forms (hidden-the_row-Field-0 part.value.fields) ∙ ap (flat_map each) (items_hidden-the_row-Field-0 part.value.fields))
