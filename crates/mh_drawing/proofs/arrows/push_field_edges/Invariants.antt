use Rattle.std.proofs.Common.{◌≡◌, ◌++◌, flat_map, take}
use Rattle.mh_drawing.specs.Drawing.{field_edge}
use Rattle.mh_drawing.proofs.arrows.push_field_edges.Given as goal

abbrev pub invariant-loop-field : goal.invariant-loop-field
invariant-loop-field l = l.text.items ≡ l.initial.text.items ++ flat_map (field_edge l.forms l.number) (take l.field-index l.fields)
