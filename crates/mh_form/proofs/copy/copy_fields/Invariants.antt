use Rattle.std.proofs.Common.{◌≡◌, take, map}
use Rattle.mh_leaf.specs.LeafTable.{LeafTable}
use Rattle.mh_form.specs.Run.{sense}
use Rattle.mh_form.proofs.copy.copy_fields.Given as goal

abbrev pub invariant-loop-field : goal.invariant-loop-field
invariant-loop-field l =
    (table : LeafTable) → map (sense table) l.copies.items ≡ map (sense table) (take l.field-index l.fields)
