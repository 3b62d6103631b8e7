-- For proofs: no clause of a public function reaches these definitions.
-- A list of fields whose first one stands in line.
use Rattle.std.specs.Prelude.{◌≡◌, ◌<◌, ◌⊎◌, List, [], ◌++◌, None, option_to_list, vec_len, vec_capacity}
use Rattle.mh_form.specs.declared.field.Field.{Field}
use Rattle.mh_handle.specs.declared.fields.FieldList.{FieldList}

-- its fields
abbrev pub fields_in : FieldList → List Field
fields_in l = option_to_list l.first ++ l.others.items

-- it has no field
abbrev pub HasNone : FieldList → Type 0
HasNone l = (l.first ≡ None) × (l.others.items ≡ [])

-- it has no field, or there is room for one more after the others
abbrev pub HasRoom : FieldList → Type 0
HasRoom l = HasNone l ⊎ (vec_len l.others < vec_capacity l.others)
