-- What the fields of a bound body stand for.
use Rattle.std.proofs.Common.{◌≡◌, refl, sym, ap, ◌∙◌, ℕ, ◌<◌, List, ◌∷◌, Option, Some, map, length}
use Rattle.std.specs.Prelude.{slice_get, slice_index_or}
use Rattle.std.specs.Option.{option_map}
use Rattle.std.specs.declared.sync.Arc.{Arc}
use Rattle.std.specs.declared.alloc.Global.{Global}
use Rattle.std.proofs.lemmas.Option.{slice_get-map, slice_get_read}
use Rattle.mh_values.specs.Computation.{Stuck, found}
use Rattle.mh_leaf.specs.LeafTable.{LeafTable}
use Rattle.mh_form.specs.declared.slot.Slot.{Slot}
use Rattle.mh_form.specs.declared.field.Bound.{Bound, Row_of-Field, end_of-Field, more_of-Field, items-the_row-Field, items_hidden-the_row-Field-0}
use Rattle.mh_form.specs.declared.field.Field.TheBlock.{hidden-the_row-Field-0}
use Rattle.mh_form.specs.declared.field.Field.{Field}
use Rattle.mh_form.specs.declared.field.Field.TheVariants.{Part}
use Rattle.mh_form.specs.Run.{Sense, IsPart, run_field, sense, senses_of, run_bound, run_body, part_of, of_kind, field_of}
use Rattle.mh_form.proofs.OtherKinds.{no_part}

-- a row of fields as a list
senses_of-items :
    {m : _} (table : LeafTable) (row : Row_of-Field m) →
    senses_of table row ≡ map (sense table) (items-the_row-Field m row)
senses_of-items table end_of-Field = refl
senses_of-items table (more_of-Field f rest) = ap (λ s. sense table f ∷ s) (senses_of-items table rest)

-- a part stands for its own run
pub sense-Part :
    (table : LeafTable) (b : Arc Bound Global) → sense table (Part b) ≡ IsPart (run_bound table b.value)
sense-Part table b =
    ap (λ s. IsPart (run_body b.value.body.now s))
    (senses_of-items table (hidden-the_row-Field-0 b.value.fields) ∙ ap (map (sense table)) (items_hidden-the_row-Field-0 b.value.fields))

-- the field that was found at a place
pub field_of-found :
    {A : Type 0} →
    (kind : Sense → Option A) (table : LeafTable) (fields : List Field) (f : ℕ) (e : Field) →
    slice_get fields f ≡ Some e →
    field_of kind (map (sense table) fields) f ≡ kind (sense table e)
field_of-found kind table fields f e is =
    ap (of_kind kind) (slice_get-map (sense table) fields f ∙ ap (option_map (sense table)) is)

-- the field at a place
pub field_of-at :
    {A : Type 0} →
    (kind : Sense → Option A) (table : LeafTable) (fields : List Field) (f : ℕ) (e : Field) →
    f < length fields →
    e ≡ slice_index_or fields f e →
    field_of kind (map (sense table) fields) f ≡ kind (sense table e)
field_of-at kind table fields f e low is =
    field_of-found kind table fields f e (slice_get_read fields (length fields) f e refl low is)

pub run_field-part :
    (table : LeafTable) (fields : List Field) (f : ℕ) (e : Field) (b : Arc Bound Global) (slots : List Slot) (n : ℕ) →
    f < length fields →
    e ≡ slice_index_or fields f e →
    e ≡ Part b →
    run_field (map (sense table) fields) f slots n ≡ run_bound table b.value slots n
run_field-part table fields f e b slots n low is part =
    let at : field_of part_of (map (sense table) fields) f ≡ Some (run_bound table b.value) =
    field_of-at part_of table fields f e low is ∙ (ap (λ x. part_of (sense table x)) part ∙ ap part_of (sense-Part table b)) in
    ap (λ o. found o (λ p. p slots n)) at

-- the same of what the part holds
pub run_field-held :
    (table : LeafTable) (fields : List Field) (f : ℕ) (e : Field) (a : Arc Bound Global) (b : Bound) (slots : List Slot) (n : ℕ) →
    f < length fields →
    e ≡ slice_index_or fields f e →
    e ≡ Part a →
    b ≡ a.value →
    run_field (map (sense table) fields) f slots n ≡ run_bound table b slots n
run_field-held table fields f e a b slots n low is part held =
    run_field-part table fields f e a slots n low is part ∙ ap (λ c. run_bound table c slots n) (sym held)

pub run_field-none :
    (table : LeafTable) (fields : List Field) (f : ℕ) (e : Field) (slots : List Slot) (n : ℕ) →
    f < length fields →
    e ≡ slice_index_or fields f e →
    ((x : Arc Bound Global) → e ≡ Part x → ⊥) →
    run_field (map (sense table) fields) f slots n ≡ Stuck
run_field-none table fields f e slots n low is none =
    ap (λ o. found o (λ p. p slots n)) (field_of-at part_of table fields f e low is ∙ no_part table e none)
