-- A handle as a part of another one, and the parts that a combinator adds.
use Rattle.std.specs.Prelude.{◌≡◌, List, [], ◌∷◌, ◌++◌}
use Rattle.std.specs.declared.sync.Arc.{Arc}
use Rattle.std.specs.declared.alloc.Global.{Global}
use Rattle.mh_values.specs.declared.types.MethodTy.{MethodTy}
use Rattle.mh_intern.specs.Views.{HoldView}
use Rattle.mh_form.specs.declared.field.Bound.{Bound}
use Rattle.mh_form.specs.declared.field.Field.{Field}
use Rattle.mh_form.specs.declared.field.Field.TheVariants as field
use Rattle.mh_handle.specs.Stands.{HandleView, handle_body}

-- the field holds the handle's form, bound to the handle's fields
abbrev pub IsPartOf : HandleView → Field → Type 0
IsPartOf h f = (part : Arc Bound Global) × (f ≡ field.Part part) × (part.value.body.now ≡ handle_body h) × (part.value.fields.items ≡ h.fields)

-- the types that a handle holds: its own and those of its side parts
abbrev pub held_by : HandleView → List MethodTy
held_by h = h.ty ∷ h.sides

-- the fields that a combinator adds, and the holds of its parts, with the types held
pub record PartsView : Type 0 where
  pub fields : List Field
  pub sides : List MethodTy
  pub held : List HoldView

-- no field and no part
abbrev pub no_parts : PartsView
no_parts = record { fields = []; sides = []; held = [] }

-- one more part: a field that holds the handle, and the types that the handle holds
pub record AddsHandle (h : HandleView) (old new : PartsView) : Type 0 where
  pub fields : (f : Field) × (new.fields ≡ old.fields ++ f ∷ []) × IsPartOf h f
  pub sides : new.sides ≡ old.sides ++ held_by h
  pub held : new.held ≡ old.held ++ h.held
