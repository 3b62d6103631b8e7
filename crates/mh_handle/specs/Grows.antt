-- How a handle grows by an edit of its form.
use Rattle.std.specs.Prelude.{◌≡◌, ℕ, ◌+◌, List, [], ◌∷◌, ◌++◌, None, Result, IfOk}
use Rattle.mh_values.specs.declared.types.MethodTy.{MethodTy}
use Rattle.mh_form.specs.declared.field.Field.{Field}
use Rattle.mh_edit.specs.declared.key.Key.{Key}
use Rattle.mh_handle.specs.declared.error.HandleError.{HandleError}
use Rattle.mh_handle.specs.declared.growth.Growth.{Growth}
use Rattle.mh_handle.specs.declared.handle.Handle.{Handle}
use Rattle.mh_handle.specs.Form.{FormView, base_form}
use Rattle.mh_handle.specs.Parts.{IsPartOf, held_by}
use Rattle.mh_handle.specs.Stands.{HandleView}

-- The new handle has this type and weight. It has more side types, one more key and more fields, each after those of the old one.
pub record Grows (old new : HandleView) (ty : MethodTy) (weight : ℕ) (sides : List MethodTy) (key : Key) (fields : List Field) : Type 0 where
  pub typed : new.ty ≡ ty
  pub weighed : new.weight ≡ weight
  pub holds : new.sides ≡ old.sides ++ sides
  pub made : new.form.recipe ≡ old.form.recipe ++ key ∷ []
  pub fielded : new.fields ≡ old.fields ++ fields

-- a form with fields and side types, before it has a type
abbrev pub untyped : FormView → List MethodTy → List Field → HandleView
untyped form sides fields = record { ty = record { params = []; ret = None }; weight = 0; sides = sides; form = form; fields = fields; held = [] }

-- the form that does nothing, from which roots make handles
abbrev pub base_handle : HandleView
base_handle = untyped base_form [] []

-- a handle that was made has grown by all that the combinator adds
abbrev pub GrowsBy : HandleView → Growth → Result Handle HandleError → Type 0
GrowsBy old by made = IfOk made (λ new. Grows old new by.ty by.weight by.parts.sides by.key by.parts.fields)

-- the new handle weighs one more and has the same side types
pub record GainsNode (old new : HandleView) : Type 0 where
  pub weighed : new.weight ≡ 1 + old.weight
  pub holds : new.sides ≡ old.sides

-- The new handle weighs one more than the old one and the part together. It also holds the types that the part holds.
-- It has one more field, which holds the part.
pub record GainsPart (part old new : HandleView) : Type 0 where
  pub weighed : new.weight ≡ 1 + old.weight + part.weight
  pub holds : new.sides ≡ old.sides ++ held_by part
  pub fielded : (f : Field) × (new.fields ≡ old.fields ++ f ∷ []) × IsPartOf part f
