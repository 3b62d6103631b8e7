-- For proofs: no clause of a public function reaches these definitions.
-- What a root makes of several handles.
use Rattle.std.specs.Prelude.{◌≡◌, ◌≤◌, ℕ, ◌+◌, IsTrue, List, length}
use Rattle.mh_values.specs.declared.types.MethodTy.{MethodTy}
use Rattle.mh_form.specs.declared.field.Field.{Field}
use Rattle.mh_form.specs.Body.{nothing}
use Rattle.mh_edit.specs.declared.key.Key.{Key}
use Rattle.mh_edit.specs.Applied.{applied}
use Rattle.mh_edit.specs.Fit.{fits}
use Rattle.mh_handle.specs.Grows.{Grows, base_handle}
use Rattle.mh_handle.specs.Stands.{HandleView, HasShape}
use Rattle.mh_more.specs.declared.several.Root.{Root}
use Rattle.mh_more.specs.Several.{ArePartsOf, holds_of, types_held_by}

-- a root of this type, weight and key
pub record IsRoot (ty : MethodTy) (weight : ℕ) (key : Key) (root : Root) : Type 0 where
  pub typed : root.ty ≡ ty
  pub weighed : root.weight ≡ weight
  pub keyed : root.key ≡ key

-- a handle can be made by the root of these as its parts: the root's key makes a form of its type, and its limits are kept
pub record CanRoot (hs : List HandleView) (root : Root) : Type 0 where
  pub fits : IsTrue (fits root.key nothing)
  pub shaped : HasShape (applied root.key nothing) root.ty
  pub light : root.weight ≤ 256
  pub few : 1 + length (holds_of hs) ≤ root.weight

-- a handle that the root has made of handles as its parts
abbrev pub RootsParts : Root → List HandleView → HandleView → Type 0
RootsParts root hs new =
    (fs : List Field) × Grows base_handle new root.ty root.weight (types_held_by hs) root.key fs × ArePartsOf hs fs
