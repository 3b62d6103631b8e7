-- Handles as the parts of another one.
use Rattle.std.specs.Prelude.{◌≡◌, ℕ, ◌+◌, List, [], ◌∷◌, ◌++◌, map}
use Rattle.mh_values.specs.declared.types.MethodTy.{MethodTy}
use Rattle.mh_intern.specs.Views.{HoldView}
use Rattle.mh_leaf.specs.LeafTable.{LeafTable}
use Rattle.mh_tree.specs.Tree.{Cases}
use Rattle.mh_tree.specs.Tree as tree
use Rattle.mh_form.specs.declared.field.Field.{Field}
use Rattle.mh_handle.specs.Parts.{IsPartOf, PartsView, held_by}
use Rattle.mh_handle.specs.Stands.{HandleView, IsShaped, Stands}

-- the types of handles
abbrev pub own_types : List HandleView → List MethodTy
own_types hs = map (λ h. h.ty) hs

-- the weights of handles, together
abbrev pub weights_of : List HandleView → ℕ
weights_of [] = 0
weights_of (h ∷ hs) = h.weight + weights_of hs

-- the types that handles hold
abbrev pub types_held_by : List HandleView → List MethodTy
types_held_by [] = []
types_held_by (h ∷ hs) = held_by h ++ types_held_by hs

-- their holds
abbrev pub holds_of : List HandleView → List HoldView
holds_of [] = []
holds_of (h ∷ hs) = h.held ++ holds_of hs

-- each handle has the parameters of its form, and holds no more types than it weighs
abbrev pub AreAllShaped : List HandleView → Type 0
AreAllShaped [] = Unit {0}
AreAllShaped (h ∷ hs) = IsShaped h × AreAllShaped hs

-- there is a field for each handle, which holds it
abbrev pub ArePartsOf : List HandleView → List Field → Type 0
ArePartsOf [] [] = Unit {0}
ArePartsOf (h ∷ hs) (f ∷ fs) = IsPartOf h f × ArePartsOf hs fs
ArePartsOf _ _ = ⊥

-- more parts: a field for each handle, and the types that they hold
pub record AddsAll (hs : List HandleView) (old new : PartsView) : Type 0 where
  pub fields : (fs : List Field) × (new.fields ≡ old.fields ++ fs) × ArePartsOf hs fs
  pub sides : new.sides ≡ old.sides ++ types_held_by hs
  pub held : new.held ≡ old.held ++ holds_of hs

-- A handle with these as its parts. It weighs more than they together, by a weight of its own, holds the types that they hold, and has a field for each.
pub record HasParts (own : ℕ) (hs : List HandleView) (new : HandleView) : Type 0 where
  pub weighed : new.weight ≡ own + weights_of hs
  pub holds : new.sides ≡ types_held_by hs
  pub fielded : ArePartsOf hs new.fields

-- each handle stands for the case at its place
abbrev pub StandForCases : LeafTable → List HandleView → Cases → Type 0
StandForCases table [] tree.no_cases = Unit {0}
StandForCases table (h ∷ hs) (tree.one_case t ts) = Stands table h t × StandForCases table hs ts
StandForCases table _ _ = ⊥
