-- Handles as contracts see them, and which tree a handle stands for.
use Rattle.std.specs.Prelude.{◌≡◌, ◌≢◌, ℕ, ◌<◌, ◌≤◌, ◌^◌, List, ◌∷◌, length, map, Ok, false, not, ◌&&◌, ◌==◌, is_some}
use Rattle.mh_values.specs.declared.types.MethodTy.{MethodTy}
use Rattle.mh_values.specs.declared.value.Value.{Value}
use Rattle.mh_values.specs.Computation.{Stuck}
use Rattle.mh_values.specs.HasType.{HaveTypes}
use Rattle.mh_intern.specs.Exchanges.{types_of}
use Rattle.mh_intern.specs.Views.{HoldView}
use Rattle.mh_leaf.specs.LeafTable.{LeafTable}
use Rattle.mh_tree.specs.Tree.{Tree, weight}
use Rattle.mh_tree.specs.Typing.{type_of, sides}
use Rattle.mh_tree.specs.Meaning.{mean}
use Rattle.mh_tree.specs.Sound.{IsSound}
use Rattle.mh_form.specs.declared.body.FormBody.{FormBody}
use Rattle.mh_form.specs.declared.field.Field.{Field}
use Rattle.mh_form.specs.Erasure.{basic_of, erased, erased_ran}
use Rattle.mh_form.specs.Run.{SlotRun, run_on}
use Rattle.mh_edit.specs.Fit.{is_nothing}
use Rattle.mh_handle.specs.Form.{FormView, body_of}
use Rattle.mh_handle.specs.Recipe.{recipe}

-- a handle: its type, the weight of its tree, the types of its side parts, its form, its fields, and its holds of types
pub record HandleView : Type 0 where
  pub ty : MethodTy
  pub weight : ℕ
  pub sides : List MethodTy
  pub form : FormView
  pub fields : List Field
  pub held : List HoldView

-- the body of the handle's form
abbrev pub handle_body : HandleView → FormBody
handle_body h = body_of h.form.recipe

-- the run of the handle's form on its fields
abbrev pub handle_run : LeafTable → HandleView → SlotRun
handle_run table h = run_on table (handle_body h) h.fields

-- a body that does something: it has a name, or a result
abbrev pub IsMade : FormBody → Type 0
IsMade body = (length body.names == 0 && not (is_some body.out)) ≡ false

-- the parameters of the body are those of the type, erased
abbrev pub HasShape : FormBody → MethodTy → Type 0
HasShape body t = body.params ≡ map basic_of t.params

-- The invariant of a handle. A key made its form, and its form's parameters are those of its type, erased.
-- It holds its type and those of its side parts, at most one for each node of its tree.
pub record IsShaped (h : HandleView) : Type 0 where
  pub made : is_nothing (handle_body h) ≡ false
  pub params : HasShape (handle_body h) h.ty
  pub holds : types_of h.held ≡ h.ty ∷ h.sides
  pub few : length h.held ≤ h.weight
  pub light : h.weight ≤ 256

-- The handle stands for the tree: it is made as the tree is, and it computes the tree's direct meaning on all arguments of its type.
pub record Stands (table : LeafTable) (h : HandleView) (t : Tree) : Type 0 where
  -- it has the tree's type, weight, recipe and side types
  pub typed : type_of table t ≡ Ok h.ty
  pub weighed : h.weight ≡ weight t
  pub made : h.form.recipe ≡ recipe table t
  pub holds : h.sides ≡ sides table t
  -- its form needs exactly its fields, takes the parameters of its type, and does something
  pub fielded : length h.fields ≡ (handle_body h).fields
  pub shaped : (handle_body h).params ≡ map basic_of h.ty.params
  pub begun : IsMade (handle_body h)
  -- a run of its form on the erased arguments is the erased meaning of the tree
  pub runs :
      (args : List Value) (n : ℕ) → HaveTypes table.classes args h.ty.params → n < 2 ^ 32 →
      handle_run table h (map erased args) n ≡ erased_ran (mean table t args n)
  -- that run never lacks anything that it needs
  pub well_formed :
      (args : List Value) (n : ℕ) → HaveTypes table.classes args h.ty.params → n < 2 ^ 32 →
      handle_run table h (map erased args) n ≢ Stuck
  -- the tree returns a value of the return type, or throws
  pub returns : IsSound table.classes (mean table t) h.ty

-- the handle stands for some tree
abbrev pub StandsForSome : LeafTable → HandleView → Type 0
StandsForSome table h = (t : Tree) × Stands table h t
