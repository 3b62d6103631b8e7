-- A handle that stands for a tree can be called on arguments of its type, as the first call of its invocation.
use Rattle.std.proofs.Common.{◌≡◌, ◌≢◌, List, [], ◌++◌, map, subst, sym, arith}
use Rattle.std.proofs.lemmas.List.{append-nil}
use Rattle.mh_values.specs.declared.types.MethodTy.{MethodTy}
use Rattle.mh_values.specs.declared.value.Value.{Value}
use Rattle.mh_values.specs.Computation.{Stuck}
use Rattle.mh_values.specs.HasType.{HaveTypes}
use Rattle.mh_leaf.specs.LeafTable.{LeafTable}
use Rattle.mh_form.specs.declared.field.Field.{Field}
use Rattle.mh_form.specs.Erasure.{erased}
use Rattle.mh_form.specs.Run.{run_on}
use Rattle.mh_handle.specs.Answers.{typed_ran}
use Rattle.mh_handle.specs.Form.{FormView, body_of}
use Rattle.mh_handle.specs.Stands.{HandleView, StandsForSome, handle_run}
use Rattle.mh_handle.proofs.standing.Answering.{typed_run-well_formed}

module _ (table : LeafTable) (h : HandleView) (args : List Value) (some : StandsForSome table h) (have : HaveTypes table.classes args h.ty.params) where
  -- by itself
  pub callable : typed_ran table.classes h.ty.ret (handle_run table h (map erased args) 0) ≢ Stuck
  callable = typed_run-well_formed table h some.0 args 0 some.1 have (omega arith)

  -- and by its form, with no more fields
  pub callable_edited : (form : FormView) (more : List Field) (ty : MethodTy) → form ≡ h.form → more ≡ [] → ty ≡ h.ty
      → typed_ran table.classes ty.ret (run_on table (body_of form.recipe) (h.fields ++ more) (map erased args) 0) ≢ Stuck
  callable_edited form more ty its none own =
      subst (λ (t : MethodTy). typed_ran table.classes t.ret (run_on table (body_of form.recipe) (h.fields ++ more) (map erased args) 0) ≢ Stuck) (sym own)
      (subst (λ (f : FormView). typed_ran table.classes h.ty.ret (run_on table (body_of f.recipe) (h.fields ++ more) (map erased args) 0) ≢ Stuck) (sym its)
      (subst
      (λ (l : List Field). typed_ran table.classes h.ty.ret (run_on table (body_of h.form.recipe) (h.fields ++ l) (map erased args) 0) ≢ Stuck)
      (sym none)
      (subst (λ (l : List Field). typed_ran table.classes h.ty.ret (run_on table (body_of h.form.recipe) l (map erased args) 0) ≢ Stuck)
      (sym (append-nil h.fields)) callable)))
