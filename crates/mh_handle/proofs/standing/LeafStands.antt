-- A handle of a leaf stands for the leaf.
use Rattle.std.proofs.Common.{◌≡◌, refl, sym, subst, ap, ◌∙◌, ℕ, List, [], ◌∷◌, Option, Some, None, Result, Ok, Err, IfOk, map, length}
use Rattle.std.specs.Prelude.{slice_get, option_map}
use Rattle.std.proofs.lemmas.List.{length-map}
use Rattle.mh_values.specs.declared.types.MethodTy.{MethodTy}
use Rattle.mh_values.specs.declared.value.LeafId.{LeafId}
use Rattle.mh_values.specs.declared.value.Value.{Value}
use Rattle.mh_values.specs.Computation.{found}
use Rattle.mh_values.specs.HasType.{HaveTypes}
use Rattle.mh_leaf.specs.declared.leaf.Leaf.{Leaf}
use Rattle.mh_leaf.specs.LeafTable.{LeafTable}
use Rattle.mh_leaf.specs.Outcome.{leaf_mean}
use Rattle.mh_leaf.specs.WellTyped.{IsWellTyped}
use Rattle.mh_leaves.specs.Registered.{type_of_leaf}
use Rattle.mh_tree.specs.Tree as tree
use Rattle.mh_tree.specs.Rows.{leaf_row}
use Rattle.mh_tree.specs.Typing.{type_of}
use Rattle.mh_tree.specs.Meaning.{mean}
use Rattle.mh_tree.proofs.Soundness.{mean-sound}
use Rattle.mh_tree.proofs.TypedLists.{types-length}
use Rattle.mh_form.specs.declared.basic.Shape.{Shape}
use Rattle.mh_form.specs.declared.field.Field.{Field}
use Rattle.mh_form.specs.declared.field.Field.TheVariants as field
use Rattle.mh_form.specs.Body.{nothing}
use Rattle.mh_form.specs.Erasure.{all_typed, basic_of, basic_ret_of, erased, erased_ran, shape_of}
use Rattle.mh_form.specs.Slots.{called}
use Rattle.mh_form.proofs.ErasureLaws.{erased-all_typed}
use Rattle.mh_form.proofs.Refines.{refined}
use Rattle.mh_form.specs.Run.{run_on}
use Rattle.mh_edit.specs.declared.key.Key.TheVariants as key
use Rattle.mh_edit.specs.Applied.{applied}
use Rattle.mh_edit.specs.Law.{returned}
use Rattle.mh_edit.proofs.Laws.{law-applied}
use Rattle.mh_handle.specs.declared.error.HandleError.{HandleError}
use Rattle.mh_handle.specs.Grows.{Grows, base_handle}
use Rattle.mh_handle.specs.Recipe.{at_type}
use Rattle.mh_handle.specs.Stands.{HandleView, Stands}
use Rattle.mh_handle.proofs.standing.Erasing.{returns-runs, returned-erased}
use Rattle.mh_handle.proofs.standing.Standing.{stands-rooted}

found-leaf : (o : Option Leaf) (ty : MethodTy) → leaf_row o ≡ Ok ty → (leaf : Leaf) × (o ≡ Some leaf) × (leaf.ty ≡ ty)
found-leaf (Some leaf) ty e = (leaf, refl, cc)
found-leaf None ty e = absurd cc

row-of : (o : Option Leaf) (ty : MethodTy) → option_map (λ leaf. leaf.ty) o ≡ Some ty → leaf_row o ≡ Ok ty
row-of (Some leaf) ty e = let is : leaf.ty ≡ ty = cc in ap Ok is
row-of None ty e = absurd cc

called-erased : (table : LeafTable) (l : LeafId) (leaf : Leaf) (args : List Value) (n : ℕ) → slice_get table.leaves l.0 ≡ Some leaf →
    HaveTypes table.classes args leaf.ty.params
    → called table l (map erased args) n ≡ erased_ran (leaf_mean table l args n)
called-erased table l leaf args n at have =
    ap (λ o. found o (λ leaf. found (all_typed table.classes leaf.ty.params (map erased args)) (λ vs. erased_ran (leaf_mean table l vs n)))) at
    ∙ ap (λ o. found o (λ vs. erased_ran (leaf_mean table l vs n))) (erased-all_typed table.classes leaf.ty.params args have)

pub leaf-stands : (table : LeafTable) → IsWellTyped table → (l : LeafId) (ty : MethodTy) (h : HandleView) → type_of_leaf table l ≡ Some ty
    → Grows base_handle h ty 1 [] (key.LeafRoot (shape_of ty)) (field.Leaf l ∷ []) → Stands table h (tree.Leaf l)
leaf-stands table well l ty h is g =
    let typed : type_of table (tree.Leaf l) ≡ Ok ty = row-of (slice_get table.leaves l.0) ty is in
    let leaf = found-leaf (slice_get table.leaves l.0) ty typed in
    let sound = mean-sound table well (tree.Leaf l) ty typed in
    let new = applied (key.LeafRoot (shape_of ty)) nothing in
    let law = law-applied (key.LeafRoot (shape_of ty)) nothing refl in
    stands-rooted table h (tree.Leaf l) ty 1 [] (key.LeafRoot (shape_of ty)) (field.Leaf l ∷ []) g (record {
      typed = typed;
      weighed = refl;
      holds = refl;
      keyed = ap (λ c. at_type c (λ t. key.LeafRoot (shape_of t) ∷ [])) typed;
      fielded = refl;
      shaped = refl;
      begun = refl;
      runs = λ args n have low.
          let does = called-erased table l leaf.0 args n leaf.1 (subst (λ (m : MethodTy). HaveTypes table.classes args m.params) (sym leaf.2) have) in
          let whole = ap (returned (basic_ret_of ty.ret)) does ∙ returned-erased table.classes (mean table (tree.Leaf l) args n) ty.ret (sound args n have) in
          let size : length (map erased args) ≡ length (map basic_of ty.params) = length-map args erased ∙ (types-length table.classes args ty.params have ∙
          sym (length-map ty.params basic_of)) in
          refined (returned (basic_ret_of ty.ret) (called table l (map erased args) n)) (run_on table new (field.Leaf l ∷ []) (map erased args) n)
          (λ e. returns-runs table.classes (mean table (tree.Leaf l) args n) ty.ret (sound args n have) (sym whole ∙ e))
          (law table l (map erased args) n size)
          ∙ whole;
      returns = sound;
    })

-- what the call of a leaf answers
pub leaf-answers : (table : LeafTable) → IsWellTyped table → (l : LeafId) (ty ty' : MethodTy) (s : Shape) (sides : List MethodTy) (fields : List Field)
    (r : Result HandleView HandleError)
    → type_of_leaf table l ≡ Some ty → ty' ≡ ty → s ≡ shape_of ty' → sides ≡ [] → fields ≡ field.Leaf l ∷ []
    → IfOk r (λ h. Grows base_handle h ty' 1 sides (key.LeafRoot s) fields) → IfOk r (λ h. Stands table h (tree.Leaf l))
leaf-answers table well l ty ty' s sides fields (Ok h) is same shape none one g =
    leaf-stands table well l ty' h (is ∙ ap Some (sym same))
    (subst (λ fs. Grows base_handle h ty' 1 [] (key.LeafRoot (shape_of ty')) fs) one
    (subst (λ v. Grows base_handle h ty' 1 [] (key.LeafRoot v) fields) shape
    (subst (λ v. Grows base_handle h ty' 1 v (key.LeafRoot s) fields) none g)))
leaf-answers table well l ty ty' s sides fields (Err e) is same shape none one g = g
