-- What holds of each adapter: where its rule gives a type, its key fits the handle's form, and the handle that grows by it stands for the adapted tree.
use Rattle.std.proofs.Common.{◌≡◌, sym, subst, ap, ◌∙◌, ◌+◌, ◌≤◌, List, ◌∷◌, [], ◌++◌, arith, Result, Ok}
use Rattle.std.specs.Option.{option_map_or}
use Rattle.mh_values.specs.declared.class.Class.{Class}
use Rattle.mh_values.specs.declared.types.MethodTy.{MethodTy}
use Rattle.mh_convert.specs.Conversion.{fit}
use Rattle.mh_leaf.specs.LeafTable.{LeafTable}
use Rattle.mh_tree.specs.declared.inserting.Adapter.{Adapter}
use Rattle.mh_tree.specs.declared.inserting.Adapter.TheVariants as adapter
use Rattle.mh_tree.specs.Adapters.{adapter_row, adapter_tree}
use Rattle.mh_tree.specs.Tree.{Tree}
use Rattle.mh_tree.proofs.RowParts.{bind_row-parts}
use Rattle.mh_form.specs.declared.field.Field.TheVariants as field
use Rattle.mh_form.specs.Erasure.{erased}
use Rattle.mh_edit.specs.declared.key.Key.{Key}
use Rattle.mh_handle.specs.declared.error.HandleError.{HandleError}
use Rattle.mh_handle.specs.declared.handle.Handle.{Handle}
use Rattle.mh_handle.specs.declared.work.Work.{Work}
use Rattle.mh_handle.specs.Grows.{Grows}
use Rattle.mh_handle.specs.Recipe.{recipe}
use Rattle.mh_handle.specs.Stands.{HandleView, IsShaped, Stands}
use Rattle.mh_handle.specs.Works.{Makes}
use Rattle.mh_adapt.specs.Parts.{adapter_fields, adapter_key, bound_fields}
use Rattle.mh_adapt.proofs.BindStands.{bind-stands}
use Rattle.mh_adapt.proofs.DropStands.{drop-stands}
use Rattle.mh_adapt.proofs.PermuteStands.{permute-stands}
use Rattle.mh_adapt.proofs.InsertingFits.{bind-fits, bind-shaped, drop-fits, drop-shaped, permute-fits, permute-shaped}
use Rattle.mh_adapt.proofs.PartAnswers.{IsSuited}

module _ (classes : List Class) (t : HandleView) (u : MethodTy) where
  pub adapter-light : (d : Adapter) → adapter_row classes d t.ty t.weight ≡ Ok u → 1 + t.weight ≤ 256
  adapter-light (adapter.Bind place v) row = grind arith
  adapter-light (adapter.Drop place types) row = grind arith
  adapter-light (adapter.Permute asked order) row = grind arith

  pub adapter-suited : IsShaped t → (d : Adapter) → adapter_row classes d t.ty t.weight ≡ Ok u → IsSuited u t (adapter_key d)
  adapter-suited shaped (adapter.Bind place v) row = record {
    fit = bind-fits classes t place v u row shaped;
    shaped = bind-shaped classes t place v u row shaped;
  }
  adapter-suited shaped (adapter.Drop place types) row = record {
    fit = drop-fits t place types.now u row shaped;
    shaped = drop-shaped t place types.now u row shaped;
  }
  adapter-suited shaped (adapter.Permute asked order) row = record {
    fit = permute-fits t asked.now order.now u row shaped;
    shaped = permute-shaped t asked.now order.now u row shaped;
  }

module _ (table : LeafTable) (h : HandleView) (a : Tree) (st : Stands table h a) where
  recipe-with : (k : Key) → recipe table a ++ k ∷ [] ≡ h.form.recipe ++ k ∷ []
  recipe-with k = ap (λ ks. ks ++ k ∷ []) (sym st.made)

  adapter-recipe : (d : Adapter) → recipe table (adapter_tree d a) ≡ h.form.recipe ++ adapter_key d ∷ []
  adapter-recipe (adapter.Bind place v) = recipe-with (adapter_key (adapter.Bind place v))
  adapter-recipe (adapter.Drop place types) = recipe-with (adapter_key (adapter.Drop place types))
  adapter-recipe (adapter.Permute asked order) = recipe-with (adapter_key (adapter.Permute asked order))

  pub adapter-makes : (d : Adapter) (k : Key) (old new : Work) (r : Result Handle HandleError) → k ≡ adapter_key d →
      Makes (h.form.recipe ++ k ∷ []) old new r → Makes (recipe table (adapter_tree d a)) old new r
  adapter-makes d k old new r is makes =
      subst (λ ks. Makes ks old new r) (ap (λ x. h.form.recipe ++ x ∷ []) is ∙ sym (adapter-recipe d)) makes

  pub adapter-stands : (d : Adapter) (h' : HandleView) (u : MethodTy) → adapter_row table.classes d h.ty h.weight ≡ Ok u → IsSuited u h (adapter_key d) →
      Grows h h' u (1 + h.weight) [] (adapter_key d) (adapter_fields table.classes d h.ty) → Stands table h' (adapter_tree d a)
  adapter-stands (adapter.Bind place v) h' u row suited grows =
      let q = bind_row-parts table.classes h.ty h.weight place v u row in
      let fields : adapter_fields table.classes (adapter.Bind place v) h.ty ≡ field.Val (erased q.1) ∷ [] =
      ap (λ o. option_map_or (λ param. bound_fields (fit table.classes v param)) o []) q.2 ∙ ap bound_fields q.3 in
      bind-stands table h h' a place v q.1 q.0 u row q.2 q.3 suited.fit
      (subst (λ fs. Grows h h' u (1 + h.weight) [] (adapter_key (adapter.Bind place v)) fs) fields grows) st
  adapter-stands (adapter.Drop place types) h' u row suited grows = drop-stands table h h' a place types.now u row suited.fit grows st
  adapter-stands (adapter.Permute asked order) h' u row suited grows = permute-stands table h h' a asked.now order.now u row suited.fit grows st
