-- A handle whose arguments are put into another order stands for the Permute of the tree.
use Rattle.std.proofs.Common.{◌≡◌, ◌≢◌, refl, sym, subst, ap, ap₂, ◌∙◌, ℕ, ◌+◌, true, List, [], ◌∷◌, ◌++◌, Some, Ok, map, length, append-nil}
use Rattle.std.proofs.lemmas.Bool.{and_parts}
use Rattle.std.specs.Prelude.{slice_get, option_to_list, IsTrue}
use Rattle.std.specs.Option.{option_map}
use Rattle.std.proofs.lemmas.List.{length-map}
use Rattle.std.proofs.lemmas.Option.{slice_get-map}
use Rattle.mh_values.specs.declared.class.Class.{Class}
use Rattle.mh_values.specs.declared.types.MethodTy.{MethodTy}
use Rattle.mh_values.specs.declared.types.Ty.{Ty}
use Rattle.mh_values.specs.declared.value.Value.{Value}
use Rattle.mh_values.specs.Computation.{Stuck, found}
use Rattle.mh_values.specs.HasType.{HaveTypes}
use Rattle.mh_values.specs.Same.{is_same_return}
use Rattle.mh_values.proofs.SameTypes.{same_return-is}
use Rattle.mh_leaf.specs.LeafTable.{LeafTable}
use Rattle.mh_tree.specs.Tree.{Tree, weight}
use Rattle.mh_tree.specs.Tree as tree
use Rattle.mh_tree.specs.Rows.{names_types, permute_row}
use Rattle.mh_tree.specs.Typing.{with_type, sides}
use Rattle.mh_tree.specs.Meaning.{mean}
use Rattle.mh_tree.specs.Meaning as meaning
use Rattle.mh_tree.proofs.RowParts.{permute_row-parts}
use Rattle.mh_tree.proofs.SoundAdapters.{permute-sound}
use Rattle.mh_tree.proofs.TypedLists.{types-get, types-length, types-picked}
use Rattle.mh_form.specs.declared.slot.Slot.{Slot}
use Rattle.mh_form.specs.Erasure.{basic_of, erased}
use Rattle.mh_form.specs.Run.{picked, picked_more, run_on}
use Rattle.mh_form.proofs.Refines.{refined}
use Rattle.mh_edit.specs.declared.key.Key.{Key}
use Rattle.mh_edit.specs.declared.key.Key.TheVariants as key
use Rattle.mh_edit.specs.Applied.{applied}
use Rattle.mh_edit.specs.Fit.{fits}
use Rattle.mh_edit.specs.Law.{PermuteLaw}
use Rattle.mh_edit.proofs.Laws.{law-applied}
use Rattle.mh_handle.specs.Grows.{Grows}
use Rattle.mh_handle.specs.Stands.{HandleView, Stands, handle_body}
use Rattle.mh_handle.proofs.standing.Standing.{made-reframed, stands-grown}

-- the arguments that are named, erased, are the slots at the named places
picked-erased :
    (classes : List Class) (args : List Value) (params : List Ty) (reorder : List ℕ) (types : List Ty) →
    HaveTypes classes args params →
    names_types params reorder types ≡ true →
    picked (map erased args) reorder ≡ Some (map erased (meaning.picked args reorder))
picked-erased classes args params [] [] have named = refl
picked-erased classes args params [] (t ∷ types) have named = absurd cc
picked-erased classes args params (i ∷ reorder) [] have named = absurd cc
picked-erased classes args params (i ∷ reorder) (t ∷ types) have named =
    let q = and_parts (is_same_return (slice_get params i) (Some t)) (names_types params reorder types) named in
    let v = types-get classes args params i t have (same_return-is (slice_get params i) (Some t) q.0) in
    let slot : slice_get (map erased args) i ≡ Some (erased v.0) = slice_get-map erased args i ∙ ap (option_map erased) v.1 in
    ap₂ picked_more slot (picked-erased classes args params reorder types have q.1)
    ∙ ap (λ o. Some (map erased (option_to_list o ++ meaning.picked args reorder))) (sym v.1)

pub permute-stands :
    (table : LeafTable) (h h' : HandleView) (t : Tree) (asked : MethodTy) (reorder : List ℕ) (u : MethodTy) →
    permute_row h.ty h.weight asked reorder ≡ Ok u →
    IsTrue (fits (key.Permute (map basic_of asked.params) reorder) (handle_body h)) →
    Grows h h' u (1 + h.weight) [] (key.Permute (map basic_of asked.params) reorder) [] →
    Stands table h t →
    Stands table h' (tree.Permute t asked reorder)
permute-stands table h h' t asked reorder u row fit_key grows st =
    let body = handle_body h in
    let basics = map basic_of asked.params in
    let k : Key = key.Permute basics reorder in
    let new = applied k body in
    let q = permute_row-parts h.ty h.weight asked reorder u row in
    let own : (args : List Value) → HaveTypes table.classes args u.params → HaveTypes table.classes args asked.params =
    λ args have. subst (λ (m : MethodTy). HaveTypes table.classes args m.params) q.2 have in
    let old : (args : List Value) → HaveTypes table.classes args u.params → HaveTypes table.classes (meaning.picked args reorder) h.ty.params =
    λ args have. types-picked table.classes args asked.params reorder h.ty.params (own args have) q.0 in
    let law : PermuteLaw (length basics) reorder body new = law-applied k body fit_key in
    let size : (args : List Value) → HaveTypes table.classes args u.params → length (map erased args) ≡ length basics =
    λ args have. length-map args erased ∙ (types-length table.classes args asked.params (own args have) ∙ sym (length-map asked.params basic_of)) in
    stands-grown table h h' t (tree.Permute t asked reorder) u (1 + h.weight) [] k [] grows st (record {
      typed = ap (λ c. with_type c (λ ty. permute_row ty (weight t) asked reorder)) st.typed ∙ (ap (λ m. permute_row h.ty m asked reorder) (sym st.weighed) ∙
          row);
      weighed = ap (λ m. 1 + m) st.weighed;
      holds = sym (append-nil (sides table t));
      keyed = refl;
      fielded = refl;
      shaped = ap (λ (m : MethodTy). map basic_of m.params) (sym q.2);
      begun = made-reframed body basics [] reorder 0 st.begun;
      runs = λ args n have low.
          let chosen = picked-erased table.classes args asked.params reorder h.ty.params (own args have) q.0 in
          let run : List Slot → _ = λ xs. run_on table body h.fields xs n in
          let runs : found (picked (map erased args) reorder) run ≢ Stuck =
          λ e. st.well_formed (meaning.picked args reorder) n (old args have) low (ap (λ o. found o run) (sym chosen) ∙ e) in
          ap (λ fs. run_on table new fs (map erased args) n) (append-nil h.fields)
          ∙ (refined _ _ runs (law table h.fields (map erased args) n st.fielded (size args have))
          ∙ (ap (λ o. found o run) chosen ∙ st.runs (meaning.picked args reorder) n (old args have) low));
      returns = permute-sound table.classes (mean table t) h.ty h.weight asked reorder u st.returns row;
    })
