-- A handle with parameters that it drops stands for the Drop of the tree.
use Rattle.std.proofs.Common.{◌≡◌, ◌≢◌, refl, sym, subst, ap, ◌∙◌, ℕ, ◌+◌, ◌-◌, ◌≤◌, List, [], Ok, map, length, append-nil, arith}
use Rattle.std.specs.Prelude.{IsTrue}
use Rattle.std.proofs.lemmas.List.{length-map}
use Rattle.mh_values.specs.declared.types.MethodTy.{MethodTy}
use Rattle.mh_values.specs.declared.types.Ty.{Ty}
use Rattle.mh_values.specs.declared.value.Value.{Value}
use Rattle.mh_values.specs.Computation.{Stuck, spliced}
use Rattle.mh_values.specs.HasType.{HaveTypes}
use Rattle.mh_leaf.specs.LeafTable.{LeafTable}
use Rattle.mh_tree.specs.Tree.{Tree, weight}
use Rattle.mh_tree.specs.Tree as tree
use Rattle.mh_tree.specs.Rows.{drop_row}
use Rattle.mh_tree.specs.Typing.{with_type, sides}
use Rattle.mh_tree.specs.Meaning.{mean}
use Rattle.mh_tree.proofs.RowParts.{drop_row-parts}
use Rattle.mh_tree.proofs.SoundAdapters.{drop-sound, at_most}
use Rattle.mh_tree.proofs.TypedLists.{types-length, types-splice}
use Rattle.mh_form.specs.Erasure.{basic_of, erased}
use Rattle.mh_form.specs.Run.{run_on}
use Rattle.mh_form.proofs.Refines.{refined}
use Rattle.mh_edit.specs.declared.key.Key.{Key}
use Rattle.mh_edit.specs.declared.key.Key.TheVariants as key
use Rattle.mh_edit.specs.Applied.{applied}
use Rattle.mh_edit.specs.Fit.{fits}
use Rattle.mh_edit.specs.Rename.{table as places}
use Rattle.mh_edit.specs.Law.{AddLaw}
use Rattle.mh_edit.proofs.Laws.{law-applied}
use Rattle.mh_edit.proofs.Places.{length-spliced}
use Rattle.mh_handle.specs.Grows.{Grows}
use Rattle.mh_handle.specs.Stands.{HandleView, Stands, handle_body}
use Rattle.mh_handle.proofs.standing.Erasing.{spliced-map}
use Rattle.mh_handle.proofs.standing.Standing.{made-reframed, stands-grown}

pub drop-stands :
    (table : LeafTable) (h h' : HandleView) (t : Tree) (place : ℕ) (types : List Ty) (u : MethodTy) →
    drop_row h.ty h.weight place types ≡ Ok u →
    IsTrue (fits (key.Add place (map basic_of types)) (handle_body h)) →
    Grows h h' u (1 + h.weight) [] (key.Add place (map basic_of types)) [] →
    Stands table h t →
    Stands table h' (tree.Drop t place types)
drop-stands table h h' t place types u row fit_key grows st =
    let body = handle_body h in
    let k : Key = key.Add place (map basic_of types) in
    let new = applied k body in
    let put : ℕ = length types in
    let q = drop_row-parts h.ty h.weight place types u row in
    let inside : place ≤ length h.ty.params = at_most place (length h.ty.params) q.0 in
    let old : (args : List Value) → HaveTypes table.classes args u.params → HaveTypes table.classes (spliced place put [] args) h.ty.params =
    λ args have. types-splice table.classes args [] h.ty.params types place 0 inside (subst (λ (m : MethodTy). HaveTypes table.classes args m.params) q.1 have)
    tt in
    let law : AddLaw place put body new = subst (λ c. AddLaw place c body new) (length-map types basic_of) (law-applied k body fit_key) in
    let size : (args : List Value) → HaveTypes table.classes args u.params → length (map erased args) ≡ length body.params + put =
    λ args have.
    let a = length-map args erased in
    let c = ap length st.shaped in
    let d = length-map h.ty.params basic_of in
    let e = types-length table.classes args u.params have in
    let f = ap (λ (m : MethodTy). length m.params) q.1 in
    let g = length-spliced place 0 types h.ty.params (omega (arith, inside)) in
    omega (arith, a, c, d, e, f, g) in
    stands-grown table h h' t (tree.Drop t place types) u (1 + h.weight) [] k [] grows st (record {
      typed = ap (λ c. with_type c (λ ty. drop_row ty (weight t) place types)) st.typed ∙ (ap (λ m. drop_row h.ty m place types) (sym st.weighed) ∙ row);
      weighed = ap (λ m. 1 + m) st.weighed;
      holds = sym (append-nil (sides table t));
      keyed = refl;
      fielded = refl;
      shaped = ap (spliced place 0 (map basic_of types)) st.shaped ∙ (sym (spliced-map basic_of place 0 types h.ty.params) ∙
          ap (λ (m : MethodTy). map basic_of m.params) (sym q.1));
      begun = made-reframed body (spliced place 0 (map basic_of types) body.params) [] (places place (length (map basic_of types)) []
          (length body.params - (place + 0))) 0 st.begun;
      runs = λ args n have low.
          let m : map erased (spliced place put [] args) ≡ spliced place put [] (map erased args) = spliced-map erased place put [] args in
          let runs : run_on table body h.fields (spliced place put [] (map erased args)) n ≢ Stuck =
          λ e. st.well_formed (spliced place put [] args) n (old args have) low (ap (λ xs. run_on table body h.fields xs n) m ∙ e) in
          ap (λ fs. run_on table new fs (map erased args) n) (append-nil h.fields)
          ∙ (refined _ _ runs (law table h.fields (map erased args) n st.fielded (size args have))
          ∙ (ap (λ xs. run_on table body h.fields xs n) (sym m) ∙ st.runs (spliced place put [] args) n (old args have) low));
      returns = drop-sound table.classes (mean table t) h.ty h.weight place types u st.returns row;
    })
