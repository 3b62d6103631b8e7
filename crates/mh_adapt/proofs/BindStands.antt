-- A handle to which a value was bound stands for the Bind of the tree.
use Rattle.std.proofs.Common.{◌≡◌, ◌≢◌, refl, sym, subst, ap, ◌∙◌, ℕ, ◌+◌, ◌-◌, ◌<◌, List, [], ◌∷◌, take, drop, Some, Ok, map, length, append-nil, arith}
use Rattle.std.specs.Prelude.{slice_get, IsTrue}
use Rattle.std.proofs.lemmas.List.{length-map}
use Rattle.std.proofs.lemmas.Option.{slice_get_within}
use Rattle.mh_values.specs.declared.types.MethodTy.{MethodTy}
use Rattle.mh_values.specs.declared.types.Ty.{Ty}
use Rattle.mh_values.specs.declared.value.Value.{Value}
use Rattle.mh_values.specs.Computation.{Stuck, found, spliced}
use Rattle.mh_values.specs.HasType.{HaveTypes}
use Rattle.mh_values.specs.Returns.{Returns}
use Rattle.mh_convert.specs.Conversion.{fit}
use Rattle.mh_convert.proofs.Typed.{fit-typed}
use Rattle.mh_leaf.specs.LeafTable.{LeafTable}
use Rattle.mh_tree.specs.Tree.{Tree, weight}
use Rattle.mh_tree.specs.Tree as tree
use Rattle.mh_tree.specs.Rows.{bind_row, taking}
use Rattle.mh_tree.specs.Typing.{with_type, sides}
use Rattle.mh_tree.specs.Meaning.{Done, fitted, known, mean}
use Rattle.mh_tree.proofs.RowParts.{bind_row-parts}
use Rattle.mh_tree.proofs.SoundAdapters.{bind-sound, one-taken}
use Rattle.mh_tree.proofs.TypedLists.{types-length, types-splice}
use Rattle.mh_form.specs.declared.field.Field.TheVariants as field
use Rattle.mh_form.specs.declared.name.Name.TheVariants as name
use Rattle.mh_form.specs.Erasure.{basic_of, erased, erased_ran}
use Rattle.mh_form.specs.Run.{run_on}
use Rattle.mh_form.proofs.Refines.{refined}
use Rattle.mh_edit.specs.declared.key.Key.TheVariants as key
use Rattle.mh_edit.specs.Applied.{applied}
use Rattle.mh_edit.specs.Fit.{fits}
use Rattle.mh_edit.specs.Rename.{table as places}
use Rattle.mh_edit.proofs.Laws.{law-applied}
use Rattle.mh_edit.proofs.Places.{length-spliced}
use Rattle.mh_handle.specs.Grows.{Grows}
use Rattle.mh_handle.specs.Stands.{HandleView, Stands, handle_body}
use Rattle.mh_handle.proofs.standing.Erasing.{spliced-map}
use Rattle.mh_handle.proofs.standing.Standing.{made-reframed, stands-grown}

pub bind-stands :
    (table : LeafTable) (h h' : HandleView) (t : Tree) (place : ℕ) (v w : Value) (p : Ty) (u : MethodTy) →
    bind_row table.classes h.ty h.weight place v ≡ Ok u →
    slice_get h.ty.params place ≡ Some p →
    fit table.classes v p ≡ Ok w →
    IsTrue (fits (key.Bind place) (handle_body h)) →
    Grows h h' u (1 + h.weight) [] (key.Bind place) (field.Val (erased w) ∷ []) →
    Stands table h t →
    Stands table h' (tree.Bind t place v)
bind-stands table h h' t place v w p u row at fitting fit_key grows st =
    let body = handle_body h in
    let new = applied (key.Bind place) body in
    let whole : List Value → List Value = λ args. spliced place 0 (w ∷ []) args in
    let made : u ≡ taking (spliced place 1 [] h.ty.params) h.ty = (bind_row-parts table.classes h.ty h.weight place v u row).4 in
    let inside : place < length h.ty.params = slice_get_within h.ty.params place p at in
    let one : HaveTypes table.classes (w ∷ []) (take 1 (drop place h.ty.params)) =
    subst (HaveTypes table.classes (w ∷ [])) (sym (one-taken h.ty.params place p at)) (fit-typed table.classes v w p fitting, tt) in
    let old : (args : List Value) → HaveTypes table.classes args u.params → HaveTypes table.classes (whole args) h.ty.params =
    λ args have. types-splice table.classes args (w ∷ []) h.ty.params [] place 1 (omega (arith, inside))
    (subst (λ (m : MethodTy). HaveTypes table.classes args m.params) made have) one in
    let means : (args : List Value) (n : ℕ) → mean table (tree.Bind t place v) args n ≡ mean table t (whole args) n =
    λ args n. let run : Value → Done = λ x. mean table t (spliced place 0 (x ∷ []) args) n in
    ap (λ c. known c (λ ty. found (slice_get ty.params place) (λ q. fitted (fit table.classes v q) run))) st.typed
    ∙ (ap (λ o. found o (λ q. fitted (fit table.classes v q) run)) at ∙ ap (λ r. fitted r run) fitting) in
    let law = law-applied (key.Bind place) body fit_key in
    let size : (args : List Value) → HaveTypes table.classes args u.params → length (map erased args) + 1 ≡ length body.params =
    λ args have.
    let a = length-map args erased in
    let b = types-length table.classes (whole args) h.ty.params (old args have) in
    let c = ap length st.shaped in
    let d = length-map h.ty.params basic_of in
    let e = types-length table.classes args u.params have in
    let f = ap (λ (m : MethodTy). length m.params) made in
    let g = length-spliced place 1 [] h.ty.params (omega (arith, inside)) in
    omega (arith, a, c, d, e, f, g) in
    stands-grown table h h' t (tree.Bind t place v) u (1 + h.weight) [] (key.Bind place) (field.Val (erased w) ∷ []) grows st (record {
      typed = ap (λ c. with_type c (λ ty. bind_row table.classes ty (weight t) place v)) st.typed ∙
          (ap (λ k. bind_row table.classes h.ty k place v) (sym st.weighed) ∙ row);
      weighed = ap (λ k. 1 + k) st.weighed;
      holds = sym (append-nil (sides table t));
      keyed = refl;
      fielded = refl;
      shaped = ap (spliced place 1 []) st.shaped ∙ (sym (spliced-map basic_of place 1 [] h.ty.params) ∙ ap (λ (m : MethodTy). map basic_of m.params)
          (sym made));
      begun = made-reframed body (spliced place 1 [] body.params) (name.Get body.fields ∷ []) (places place 0 ((length body.params - 1) ∷ [])
          (length body.params - (place + 1))) 1 st.begun;
      runs = λ args n have low.
          let m : map erased (whole args) ≡ spliced place 0 (erased w ∷ []) (map erased args) = spliced-map erased place 0 (w ∷ []) args in
          let runs : run_on table body h.fields (spliced place 0 (erased w ∷ []) (map erased args)) n ≢ Stuck =
          λ e. st.well_formed (whole args) n (old args have) low (ap (λ xs. run_on table body h.fields xs n) m ∙ e) in
          refined _ _ runs (law table h.fields (erased w) (map erased args) n st.fielded (size args have))
          ∙ (ap (λ xs. run_on table body h.fields xs n) (sym m)
          ∙ (st.runs (whole args) n (old args have) low ∙ ap erased_ran (sym (means args n))));
      returns = λ args n have.
          subst (λ r. Returns table.classes r u.ret)
          (sym (ap
          (λ c. known c (λ ty. found (slice_get ty.params place) (λ q. fitted (fit table.classes v q) (λ x. mean table t (spliced place 0 (x ∷ []) args)
          n)))) st.typed))
          (bind-sound table.classes (mean table t) h.ty h.weight place v u st.returns row args n have);
    })
