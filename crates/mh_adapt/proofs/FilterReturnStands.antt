-- A handle with a filtered result stands for the FilterRet of the trees.
use Rattle.std.proofs.Common.{◌≡◌, ◌≢◌, refl, sym, subst, ap, ◌∙◌, ℕ, suc, Option, ◌+◌, ◌<◌, ◌^◌, List, [], ◌∷◌, ◌++◌, length, length-append, map, not, ◌&&◌, Ok, arith}
use Rattle.std.specs.Prelude.{option_to_list, ◌==◌, is_some}
use Rattle.std.proofs.lemmas.List.{length-map}
use Rattle.mh_values.specs.declared.types.MethodTy.{MethodTy}
use Rattle.mh_values.specs.declared.value.Value.{Value}
use Rattle.mh_values.specs.Computation.{Stuck}
use Rattle.mh_values.specs.HasType.{HaveTypes}
use Rattle.mh_values.proofs.SameTypes.{same_types-is}
use Rattle.mh_leaf.specs.LeafTable.{LeafTable}
use Rattle.mh_tree.specs.Tree.{Tree}
use Rattle.mh_tree.specs.Tree as tree
use Rattle.mh_tree.specs.Rows.{filterret_row}
use Rattle.mh_tree.specs.Meaning.{mean}
use Rattle.mh_tree.specs.Sound.{IsSound}
use Rattle.mh_tree.proofs.RowParts.{filterret_row-parts}
use Rattle.mh_tree.proofs.SoundAdapters.{filterret-sound}
use Rattle.mh_tree.proofs.TypedLists.{types-length}
use Rattle.mh_form.specs.declared.body.FormBody.{FormBody}
use Rattle.mh_form.specs.declared.field.Field.{Field}
use Rattle.mh_form.specs.declared.name.Name.{Name}
use Rattle.mh_form.specs.Erasure.{basic_of, basic_ret_of, erased, erased_ran}
use Rattle.mh_form.specs.Run.{run_on}
use Rattle.mh_form.proofs.Refines.{refined}
use Rattle.mh_edit.specs.Applied.{applied}
use Rattle.mh_edit.specs.Law.{FilterReturnLaw}
use Rattle.mh_edit.specs.Rename.{ending_with}
use Rattle.mh_edit.proofs.Results.{law-FilterReturn}
use Rattle.mh_handle.specs.Grows.{Grows}
use Rattle.mh_handle.specs.Parts.{IsPartOf}
use Rattle.mh_handle.specs.Stands.{HandleView, IsMade, Stands, handle_body}
use Rattle.mh_handle.proofs.standing.Erasing.{returns-runs}
use Rattle.mh_handle.proofs.standing.Standing.{suc-positive}
use Rattle.mh_adapt.specs.Parts.{filterret_key}
use Rattle.mh_adapt.proofs.PartRuns.{last-runs}
use Rattle.mh_adapt.proofs.Parted.{stands-parted}

-- a body with a last name does something
made-ending : (body : FormBody) (x : Name) (out : Option ℕ) → IsMade (ending_with body x out)
made-ending body x out =
    let more : length (body.names ++ x ∷ []) ≡ suc (length body.names) = length-append body.names (x ∷ []) ∙ omega arith in
    ap (λ n. n == 0 && not (is_some out)) more ∙ ap (λ b. b && not (is_some out)) (suc-positive (length body.names))

pub filterret-stands :
    (table : LeafTable) (h h' g : HandleView) (a b : Tree) (f : Field) (u : MethodTy) →
    filterret_row h.ty h.weight g.ty g.weight ≡ Ok u →
    IsPartOf g f →
    Grows h h' u (1 + h.weight + g.weight) (g.ty ∷ g.sides) (filterret_key g.ty) (f ∷ []) →
    Stands table h a →
    Stands table g b →
    Stands table h' (tree.FilterRet a b)
filterret-stands table h h' g a b f u row part grows st sp =
    let q = filterret_row-parts h.ty h.weight g.ty g.weight u row in
    let t = tree.FilterRet a b in
    let old = handle_body h in
    let k = filterret_key g.ty in
    let new = applied k old in
    let ret = basic_ret_of g.ty.ret in
    let sound : IsSound table.classes (mean table t) u = filterret-sound table.classes (mean table a) (mean table b) h.ty h.weight g.ty g.weight u st.returns
    sp.returns row in
    let law : FilterReturnLaw ret old new = law-FilterReturn ret old in
    let runs : (args : List Value) (n : ℕ) → HaveTypes table.classes args u.params → n < 2 ^ 32 →
    run_on table new (h.fields ++ f ∷ []) (map erased args) n ≡ erased_ran (mean table t args n) =
    λ args n have low.
    let have' : HaveTypes table.classes args h.ty.params = subst (λ (m : MethodTy). HaveTypes table.classes args m.params) q.1 have in
    let last = last-runs table h g a b part.0 st sp part.2 part.3 args n low have' (same_types-is g.ty.params (option_to_list h.ty.ret) q.0) in
    let well : erased_ran (mean table t args n) ≢ Stuck = returns-runs table.classes (mean table t args n) u.ret (sound args n have) in
    let long : length (map erased args) ≡ length old.params =
    omega (arith, length-map args erased, types-length table.classes args h.ty.params have', ap length st.shaped, length-map h.ty.params basic_of) in
    ap (λ x. run_on table new (h.fields ++ x ∷ []) (map erased args) n) part.1
    ∙ (refined _ _ (λ e. well (sym last ∙ e)) (law table h.fields part.0 (map erased args) n st.fielded long) ∙ last) in
    stands-parted table h h' g a b t (λ ty m part k. filterret_row ty m part k) filterret_key u f
    (record { typed = refl; weighed = refl; holds = refl; keyed = refl }) row grows st sp (record {
      fielded = refl;
      shaped = st.shaped ∙ ap (λ (m : MethodTy). map basic_of m.params) (sym q.1);
      begun = made-ending old _ _;
      runs = runs;
      returns = sound;
    })
