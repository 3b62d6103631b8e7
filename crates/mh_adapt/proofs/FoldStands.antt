-- A handle that is folded by a combiner stands for the Fold of the trees.
use Rattle.std.proofs.Common.{◌≡◌, ◌≢◌, refl, sym, subst, ap, ◌∙◌, ℕ, ◌+◌, ◌-◌, ◌<◌, ◌^◌, List, [], ◌∷◌, ◌++◌, drop, length, map, Ok, arith}
use Rattle.std.specs.Prelude.{option_to_list}
use Rattle.std.specs.List.{range_with_len}
use Rattle.std.proofs.lemmas.List.{length-map}
use Rattle.mh_values.specs.declared.types.MethodTy.{MethodTy}
use Rattle.mh_values.specs.declared.value.Value.{Value}
use Rattle.mh_values.specs.Computation.{Stuck, and_then, spliced}
use Rattle.mh_values.specs.HasType.{HaveTypes}
use Rattle.mh_values.proofs.SameTypes.{begins_with-rest}
use Rattle.mh_leaf.specs.LeafTable.{LeafTable}
use Rattle.mh_tree.specs.Tree.{Tree}
use Rattle.mh_tree.specs.Tree as tree
use Rattle.mh_tree.specs.Rows.{count_of, fold_row, folded}
use Rattle.mh_tree.specs.Typing.{arity_of}
use Rattle.mh_tree.specs.Meaning.{Done, mean, part_of}
use Rattle.mh_tree.specs.Sound.{IsSound}
use Rattle.mh_tree.proofs.RowParts.{fold_row-parts}
use Rattle.mh_tree.proofs.SoundAdapters.{fold-sound, gives_at-taken, gives_at-within}
use Rattle.mh_tree.proofs.TypedLists.{types-drop, types-front, types-length, types-splice}
use Rattle.mh_form.specs.declared.field.Field.{Field}
use Rattle.mh_form.specs.declared.name.Name.TheVariants as name
use Rattle.mh_form.specs.Erasure.{basic_of, basic_ret_of, erased, erased_ran}
use Rattle.mh_form.specs.Run.{run_on}
use Rattle.mh_form.proofs.Refines.{refined}
use Rattle.mh_form.specs.Slots.{given}
use Rattle.mh_edit.specs.Applied.{applied}
use Rattle.mh_edit.specs.Fit.{taken_by}
use Rattle.mh_edit.specs.Law.{FoldLaw}
use Rattle.mh_edit.specs.Rename.{table as places}
use Rattle.mh_edit.proofs.Laws.{law-applied}
use Rattle.mh_edit.proofs.Places.{length-spliced}
use Rattle.mh_handle.specs.Grows.{Grows}
use Rattle.mh_handle.specs.Parts.{IsPartOf}
use Rattle.mh_handle.specs.Stands.{HandleView, Stands, handle_body}
use Rattle.mh_handle.proofs.standing.Erasing.{returns-runs}
use Rattle.mh_handle.proofs.standing.Standing.{made-fits, made-reframed}
use Rattle.mh_adapt.specs.Parts.{fold_key}
use Rattle.mh_adapt.proofs.PartFits.{fold-fits, gives-room, parted-shape, taken-count}
use Rattle.mh_adapt.proofs.PartRuns.{first-runs}
use Rattle.mh_adapt.proofs.Parted.{stands-parted}

pub fold-stands :
    (table : LeafTable) (h h' g : HandleView) (a b : Tree) (place : ℕ) (f : Field) (u : MethodTy) →
    fold_row h.ty h.weight place g.ty g.weight ≡ Ok u →
    IsPartOf g f →
    Grows h h' u (1 + h.weight + g.weight) (g.ty ∷ g.sides) (fold_key place g.ty) (f ∷ []) →
    Stands table h a →
    Stands table g b →
    Stands table h' (tree.Fold a place b)
fold-stands table h h' g a b place f u row part grows st sp =
    let q = fold_row-parts h.ty h.weight place g.ty g.weight u row in
    let t = tree.Fold a place b in
    let count = length g.ty.params in
    let old = handle_body h in
    let k = fold_key place g.ty in
    let new = applied k old in
    let ret = basic_ret_of g.ty.ret in
    let params = folded h.ty place g.ty in
    let body : List Value → ℕ → Done = λ args n. and_then (mean table b (part_of place count args) n) n
    (λ o k. mean table a (spliced place 0 (option_to_list o) args) k) in
    let means : (args : List Value) (n : ℕ) → mean table t args n ≡ body args n =
    λ args n. ap (λ c. and_then (mean table b (part_of place (arity_of c) args) n) n (λ o k. mean table a (spliced place 0 (option_to_list o) args) k)) sp.typed
    in
    let sound : IsSound table.classes (mean table t) u =
    subst (λ c. IsSound table.classes (λ args n. and_then (mean table b (part_of place (arity_of c) args) n) n
    (λ o k. mean table a (spliced place 0 (option_to_list o) args) k)) u) (sym sp.typed)
    (fold-sound table.classes (mean table a) (mean table b) h.ty h.weight place g.ty g.weight u st.returns sp.returns row) in
    let law : FoldLaw place count ret old new = law-applied k old (fold-fits h.ty place g.ty old q.0 q.1 (made-fits old st.begun) st.shaped) in
    let runs : (args : List Value) (n : ℕ) → HaveTypes table.classes args u.params → n < 2 ^ 32 →
    run_on table new (h.fields ++ f ∷ []) (map erased args) n ≡ erased_ran (mean table t args n) =
    λ args n have low.
    let have' : HaveTypes table.classes args params = subst (λ (m : MethodTy). HaveTypes table.classes args m.params) q.2 have in
    let within = gives_at-within g.ty.ret place h.ty.params q.0 in
    let taken = gives_at-taken g.ty.ret place h.ty.params q.0 in
    let rest = begins_with-rest (drop place params) g.ty.params q.1 in
    let after : HaveTypes table.classes (drop place args) (g.ty.params ++ rest.0) =
    subst (HaveTypes table.classes (drop place args)) rest.1 (types-drop table.classes args params place have') in
    let first = first-runs table h g a b part.0 st sp part.2 part.3 args n place count 0 low (types-front table.classes (drop place args) g.ty.params rest.0
    after)
    (λ o given. types-splice table.classes args (option_to_list o) h.ty.params [] place (count_of g.ty.ret) within have'
    (subst (HaveTypes table.classes (option_to_list o)) (sym taken) given)) ∙ ap erased_ran (sym (means args n)) in
    let well : erased_ran (mean table t args n) ≢ Stuck = returns-runs table.classes (mean table t args n) u.ret (sound args n have) in
    let long : length (map erased args) + taken_by ret ≡ length old.params =
    omega (
      arith,
      length-map args erased,
      types-length table.classes args params have',
      length-spliced place (count_of g.ty.ret) [] h.ty.params (gives-room g.ty.ret place h.ty.params q.0),
      taken-count g.ty.ret,
      ap length st.shaped,
      length-map h.ty.params basic_of,
    ) in
    ap (λ x. run_on table new (h.fields ++ x ∷ []) (map erased args) n) part.1
    ∙ (refined _ _ (λ e. well (sym first ∙ e)) (law table h.fields part.0 (map erased args) n st.fielded long) ∙ first) in
    stands-parted table h h' g a b t (λ ty m part k. fold_row ty m place part k) (fold_key place) u f
    (record { typed = refl; weighed = refl; holds = refl; keyed = refl }) row grows st sp (record {
      fielded = refl;
      shaped = parted-shape h.ty.params [] place g.ty.ret old.params st.shaped ∙ ap (λ (m : MethodTy). map basic_of m.params) (sym q.2);
      begun = made-reframed old new.params (name.Link old.fields (range_with_len place count) ∷ [])
          (places place 0 (given ret (length old.params - taken_by ret)) (length old.params - (place + taken_by ret))) 1 st.begun;
      runs = runs;
      returns = sound;
    })
