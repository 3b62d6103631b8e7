-- A handle before which a part runs on arguments of its own stands for the Collect of the trees.
use Rattle.std.proofs.Common.{◌≡◌, ◌≢◌, refl, sym, subst, ap, ◌∙◌, ℕ, ◌+◌, ◌-◌, ◌<◌, ◌^◌, true, List, [], ◌∷◌, ◌++◌, length, map, Ok, arith}
use Rattle.std.specs.Prelude.{option_to_list}
use Rattle.std.specs.List.{range_with_len}
use Rattle.std.proofs.lemmas.List.{length-map}
use Rattle.mh_values.specs.declared.types.MethodTy.{MethodTy}
use Rattle.mh_values.specs.declared.value.Value.{Value}
use Rattle.mh_values.specs.Computation.{Stuck, and_then, spliced}
use Rattle.mh_values.specs.HasType.{HaveTypes}
use Rattle.mh_values.specs.Returns.{Returns}
use Rattle.mh_leaf.specs.LeafTable.{LeafTable}
use Rattle.mh_tree.specs.Tree.{Tree}
use Rattle.mh_tree.specs.Tree as tree
use Rattle.mh_tree.specs.Rows.{collect_row, count_of, gives_at, taking}
use Rattle.mh_tree.specs.Typing.{arity_of}
use Rattle.mh_tree.specs.Meaning.{mean, part_of}
use Rattle.mh_tree.specs.Sound.{Body, IsSound}
use Rattle.mh_tree.proofs.RowParts.{collect_row-parts}
use Rattle.mh_tree.proofs.SoundAdapters.{collect-sound, gives_at-taken, gives_at-within}
use Rattle.mh_tree.proofs.TypedLists.{types-length, types-part, types-splice}
use Rattle.mh_form.specs.declared.field.Field.{Field}
use Rattle.mh_form.specs.declared.name.Name.TheVariants as name
use Rattle.mh_form.specs.Erasure.{basic_of, basic_ret_of, erased, erased_ran}
use Rattle.mh_form.specs.Run.{run_on}
use Rattle.mh_form.proofs.Refines.{refined}
use Rattle.mh_form.specs.Slots.{given}
use Rattle.mh_edit.specs.Applied.{applied}
use Rattle.mh_edit.specs.Fit.{taken_by}
use Rattle.mh_edit.specs.Law.{CollectLaw}
use Rattle.mh_edit.specs.Rename.{table as places}
use Rattle.mh_edit.proofs.Laws.{law-applied}
use Rattle.mh_edit.proofs.Places.{length-spliced}
use Rattle.mh_handle.specs.Grows.{Grows}
use Rattle.mh_handle.specs.Parts.{IsPartOf}
use Rattle.mh_handle.specs.Stands.{HandleView, Stands, handle_body}
use Rattle.mh_handle.proofs.standing.Erasing.{returns-runs}
use Rattle.mh_handle.proofs.standing.Standing.{made-fits, made-reframed}
use Rattle.mh_adapt.specs.Parts.{collect_key}
use Rattle.mh_adapt.proofs.PartFits.{collect-fits, gives-room, parted-shape, taken-count}
use Rattle.mh_adapt.proofs.PartRuns.{first-runs}
use Rattle.mh_adapt.proofs.Parted.{DoesAs, stands-parted}

-- a part on so many arguments from a place on, and then a tree with what that gives in their place
abbrev pub collected : LeafTable → Tree → Tree → ℕ → ℕ → Body
collected table a b place put args n = and_then (mean table b (part_of place put args) n) n (λ o k. mean table a (spliced place put (option_to_list o) args) k)

module _ (table : LeafTable) (h g : HandleView) (a b : Tree) (place : ℕ) (f : Field) (u : MethodTy) (part : IsPartOf g f) (st : Stands table h a)
    (sp : Stands table g b) (gives : gives_at g.ty.ret place h.ty.params ≡ true) (made : u ≡ taking (spliced place (count_of g.ty.ret) g.ty.params h.ty.params)
    h.ty) where
  pub collect-does : IsSound table.classes (collected table a b place (length g.ty.params)) u → (t : Tree) →
      ((args : List Value) (n : ℕ) → mean table t args n ≡ collected table a b place (length g.ty.params) args n) →
      DoesAs table h (collect_key place g.ty) f u t
  collect-does sound t means =
      let put = length g.ty.params in
      let body = collected table a b place put in
      let old = handle_body h in
      let k = collect_key place g.ty in
      let new = applied k old in
      let ret = basic_ret_of g.ty.ret in
      let params = spliced place (count_of g.ty.ret) g.ty.params h.ty.params in
      let law : CollectLaw place put ret old new =
      subst (λ c. CollectLaw place c ret old new) (length-map g.ty.params basic_of)
      (law-applied k old (collect-fits h.ty.params place (map basic_of g.ty.params) g.ty.ret old gives (made-fits old st.begun) st.shaped)) in
      let runs : (args : List Value) (n : ℕ) → HaveTypes table.classes args u.params → n < 2 ^ 32 →
      run_on table new (h.fields ++ f ∷ []) (map erased args) n ≡ erased_ran (body args n) =
      λ args n have low.
      let have' : HaveTypes table.classes args params = subst (λ (m : MethodTy). HaveTypes table.classes args m.params) made have in
      let within = gives_at-within g.ty.ret place h.ty.params gives in
      let taken = gives_at-taken g.ty.ret place h.ty.params gives in
      let first = first-runs table h g a b part.0 st sp part.2 part.3 args n place put put low (types-part table.classes args h.ty.params g.ty.params place
      (count_of g.ty.ret) within have')
      (λ o given. types-splice table.classes args (option_to_list o) h.ty.params g.ty.params place (count_of g.ty.ret) within have'
      (subst (HaveTypes table.classes (option_to_list o)) (sym taken) given)) in
      let well : erased_ran (body args n) ≢ Stuck = returns-runs table.classes (body args n) u.ret (sound args n have) in
      let long : length (map erased args) + taken_by ret ≡ length old.params + put =
      omega (
        arith,
        length-map args erased,
        types-length table.classes args params have',
        length-spliced place (count_of g.ty.ret) g.ty.params h.ty.params (gives-room g.ty.ret place h.ty.params gives),
        taken-count g.ty.ret,
        ap length st.shaped,
        length-map h.ty.params basic_of,
      ) in
      ap (λ x. run_on table new (h.fields ++ x ∷ []) (map erased args) n) part.1
      ∙ (refined _ _ (λ e. well (sym first ∙ e)) (law table h.fields part.0 (map erased args) n st.fielded long) ∙ first) in
      record {
        fielded = refl;
        shaped = parted-shape h.ty.params g.ty.params place g.ty.ret old.params st.shaped ∙ ap (λ (m : MethodTy). map basic_of m.params) (sym made);
        begun = made-reframed old new.params (name.Link old.fields (range_with_len place (length (map basic_of g.ty.params))) ∷ [])
            (places place (length (map basic_of g.ty.params)) (given ret (length old.params + length (map basic_of g.ty.params) - taken_by ret))
            (length old.params - (place + taken_by ret))) 1 st.begun;
        runs = λ args n have low. runs args n have low ∙ ap erased_ran (sym (means args n));
        returns = λ args n have. subst (λ r. Returns table.classes r u.ret) (sym (means args n)) (sound args n have);
      }

pub collect-stands :
    (table : LeafTable) (h h' g : HandleView) (a b : Tree) (place : ℕ) (f : Field) (u : MethodTy) →
    collect_row h.ty h.weight place g.ty g.weight ≡ Ok u →
    IsPartOf g f →
    Grows h h' u (1 + h.weight + g.weight) (g.ty ∷ g.sides) (collect_key place g.ty) (f ∷ []) →
    Stands table h a →
    Stands table g b →
    Stands table h' (tree.Collect a place b)
collect-stands table h h' g a b place f u row part grows st sp =
    let q = collect_row-parts h.ty h.weight place g.ty g.weight u row in
    let sound = collect-sound table.classes (mean table a) (mean table b) h.ty h.weight place g.ty g.weight u st.returns sp.returns row in
    let t = tree.Collect a place b in
    let means : (args : List Value) (n : ℕ) → mean table t args n ≡ collected table a b place (length g.ty.params) args n =
    λ args n. ap (λ c. collected table a b place (arity_of c) args n) sp.typed in
    stands-parted table h h' g a b t (λ ty m part k. collect_row ty m place part k) (collect_key place) u f
    (record { typed = refl; weighed = refl; holds = refl; keyed = refl }) row grows st sp (collect-does table h g a b place f u part st sp q.0 q.1 sound t
    means)
