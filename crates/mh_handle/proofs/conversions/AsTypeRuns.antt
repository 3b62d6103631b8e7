-- What a form does that converts, by the tree that is used as another type.
use Rattle.std.proofs.Common.{◌≡◌, ◌≢◌, sym, ap, ◌∙◌, subst, ℕ, ◌<◌, ◌^◌, true, List, ◌++◌, length, map, Option, Some, Ok}
use Rattle.std.proofs.lemmas.List.{length-map}
use Rattle.mh_values.specs.declared.types.MethodTy.{MethodTy}
use Rattle.mh_values.specs.declared.value.Value.{Value}
use Rattle.mh_values.specs.Classes.{AreClasses}
use Rattle.mh_values.specs.Computation.{Ran, Stuck, and_then}
use Rattle.mh_values.specs.HasType.{HaveTypes}
use Rattle.mh_values.specs.Returns.{Returns}
use Rattle.mh_convert.specs.declared.conv.RetConv.{RetConv}
use Rattle.mh_convert.specs.declared.conv.Rules.{Rules}
use Rattle.mh_convert.specs.Conversion.{is_trivial_ret, ret_conversion_of}
use Rattle.mh_leaf.specs.LeafTable.{LeafTable}
use Rattle.mh_tree.specs.Tree.{Tree, weight, converted as converted_tree}
use Rattle.mh_tree.specs.Rows.{TypeOrRefusal, can_all, convert_row}
use Rattle.mh_tree.specs.Typing.{with_type, type_of}
use Rattle.mh_tree.specs.Meaning.{known, mean, or_throw, conv_all, conv_result}
use Rattle.mh_tree.proofs.Converted.{mean-converted, type-converted}
use Rattle.mh_tree.proofs.RowParts.{convert_row-parts}
use Rattle.mh_tree.proofs.SoundConversions.{ConvertAll, conv_all-converts}
use Rattle.mh_tree.proofs.TypedLists.{types-length}
use Rattle.mh_form.specs.declared.slot.Slot.{Slot}
use Rattle.mh_form.specs.Erasure.{basic_of, erased, erased_ran}
use Rattle.mh_form.specs.Slots.{converted}
use Rattle.mh_form.specs.Run.{run_on}
use Rattle.mh_form.proofs.Refines.{refined}
use Rattle.mh_edit.specs.declared.key.Key.TheVariants.{Convert}
use Rattle.mh_edit.specs.Applied.{applied}
use Rattle.mh_edit.specs.Law.{conv_field, converting_slots, ret_entry_on, ret_fields}
use Rattle.mh_edit.proofs.Converted.{law-Convert}
use Rattle.mh_handle.specs.Recipe.{are_trivial, entries_of, ret_entry_of}
use Rattle.mh_handle.specs.Stands.{HandleView, Stands, handle_body, handle_run}
use Rattle.mh_handle.specs.Converting.{convs_of}
use Rattle.mh_handle.proofs.conversions.ConvertedSlots.{arguments-converted}
use Rattle.mh_handle.proofs.conversions.TrivialConversions.{all-kept, converts-ok, or_throw-ok, run-kept}
use Rattle.mh_tree.specs.Sound.{Body, IsSound}
use Rattle.mh_tree.proofs.SoundConversions.{convert-sound}
use Rattle.mh_handle.proofs.standing.Erasing.{returns-runs}
use Rattle.mh_handle.proofs.conversions.ConvertedParameters.{count-convs, length-entries, lengths, some-is}
use Rattle.mh_handle.proofs.conversions.AsTypeResults.{or_throw-erased, then-converted}

module _
    (by : Rules) (table : LeafTable) (are : AreClasses table.classes) (asked u : MethodTy) (h : HandleView) (t : Tree)
    (row : convert_row by table.classes h.ty h.weight asked ≡ Ok u) (st : Stands table h t)
  where
    pub allowed : can_all by table.classes asked.params h.ty.params ≡ true
    allowed = (convert_row-parts by table.classes h.ty h.weight asked u row).0

    pub back : (c : RetConv) × (ret_conversion_of by table.classes h.ty.ret asked.ret ≡ Some c)
    back = some-is (ret_conversion_of by table.classes h.ty.ret asked.ret) (convert_row-parts by table.classes h.ty h.weight asked u row).1

    pub type : type_of table (converted_tree by t asked) ≡ Ok asked
    type =
        type-converted by table t asked
        ∙ (ap (λ c. with_type c (λ ty. convert_row by table.classes ty (weight t) asked)) st.typed
        ∙ (ap (λ w. convert_row by table.classes h.ty w asked) (sym st.weighed)
        ∙ (row ∙ ap Ok (convert_row-parts by table.classes h.ty h.weight asked u row).2)))

    meaning :
        (args : List Value) (n : ℕ) →
        mean table (converted_tree by t asked) args n
        ≡ or_throw (conv_all by table.classes asked.params h.ty.params args) (λ vs. and_then (mean table t vs n) n (λ r k. conv_result by table.classes h.ty.ret
        asked.ret r))
    meaning args n =
        mean-converted by table t asked args n
        ∙ ap (λ c. known c (λ ty. or_throw (conv_all by table.classes asked.params ty.params args)
        (λ vs. and_then (mean table t vs n) n (λ r k. conv_result by table.classes ty.ret asked.ret r)))) st.typed

    abbrev run_by : TypeOrRefusal → Body
    run_by o = λ args n. known o (λ ty. or_throw (conv_all by table.classes asked.params ty.params args)
        (λ vs. and_then (mean table t vs n) n (λ r k. conv_result by table.classes ty.ret asked.ret r)))

    pub sound : IsSound table.classes (mean table (converted_tree by t asked)) asked
    sound =
        subst (λ body. IsSound table.classes body asked) (λ i args n. sym (mean-converted by table t asked args n) i)
        (subst (λ o. IsSound table.classes (run_by o) asked) (sym st.typed)
        (convert-sound by table.classes are (mean table t) h.ty h.weight asked asked st.returns
        (row ∙ ap Ok (convert_row-parts by table.classes h.ty h.weight asked u row).2)))

    pub ends : (args : List Value) (n : ℕ) → HaveTypes table.classes args asked.params → erased_ran (mean table (converted_tree by t asked) args n) ≢ Stuck
    ends args n have = returns-runs table.classes (mean table (converted_tree by t asked) args n) asked.ret (sound args n have)

    part-ends : (args : List Value) (n : ℕ) → HaveTypes table.classes args h.ty.params → Returns table.classes (mean table t args n) h.ty.ret
    part-ends args n have = st.returns args n have

    convs-typed : (args : List Value) → HaveTypes table.classes args asked.params →
        ConvertAll table.classes (conv_all by table.classes asked.params h.ty.params args) h.ty.params
    convs-typed args have = conv_all-converts by table.classes are asked.params h.ty.params args allowed have

    -- with the conversions that change something
    pub made-runs :
        (args : List Value) (n : ℕ) → HaveTypes table.classes args asked.params → n < 2 ^ 32 →
        run_on table (applied (Convert (entries_of table.classes asked.params h.ty.params) (ret_entry_of table.classes h.ty.ret asked.ret)) (handle_body h))
        (h.fields ++ (map (conv_field by) (convs_of table.classes asked.params h.ty.params) ++ ret_fields by (ret_entry_of table.classes h.ty.ret asked.ret)
        back.0)) (map erased args) n
        ≡ erased_ran (mean table (converted_tree by t asked) args n)
    made-runs args n have low =
        let es = entries_of table.classes asked.params h.ty.params in
        let convs = convs_of table.classes asked.params h.ty.params in
        let re = ret_entry_of table.classes h.ty.ret asked.ret in
        let old = handle_body h in
        let post : Option Slot → ℕ → Ran (Option Slot) = λ r m. ret_entry_on by table re back.0 r in
        let next : List Slot → ℕ → Ran (Option Slot) = λ xs k. and_then (run_on table old h.fields xs k) k post in
        let params : length old.params ≡ length h.ty.params = ap length st.shaped ∙ length-map h.ty.params basic_of in
        let each : length es ≡ length old.params = length-entries by table.classes asked.params h.ty.params allowed ∙ sym params in
        let long : length (map erased args) ≡ length old.params =
        length-map args erased
        ∙ (types-length table.classes args asked.params have ∙ (lengths by table.classes asked.params h.ty.params allowed ∙ sym params)) in
        let first = converting_slots es (map (converted by table.classes) convs) (map erased args) n next in
        let is : first ≡ erased_ran (mean table (converted_tree by t asked) args n) =
        arguments-converted by table.classes are asked.params h.ty.params args n next allowed have
        ∙ (or_throw-erased table.classes h.ty.params (conv_all by table.classes asked.params h.ty.params args) (λ xs. next xs n)
        (λ vs. and_then (mean table t vs n) n (λ r k. conv_result by table.classes h.ty.ret asked.ret r)) (convs-typed args have)
        (λ vs typed.
        ap (λ r. and_then r n post) (st.runs vs n typed low)
        ∙ then-converted by table are h.ty.ret asked.ret back.0 (mean table t vs n) n back.1 (part-ends vs n typed))
        ∙ ap erased_ran (sym (meaning args n))) in
        refined _ _ (λ stuck. ends args n have (sym is ∙ stuck))
        (law-Convert es re old each by table h.fields convs back.0 (map erased args) n st.fielded (count-convs table.classes asked.params h.ty.params) long)
        ∙ is

    -- where each conversion changes nothing
    pub kept-runs :
        (args : List Value) (n : ℕ) → HaveTypes table.classes args asked.params → n < 2 ^ 32 →
        are_trivial table.classes asked.params h.ty.params ≡ true → is_trivial_ret table.classes h.ty.ret asked.ret ≡ true →
        handle_run table h (map erased args) n ≡ erased_ran (mean table (converted_tree by t asked) args n)
    kept-runs args n have low params ret =
        let ok = all-kept by table.classes are asked.params h.ty.params args allowed params have in
        let typed = converts-ok table.classes (conv_all by table.classes asked.params h.ty.params args) args h.ty.params ok (convs-typed args have) in
        st.runs args n typed low
        ∙ ap erased_ran
        (sym (meaning args n
        ∙ (or_throw-ok (conv_all by table.classes asked.params h.ty.params args) args
        (λ vs. and_then (mean table t vs n) n (λ r k. conv_result by table.classes h.ty.ret asked.ret r)) ok
        ∙ run-kept by table.classes are h.ty.ret asked.ret (mean table t args n) n ret (part-ends args n typed))))
