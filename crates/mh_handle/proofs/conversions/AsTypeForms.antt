-- A handle with the key of a conversion, or with none where nothing changes, stands for the AsType of its tree.
use Rattle.std.proofs.Common.{◌≡◌, sym, ap, ap₂, ◌∙◌, subst, ℕ, ◌+◌, true, List, [], ◌∷◌, ◌++◌, length, map, Ok, length-append, arith}
use Rattle.std.proofs.lemmas.List.{append-nil, length-map}
use Rattle.mh_values.specs.declared.types.MethodTy.{MethodTy}
use Rattle.mh_values.specs.Classes.{AreClasses}
use Rattle.mh_convert.specs.declared.conv.Rules.{Rules}
use Rattle.mh_convert.specs.Conversion.{is_trivial_ret}
use Rattle.mh_leaf.specs.LeafTable.{LeafTable}
use Rattle.mh_tree.specs.Tree.{Tree, converted}
use Rattle.mh_tree.specs.Rows.{convert_row}
use Rattle.mh_tree.proofs.Converted.{sides-converted, weight-converted}
use Rattle.mh_form.specs.declared.field.Field.{Field}
use Rattle.mh_form.specs.Erasure.{erased}
use Rattle.mh_form.specs.Run.{run_on}
use Rattle.mh_edit.specs.declared.key.Key.{Key}
use Rattle.mh_edit.specs.declared.key.Key.TheVariants.{Convert}
use Rattle.mh_edit.specs.Applied.{applied, conv_count, conv_names, conv_params, conv_table, converting}
use Rattle.mh_edit.specs.Law.{conv_field, ret_fields}
use Rattle.mh_handle.specs.Form.{body_of}
use Rattle.mh_handle.specs.Recipe.{are_trivial, convert_keys, entries_of, recipe, ret_entry_of, at_type}
use Rattle.mh_handle.specs.Stands.{HandleView, IsMade, Stands, handle_body}
use Rattle.mh_handle.specs.Converting.{convs_of}
use Rattle.mh_handle.proofs.recipes.Recipes.{body_of-snoc, recipe-converted}
use Rattle.mh_handle.proofs.standing.Standing.{made-reframed}
use Rattle.mh_handle.proofs.conversions.ConvertedParameters.{params-converted, params-kept, returning-fields, returning-made, returning-params, count-convs}
use Rattle.mh_handle.proofs.conversions.AsTypeRuns.{allowed, back, type, sound, ends, made-runs, kept-runs}

module _
    (by : Rules) (table : LeafTable) (are : AreClasses table.classes) (asked u : MethodTy) (h : HandleView) (t : Tree)
    (row : convert_row by table.classes h.ty h.weight asked ≡ Ok u) (st : Stands table h t)
  where
    -- the handle, by its key, if any, and its fields
    unfoldable pub viewed : ℕ → List Key → List Field → HandleView
    viewed number keys fields = record {
      ty = asked;
      weight = 1 + h.weight;
      sides = h.sides;
      form = record { number = number; recipe = h.form.recipe ++ keys };
      fields = fields;
      held = [];
    }

    recipe-made : (keys : List Key) → convert_keys table.classes asked h.ty ≡ keys → h.form.recipe ++ keys ≡ recipe table (converted by t asked)
    recipe-made keys is =
        ap₂ (λ (a b : List Key). a ++ b) st.made (sym is ∙ sym (ap (λ c. at_type c (convert_keys table.classes asked)) st.typed))
        ∙ sym (recipe-converted by table t asked)

    pub with-key :
        (number : ℕ) →
        convert_keys table.classes asked h.ty ≡ Convert (entries_of table.classes asked.params h.ty.params) (ret_entry_of table.classes h.ty.ret asked.ret) ∷ []
        →
        Stands table
        (viewed number (Convert (entries_of table.classes asked.params h.ty.params) (ret_entry_of table.classes h.ty.ret asked.ret) ∷ [])
        (h.fields ++ (map (conv_field by) (convs_of table.classes asked.params h.ty.params) ++ ret_fields by (ret_entry_of table.classes h.ty.ret asked.ret)
        (back by table are asked u h t row st).0)))
        (converted by t asked)
    unfolding viewed
    with-key number is =
        let es = entries_of table.classes asked.params h.ty.params in
        let convs = convs_of table.classes asked.params h.ty.params in
        let re = ret_entry_of table.classes h.ty.ret asked.ret in
        let old = handle_body h in
        let made = converting es old in
        let fields = h.fields ++ (map (conv_field by) convs ++ ret_fields by re (back by table are asked u h t row st).0) in
        let snoc : body_of (h.form.recipe ++ Convert es re ∷ []) ≡ applied (Convert es re) old = body_of-snoc h.form.recipe (Convert es re) in
        let more : length (map (conv_field by) convs) ≡ conv_count es = length-map convs (conv_field by) ∙ count-convs table.classes asked.params
        h.ty.params in
        let first : length fields ≡ length h.fields + length (map (conv_field by) convs ++ ret_fields by re (back by table are asked u h t row st).0) =
        length-append h.fields (map (conv_field by) convs ++ ret_fields by re (back by table are asked u h t row st).0) in
        let second : length (map (conv_field by) convs ++ ret_fields by re (back by table are asked u h t row st).0) ≡ length (map (conv_field by) convs) +
        length (ret_fields by re (back by table are asked u h t row st).0) =
        length-append (map (conv_field by) convs) (ret_fields by re (back by table are asked u h t row st).0) in
        let third : (applied (Convert es re) old).fields ≡ (old.fields + conv_count es) + length (ret_fields by re (back by table are asked u h t row st).0) =
        returning-fields by re (back by table are asked u h t row st).0 made in
        let begin : IsMade made = made-reframed old (conv_params es old.params) (conv_names es old.params old.fields 0) (conv_table es 0 (length old.params))
        (conv_count es) st.begun in
        record {
          typed = type by table are asked u h t row st;
          weighed = ap (λ w. 1 + w) st.weighed ∙ sym (weight-converted by t asked);
          made = recipe-made (Convert es re ∷ []) is;
          holds = st.holds ∙ sym (sides-converted by table t asked);
          fielded = let e : length fields ≡ (applied (Convert es re) old).fields = omega (arith, first, second, third, more, st.fielded) in
              e ∙ sym (ap (λ b. b.fields) snoc);
          shaped =
              ap (λ b. b.params) snoc
              ∙ (returning-params re made
              ∙ (ap (conv_params es) st.shaped ∙ params-converted by table.classes asked.params h.ty.params (allowed by table are asked u h t row st)));
          begun = subst IsMade (sym snoc) (returning-made re made begin);
          runs = λ args n have low. ap (λ b. run_on table b fields (map erased args) n) snoc ∙ made-runs by table are asked u h t row st args n have low;
          well_formed = λ args n have low stuck. ends by table are asked u h t row st args n have
              (sym (ap (λ b. run_on table b fields (map erased args) n) snoc ∙
              made-runs by table are asked u h t row st args n have low) ∙ stuck);
          returns = sound by table are asked u h t row st;
        }

    pub without-key :
        (number : ℕ) →
        are_trivial table.classes asked.params h.ty.params ≡ true → is_trivial_ret table.classes h.ty.ret asked.ret ≡ true →
        convert_keys table.classes asked h.ty ≡ [] →
        Stands table (viewed number [] h.fields) (converted by t asked)
    unfolding viewed
    without-key number params ret is =
        let same : body_of (h.form.recipe ++ []) ≡ handle_body h = ap body_of (append-nil h.form.recipe) in
        record {
          typed = type by table are asked u h t row st;
          weighed = ap (λ w. 1 + w) st.weighed ∙ sym (weight-converted by t asked);
          made = recipe-made [] is;
          holds = st.holds ∙ sym (sides-converted by table t asked);
          fielded = st.fielded ∙ sym (ap (λ b. b.fields) same);
          shaped = ap (λ b. b.params) same
              ∙ (st.shaped ∙ params-kept by table.classes asked.params h.ty.params (allowed by table are asked u h t row st) params);
          begun = subst IsMade (sym same) st.begun;
          runs = λ args n have low. ap (λ b. run_on table b h.fields (map erased args) n) same
              ∙ kept-runs by table are asked u h t row st args n have low params
              ret;
          well_formed = λ args n have low stuck. ends by table are asked u h t row st args n have
              (sym (ap (λ b. run_on table b h.fields (map erased args) n) same
              ∙ kept-runs by table are asked u h t row st args n have low params ret) ∙ stuck);
          returns = sound by table are asked u h t row st;
        }
