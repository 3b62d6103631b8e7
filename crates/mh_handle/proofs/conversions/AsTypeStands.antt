-- A handle that is used as another type stands for the AsType of its tree.
use Rattle.std.proofs.Common.{◌≡◌, refl, sym, ap, ap₂, ◌∙◌, subst, ℕ, Bool, true, false, cond, ◌&&◌, List, [], ◌∷◌, ◌++◌, map, Ok}
use Rattle.std.proofs.lemmas.Bool.{and_parts}
use Rattle.std.specs.Prelude.{option_to_list}
use Rattle.std.proofs.lemmas.List.{append-nil}
use Rattle.mh_values.specs.declared.types.MethodTy.{MethodTy}
use Rattle.mh_values.specs.Classes.{AreClasses}
use Rattle.mh_convert.specs.declared.conv.Rules.{Rules}
use Rattle.mh_convert.specs.Conversion.{is_trivial_ret, ret_conversion_of}
use Rattle.mh_leaf.specs.LeafTable.{LeafTable}
use Rattle.mh_tree.specs.Tree.{Tree, converted}
use Rattle.mh_tree.specs.Rows.{convert_row}
use Rattle.mh_form.specs.declared.field.Field.{Field}
use Rattle.mh_form.specs.Erasure.{basic_ret_of}
use Rattle.mh_edit.specs.declared.key.Key.TheVariants.{Convert}
use Rattle.mh_edit.specs.Law.{conv_field, ret_field, ret_fields}
use Rattle.mh_handle.specs.Recipe.{are_trivial, convert_keys, entries_of, ret_entry_of}
use Rattle.mh_intern.specs.Views.{HoldView}
use Rattle.mh_handle.specs.Stands.{HandleView, Stands}
use Rattle.mh_handle.specs.Converting.{IsUsedAs, convert_fields, convs_of, ret_fields_of}
use Rattle.mh_handle.proofs.conversions.TrivialConversions.{none-converted}
use Rattle.mh_handle.proofs.conversions.ConvertedParameters.{ret-one}
use Rattle.mh_handle.proofs.conversions.AsTypeRuns.{back}
use Rattle.mh_handle.proofs.conversions.AsTypeForms.{viewed, with-key, without-key}

module _
    (by : Rules) (table : LeafTable) (are : AreClasses table.classes) (asked u : MethodTy) (h : HandleView) (t : Tree)
    (row : convert_row by table.classes h.ty h.weight asked ≡ Ok u) (st : Stands table h t)
  where
    -- whether something changes or not
    as-type :
        (number : ℕ) (trivial : Bool) → (are_trivial table.classes asked.params h.ty.params && is_trivial_ret table.classes h.ty.ret asked.ret) ≡ trivial →
        Stands table (viewed by table are asked u h t row st number (convert_keys table.classes asked h.ty)
        (h.fields ++ convert_fields by table.classes asked h.ty))
        (converted by t asked)
    unfolding viewed
    as-type number true is =
        let p = and_parts (are_trivial table.classes asked.params h.ty.params) (is_trivial_ret table.classes h.ty.ret asked.ret) is in
        let keys : convert_keys table.classes asked h.ty ≡ [] =
        ap (λ b. cond b [] (Convert (entries_of table.classes asked.params h.ty.params) (ret_entry_of table.classes h.ty.ret asked.ret) ∷ [])) is in
        let convs : map (conv_field by) (convs_of table.classes asked.params h.ty.params) ≡ [] =
        ap (map (conv_field by)) (none-converted table.classes asked.params h.ty.params p.0) in
        let last : ret_fields_of by table.classes h.ty.ret asked.ret ≡ [] =
        ap (λ b. cond b [] (map (ret_field by) (option_to_list (ret_conversion_of by table.classes h.ty.ret asked.ret)))) p.1 in
        let fields : convert_fields by table.classes asked h.ty ≡ [] = ap₂ (λ (a b : List Field). a ++ b) convs last in
        subst (λ ks. Stands table (viewed by table are asked u h t row st number ks (h.fields ++ convert_fields by table.classes asked h.ty))
        (converted by t asked))
        (sym keys)
        (subst (λ fs. Stands table (viewed by table are asked u h t row st number [] fs) (converted by t asked))
        (sym (ap (λ fs. h.fields ++ fs) fields ∙ append-nil h.fields))
        (without-key by table are asked u h t row st number p.0 p.1 keys))
    as-type number false is =
        let keys : convert_keys table.classes asked h.ty ≡ Convert (entries_of table.classes asked.params h.ty.params)
        (ret_entry_of table.classes h.ty.ret asked.ret) ∷ [] =
        ap (λ b. cond b [] (Convert (entries_of table.classes asked.params h.ty.params) (ret_entry_of table.classes h.ty.ret asked.ret) ∷ [])) is in
        let fields : convert_fields by table.classes asked h.ty
        ≡ map (conv_field by) (convs_of table.classes asked.params h.ty.params) ++ ret_fields by (ret_entry_of table.classes h.ty.ret asked.ret)
        (back by table are asked u h t row st).0 =
        ap (λ fs. map (conv_field by) (convs_of table.classes asked.params h.ty.params) ++ fs)
        (ret-one by (is_trivial_ret table.classes h.ty.ret asked.ret) (basic_ret_of asked.ret) (ret_conversion_of by table.classes h.ty.ret asked.ret)
        (back by table are asked u h t row st).0 (back by table are asked u h t row st).1) in
        subst (λ ks. Stands table (viewed by table are asked u h t row st number ks (h.fields ++ convert_fields by table.classes asked h.ty))
        (converted by t asked))
        (sym keys)
        (subst (λ fs. Stands table (viewed by table are asked u h t row st number (Convert (entries_of table.classes asked.params h.ty.params)
        (ret_entry_of table.classes h.ty.ret asked.ret) ∷
        []) (h.fields ++ fs)) (converted by t asked)) (sym fields)
        (with-key by table are asked u h t row st number keys))

-- what a handle stands for does not depend on the holds that it has
stands-holding : (table : LeafTable) (h : HandleView) (held : List HoldView) (t : Tree) →
    Stands table (record { ty = h.ty; weight = h.weight; sides = h.sides; form = h.form; fields = h.fields; held = held }) t → Stands table h t
stands-holding table h held t st = record {
  typed = st.typed;
  weighed = st.weighed;
  made = st.made;
  holds = st.holds;
  fielded = st.fielded;
  shaped = st.shaped;
  begun = st.begun;
  runs = st.runs;
  well_formed = st.well_formed;
  returns = st.returns;
}

pub converted-stands :
    (by : Rules) (table : LeafTable) → AreClasses table.classes → (asked u : MethodTy) (old new : HandleView) (t : Tree) →
    convert_row by table.classes old.ty old.weight asked ≡ Ok u →
    IsUsedAs by table.classes asked old new →
    Stands table old t →
    Stands table new (converted by t asked)
unfolding viewed
converted-stands by table are asked u old new t row used st =
    let P : HandleView → Type 0 = λ h. Stands table h (converted by t asked) in
    let made : HandleView = viewed by table are asked u old t row st new.form.number (convert_keys table.classes asked old.ty)
    (old.fields ++ convert_fields by table.classes asked old.ty) in
    let bare : HandleView =
    record { ty = new.ty; weight = new.weight; sides = new.sides; form = new.form; fields = new.fields; held = [] } in
    let is : bare ≡ made =
    λ i. record {
      ty = used.ty i;
      weight = used.weight i;
      sides = used.sides i;
      form = record { number = new.form.number; recipe = used.recipe i };
      fields = used.fields i;
      held = [];
    } in
    stands-holding table new [] (converted by t asked) (subst P (sym is)
    (as-type by table are asked u old t row st new.form.number (are_trivial table.classes asked.params old.ty.params && is_trivial_ret table.classes old.ty.ret
    asked.ret) refl))
