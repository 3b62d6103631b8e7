-- The key and the fields of a use as another type: that the key fits, and keeps to the types.
use Rattle.std.proofs.Common.{◌≡◌, sym, ap, ap₂, ◌∙◌, ℕ, ◌+◌, ◌≤◌, Bool, true, false, not, cond, ◌&&◌, List, [], ◌∷◌, ◌++◌, length, map, codes, Ok}
use Rattle.std.specs.Prelude.{nat_le, option_to_list}
use Rattle.std.proofs.lemmas.Bool.{and_from, and_parts, eq-eqb, leb-true}
use Rattle.std.proofs.lemmas.List.{length-map}
use Rattle.mh_base.specs.Provided.{provided}
use Rattle.mh_values.specs.declared.class.Class.{Class}
use Rattle.mh_values.specs.declared.types.MethodTy.{MethodTy}
use Rattle.mh_values.specs.Class.{internal_error_class}
use Rattle.mh_values.specs.Exception.{saying}
use Rattle.mh_values.specs.Slots.{slots_of_all}
use Rattle.mh_convert.specs.declared.conv.Rules.{Rules}
use Rattle.mh_convert.specs.Conversion.{is_trivial_ret, ret_conversion_of}
use Rattle.mh_tree.specs.Rows.{illegal, limited, can_be_used_as, mismatch, word_of, convert_row}
use Rattle.mh_tree.proofs.RowParts.{provided-parts, convert_row-parts}
use Rattle.mh_form.specs.declared.field.Field.{Field}
use Rattle.mh_form.specs.Erasure.{basic_of}
use Rattle.mh_edit.specs.declared.key.Key.{Key}
use Rattle.mh_edit.specs.declared.key.Key.TheVariants.{Convert}
use Rattle.mh_edit.specs.declared.key.RetEntry.{RetEntry}
use Rattle.mh_edit.specs.Law.{conv_field, ret_field}
use Rattle.mh_edit.specs.Applied.{applied, conv_params, converting}
use Rattle.mh_edit.specs.Fit.{fits}
use Rattle.mh_handle.specs.Converting.{convert_fields}
use Rattle.mh_handle.specs.Recipe.{are_trivial, convert_keys, entries_of, ret_entry_of}
use Rattle.mh_handle.specs.Stands.{HandleView, HasShape, IsShaped, handle_body}
use Rattle.mh_handle.proofs.conversions.ConvertedParameters.{length-entries, params-converted, params-kept, returning-params}
use Rattle.mh_handle.proofs.conversions.TrivialConversions.{none-converted}

-- ---- the row

-- what may be used as another type is within the limits
pub light : (by : Rules) (classes : List Class) (own : MethodTy) (weight : ℕ) (asked u : MethodTy) → convert_row by classes own weight asked ≡ Ok u →
    1 + weight ≤ 256
light by classes own weight asked u h =
    let heavy = saying internal_error_class (codes "weight") in
    let word = word_of by in
    let q = provided-parts (can_be_used_as by classes own asked) (mismatch classes own asked) (limited word (1 + weight) asked) u h in
    let r = provided-parts (nat_le (slots_of_all asked.params) 254) (illegal word) (provided (nat_le (1 + weight) 256) heavy (Ok asked)) u q.1 in
    let s = provided-parts (nat_le (1 + weight) 256) heavy (Ok asked) u r.1 in
    leb-true (1 + weight) 256 s.0

-- the key of the conversions fits
pub convert-fits :
    (by : Rules) (classes : List Class) (h : HandleView) (asked u : MethodTy) (re : RetEntry) →
    IsShaped h → convert_row by classes h.ty h.weight asked ≡ Ok u →
    fits (Convert (entries_of classes asked.params h.ty.params) re) (handle_body h) ≡ true
convert-fits by classes h asked u re shaped row =
    let q = convert_row-parts by classes h.ty h.weight asked u row in
    let long : length (entries_of classes asked.params h.ty.params) ≡ length (handle_body h).params =
    length-entries by classes asked.params h.ty.params q.0 ∙ sym (ap length shaped.params ∙ length-map h.ty.params basic_of) in
    and_from _ _ (ap not shaped.made) (eq-eqb _ _ long)

-- what the key makes takes what the type says
pub convert-shaped :
    (by : Rules) (classes : List Class) (h : HandleView) (asked u : MethodTy) (re : RetEntry) →
    IsShaped h → convert_row by classes h.ty h.weight asked ≡ Ok u →
    HasShape (applied (Convert (entries_of classes asked.params h.ty.params) re) (handle_body h)) asked
convert-shaped by classes h asked u re shaped row =
    let es = entries_of classes asked.params h.ty.params in
    returning-params re (converting es (handle_body h))
    ∙ (ap (conv_params es) shaped.params ∙ params-converted by classes asked.params h.ty.params (convert_row-parts by classes h.ty h.weight asked u row).0)

-- where nothing is converted the shape stays
pub kept-shaped :
    (by : Rules) (classes : List Class) (h : HandleView) (asked u : MethodTy) →
    IsShaped h → convert_row by classes h.ty h.weight asked ≡ Ok u → are_trivial classes asked.params h.ty.params ≡ true →
    HasShape (handle_body h) asked
kept-shaped by classes h asked u shaped row kept =
    shaped.params ∙ params-kept by classes asked.params h.ty.params (convert_row-parts by classes h.ty h.weight asked u row).0 kept

-- ---- the key and the fields

abbrev pub trivial : List Class → MethodTy → MethodTy → Bool
trivial classes asked own = are_trivial classes asked.params own.params && is_trivial_ret classes own.ret asked.ret

abbrev pub convert_key : List Class → MethodTy → MethodTy → Key
convert_key classes asked own = Convert (entries_of classes asked.params own.params) (ret_entry_of classes own.ret asked.ret)

pub keys-changed : (classes : List Class) (asked own : MethodTy) → trivial classes asked own ≡ false →
    convert_keys classes asked own ≡ convert_key classes asked own ∷ []
keys-changed classes asked own is = ap (λ b. cond b [] (convert_key classes asked own ∷ [])) is

pub keys-kept : (classes : List Class) (asked own : MethodTy) → trivial classes asked own ≡ true → convert_keys classes asked own ≡ []
keys-kept classes asked own is = ap (λ b. cond b [] (convert_key classes asked own ∷ [])) is

pub fields-kept : (by : Rules) (classes : List Class) (asked own : MethodTy) → trivial classes asked own ≡ true → convert_fields by classes asked own ≡ []
fields-kept by classes asked own is =
    let p = and_parts (are_trivial classes asked.params own.params) (is_trivial_ret classes own.ret asked.ret) is in
    ap₂ (λ (a b : List Field). a ++ b) (ap (map (conv_field by)) (none-converted classes asked.params own.params p.0))
    (ap (λ b. cond b [] (map (ret_field by) (option_to_list (ret_conversion_of by classes own.ret asked.ret)))) p.1)
