-- The law of Convert.
use Rattle.std.proofs.Common.{◌≡◌, refl, subst, Option, Some, None, ℕ, suc, ◌+◌, List, [], ◌∷◌, ◌++◌, sym, ap, ◌∙◌, zero-add, length, map, arith}
use Rattle.std.specs.Prelude.{slice_get}
use Rattle.std.proofs.lemmas.List.{length-map, map-append}
use Rattle.mh_values.specs.Computation.{Ran, Refines, and_then, found}
use Rattle.mh_convert.specs.declared.conv.RetConv.{RetConv}
use Rattle.mh_convert.specs.declared.conv.Rules.{Rules}
use Rattle.mh_convert.specs.declared.conv.Rules.TheVariants as rules
use Rattle.mh_leaf.specs.LeafTable.{LeafTable}
use Rattle.mh_form.specs.declared.basic.Basic.{Basic}
use Rattle.mh_form.specs.declared.basic.BasicRet.{BasicRet}
use Rattle.mh_form.specs.declared.body.FormBody.{FormBody}
use Rattle.mh_form.specs.declared.name.Name.TheVariants.{Ret}
use Rattle.mh_form.specs.declared.slot.Slot.{Slot}
use Rattle.mh_form.specs.Slots.{converted, filled, ret_converted}
use Rattle.mh_form.specs.Run.{IsRet, Sense, conv_of, field_of, of_kind, ret_of, run_body, sense, with_result}
use Rattle.mh_form.proofs.Refines.{refines-refl, refines-is, refines-trans, refines-and_then}
use Rattle.mh_edit.specs.Applied.{applied, conv_count, conv_names, conv_params, conv_table, converting}
use Rattle.mh_edit.specs.declared.key.Key.TheVariants.{Convert}
use Rattle.mh_edit.specs.declared.key.RetEntry.{RetEntry}
use Rattle.mh_edit.specs.declared.key.RetEntry.TheVariants.{Keep, New}
use Rattle.mh_edit.specs.Law.{ConvertLaw, conv_field, converting_slots, ret_entry_on, ret_fields, returned}
use Rattle.mh_edit.proofs.RenamedSlots.{Extends}
use Rattle.mh_edit.proofs.Reframing.{run-reframed}
use Rattle.mh_edit.proofs.Places.{extends-more, extends-same}
use Rattle.mh_edit.proofs.Finishing.{run-finishing}
use Rattle.mh_edit.proofs.Converting.{converts-run}
use Rattle.mh_edit.proofs.ConvertedSlots.{converting-refines, converting-then, and_then-unit, slice_get-later, conv-at}

pub length-conv_params : (es : List (Option Basic)) (params : List Basic) → length es ≡ length params → length (conv_params es params) ≡ length params
length-conv_params [] [] h = refl
length-conv_params [] (b ∷ params) h = absurd (omega arith)
length-conv_params (e ∷ es) [] h = absurd (omega arith)
length-conv_params (None ∷ es) (b ∷ params) h = ap suc (length-conv_params es params (omega arith))
length-conv_params (Some c ∷ es) (b ∷ params) h = ap suc (length-conv_params es params (omega arith))

-- the arguments are converted, and then the old body runs
run-converting :
    (es : List (Option Basic)) (convs : List (Slot → Ran Slot)) (old : FormBody) (senses senses' : List Sense) (args : List Slot) (n : ℕ) →
    Extends senses senses' →
    length es ≡ length old.params →
    length args ≡ length old.params →
    ((j : ℕ) (c : Slot → Ran Slot) → slice_get convs j ≡ Some c → field_of conv_of senses' (old.fields + j) ≡ Some c) →
    Refines (converting_slots es convs args n (λ xs k. run_body old senses xs k)) (run_body (converting es old) senses' args n)
run-converting es convs old senses senses' args n ext each long fields =
    let p = length old.params in
    let names = conv_names es old.params old.fields 0 in
    refines-trans _ _ _
    (converts-run es old.params convs args senses' args old.fields 0 p n (λ xs k. run_body old senses xs k) each long
    (λ j s at. ap (slice_get args) (zero-add j) ∙ at) fields)
    (run-reframed old (conv_params es old.params) names (conv_table es 0 p) (conv_count es) senses senses' args n ext
    (long ∙ sym (length-conv_params es old.params each)))

-- the same, and then what is done with the result
run-returning :
    (by : Rules) (ret : RetEntry) (c : RetConv) (es : List (Option Basic)) (convs : List (Slot → Ran Slot)) (old : FormBody) (leaves : LeafTable)
    (senses senses' : List Sense)
    (args : List Slot) (n : ℕ) →
    Extends senses senses' →
    length es ≡ length old.params →
    length args ≡ length old.params →
    ((j : ℕ) (c : Slot → Ran Slot) → slice_get convs j ≡ Some c → field_of conv_of senses' (old.fields + j) ≡ Some c) →
    ((r : BasicRet) → ret ≡ New r → field_of ret_of senses' (old.fields + conv_count es) ≡ Some (ret_converted by leaves.classes c)) →
    Refines
    (converting_slots es convs args n (λ xs k. and_then (run_body old senses xs k) k (λ r m. ret_entry_on by leaves ret c r)))
    (run_body (applied (Convert es ret) old) senses' args n)
run-returning by Keep c es convs old leaves senses senses' args n ext each long fields last =
    refines-trans _ _ _
    (converting-refines es convs args n _ _ (λ ys k. refines-is _ _ (and_then-unit (run_body old senses ys k) k)))
    (run-converting es convs old senses senses' args n ext each long fields)
run-returning by (New r) c es convs old leaves senses senses' args n ext each long fields last =
    let body = converting es old in
    let post : Option Slot → ℕ → Ran (Option Slot) = λ s m. returned r (ret_converted by leaves.classes c s) in
    let all : ℕ → Ran (Option Slot) = λ m. converting_slots es convs args m (λ xs k. run_body old senses xs k) in
    let first : Refines (and_then (all n) n post) (and_then (run_body body senses' args n) n post) =
    refines-and_then (all n) (run_body body senses' args n) n post post (run-converting es convs old senses senses' args n ext each long fields)
    (λ s m. refines-refl (post s m)) in
    let second : Refines (and_then (run_body body senses' args n) n post) (run_body (applied (Convert es (New r)) old) senses' args n) =
    run-finishing (Ret body.fields) r body senses' senses' args n (λ s m. ret_converted by leaves.classes c s) (extends-same senses')
    (long ∙ sym (length-conv_params es old.params each))
    (λ env k. refines-is _ _ (ap (λ o. found o (λ conv. with_result body.out env (λ s. filled (conv s)))) (sym (last r refl)))) in
    let P : Ran (Option Slot) → Type 0 = λ v. Refines v (run_body (applied (Convert es (New r)) old) senses' args n) in
    subst P (converting-then es convs args n (λ xs k. run_body old senses xs k) post) (refines-trans _ _ _ first second)

-- the field of a return conversion, where there is an entry
ret-at :
    (by : Rules) (leaves : LeafTable) (ret : RetEntry) (c : RetConv) (r : BasicRet) →
    ret ≡ New r →
    slice_get (map (sense leaves) (ret_fields by ret c)) 0 ≡ Some (IsRet (ret_converted by leaves.classes c))
ret-at by leaves Keep c r h = absurd cc
ret-at rules.AsType leaves (New q) c r h = refl
ret-at rules.Explicit leaves (New q) c r h = refl

pub law-Convert :
    (es : List (Option Basic)) (ret : RetEntry) (old : FormBody) → length es ≡ length old.params → ConvertLaw es ret old (applied (Convert es ret) old)
law-Convert es ret old each by leaves fields convs c args n held many long =
    let senses = map (sense leaves) fields in
    let made = map (sense leaves) (map (conv_field by) convs) in
    let last = map (sense leaves) (ret_fields by ret c) in
    let senses' = senses ++ (made ++ last) in
    let funs = map (converted by leaves.classes) convs in
    let whole : map (sense leaves) (fields ++ (map (conv_field by) convs ++ ret_fields by ret c)) ≡ senses' =
    map-append (sense leaves) fields (map (conv_field by) convs ++ ret_fields by ret c)
    ∙ ap (λ v. senses ++ v) (map-append (sense leaves) (map (conv_field by) convs) (ret_fields by ret c)) in
    let front : length senses ≡ old.fields = length-map fields (sense leaves) ∙ held in
    let middle : length made ≡ conv_count es = length-map (map (conv_field by) convs) (sense leaves) ∙ (length-map convs (conv_field by) ∙ many) in
    let there : (j : ℕ) → slice_get senses' (old.fields + j) ≡ slice_get (made ++ last) j =
    λ j. ap (λ m. slice_get senses' (m + j)) (sym front) ∙ slice_get-later senses (made ++ last) j in
    let count : conv_count es ≡ length made + 0 = omega arith in
    let done = run-returning by ret c es funs old leaves senses senses' args n (extends-more senses (made ++ last)) each long
    (λ j g h. ap (of_kind conv_of) (there j ∙ conv-at by leaves convs last j g h))
    (λ r is. ap (of_kind ret_of) (there (conv_count es) ∙ (ap (slice_get (made ++ last)) count ∙ (slice_get-later made last 0 ∙ ret-at by leaves ret
    c r is)))) in
    let law = converting_slots es funs args n (λ xs k. and_then (run_body old senses xs k) k (λ r m. ret_entry_on by leaves ret c r)) in
    let Q : List Sense → Type 0 = λ v. Refines law (run_body (applied (Convert es ret) old) v args n) in
    subst Q (sym whole) done
