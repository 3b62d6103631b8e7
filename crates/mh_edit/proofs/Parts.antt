-- The laws of the keys whose part runs first: Collect and Fold.
use Rattle.std.proofs.Common.{◌≡◌, subst, Some, ℕ, ◌+◌, ◌-◌, ◌≤◌, List, [], ◌∷◌, ◌++◌, sym, ap, ◌∙◌, length, map, take, drop, arith}
use Rattle.std.specs.Prelude.{slice_get}
use Rattle.std.specs.List.{range_with_len}
use Rattle.std.specs.declared.sync.Arc.{Arc}
use Rattle.std.specs.declared.alloc.Global.{Global}
use Rattle.std.proofs.lemmas.List.{map-append, length-map}
use Rattle.mh_values.specs.Computation.{Refines, and_then, found, spliced}
use Rattle.mh_leaf.specs.LeafTable.{LeafTable}
use Rattle.mh_form.specs.declared.basic.Basic.{Basic}
use Rattle.mh_form.specs.declared.basic.BasicRet.{BasicRet}
use Rattle.mh_form.specs.declared.body.FormBody.{FormBody}
use Rattle.mh_form.specs.declared.name.Name.TheVariants.{Link}
use Rattle.mh_form.specs.declared.slot.Slot.{Slot}
use Rattle.mh_form.specs.declared.field.Bound.{Bound}
use Rattle.mh_form.specs.declared.field.Field.{Field}
use Rattle.mh_form.specs.declared.field.Field.TheVariants as field
use Rattle.mh_form.specs.Slots.{filled, given}
use Rattle.mh_form.specs.Run.{Sense, sense, part_of, of_kind, step, run_body, run_bound, run_field, run_on}
use Rattle.mh_form.proofs.Fields.{sense-Part}
use Rattle.mh_edit.specs.Applied.{applied}
use Rattle.mh_edit.specs.Fit.{taken_by}
use Rattle.mh_edit.specs.declared.key.Key.TheVariants.{Collect, Fold}
use Rattle.mh_edit.specs.Law.{CollectLaw, FoldLaw}
use Rattle.mh_edit.specs.Rename.{edited}
use Rattle.mh_edit.proofs.Places.{picked-range, picked-given, extends-more, new-field}
use Rattle.mh_edit.proofs.Edited.{run-edited}

-- a field that holds a part is run as that part
pub run-part :
    (leaves : LeafTable) (senses : List Sense) (part : Arc Bound Global) (f : ℕ) (xs : List Slot) (n : ℕ) →
    slice_get senses f ≡ Some (sense leaves (field.Part part)) →
    run_field senses f xs n ≡ run_bound leaves part.value xs n
run-part leaves senses part f xs n there =
    ap (λ o. found (of_kind part_of o) (λ run. run xs n)) there ∙ ap (λ v. found (part_of v) (λ run. run xs n)) (sense-Part leaves part)

-- a part runs on arguments from a position on, and its result stands for what was taken out
run-parted :
    (old : FormBody) (pos count : ℕ) (basics : List Basic) (ret : BasicRet) (made : ℕ) (leaves : LeafTable) (fields : List Field) (part : Arc Bound Global)
    (args : List Slot) (n : ℕ) →
    length fields ≡ old.fields →
    pos + taken_by ret ≤ length old.params →
    pos + count ≤ length args →
    length args + taken_by ret ≡ length old.params + length basics →
    made ≡ length args →
    Refines
    (and_then (filled (run_bound leaves part.value (take count (drop pos args)) n)) n
    (λ s k. run_on leaves old fields (spliced pos (length basics) (given ret s) args) k))
    (run_on leaves (edited old pos (taken_by ret) basics (Link old.fields (range_with_len pos count) ∷ []) (given ret made) 1)
    (fields ++ field.Part part ∷ []) args n)
run-parted old pos count basics ret made leaves fields part args n held fits within long is =
    let senses = map (sense leaves) fields in
    let x = sense leaves (field.Part part) in
    let senses' = senses ++ x ∷ [] in
    let name = Link old.fields (range_with_len pos count) in
    let r = filled (run_bound leaves part.value (take count (drop pos args)) n) in
    let there : slice_get senses' old.fields ≡ Some x = new-field senses x old.fields (length-map fields (sense leaves) ∙ held) in
    let ran : step name senses' args n ≡ r =
    ap (λ o. found o (λ ys. filled (run_field senses' old.fields ys n))) (picked-range args pos count within)
    ∙ ap filled (run-part leaves senses' part old.fields (take count (drop pos args)) n there) in
    let done = run-edited old pos (taken_by ret) basics name (given ret made) 1 senses senses' args n r (given ret)
    (extends-more senses (x ∷ [])) fits long ran (λ s. picked-given ret args s made is) in
    let new = edited old pos (taken_by ret) basics (name ∷ []) (given ret made) 1 in
    let Q : List Sense → Type 0 =
    λ v. Refines (and_then r n (λ s k. run_body old senses (spliced pos (length basics) (given ret s) args) k)) (run_body new v args n) in
    subst Q (sym (map-append (sense leaves) fields (field.Part part ∷ []))) done

pub law-Collect :
    (pos : ℕ) (basics : List Basic) (ret : BasicRet) (old : FormBody) →
    pos + taken_by ret ≤ length old.params →
    CollectLaw pos (length basics) ret old (applied (Collect pos basics ret) old)
law-Collect pos basics ret old fits leaves fields part args n held long =
    run-parted old pos (length basics) basics ret (length old.params + length basics - taken_by ret) leaves fields part args n held fits
    (omega arith) long (omega arith)

pub law-Fold :
    (pos count : ℕ) (ret : BasicRet) (old : FormBody) →
    pos + taken_by ret ≤ length old.params →
    pos + count + taken_by ret ≤ length old.params →
    FoldLaw pos count ret old (applied (Fold pos count ret) old)
law-Fold pos count ret old fits within leaves fields part args n held long =
    run-parted old pos count [] ret (length old.params - taken_by ret) leaves fields part args n held fits
    (omega arith) (omega arith) (omega arith)
