-- The laws of the keys that take parameters in or out: Add, Permute and Bind.
use Rattle.std.proofs.Common.{◌≡◌, refl, subst, Option, Some, ℕ, ◌+◌, ◌-◌, ◌<◌, ◌≤◌, List, [], ◌∷◌, ◌++◌, sym, ap, ◌∙◌, length, map, arith}
use Rattle.std.specs.Prelude.{slice_get}
use Rattle.std.proofs.lemmas.List.{append-nil, map-append, length-map}
use Rattle.mh_values.specs.Computation.{Ran, Gave, Refines, found, spliced}
use Rattle.mh_form.specs.declared.basic.Basic.{Basic}
use Rattle.mh_form.specs.declared.body.FormBody.{FormBody}
use Rattle.mh_form.specs.declared.name.Name.TheVariants.{Get}
use Rattle.mh_form.specs.declared.slot.Slot.{Slot}
use Rattle.mh_form.specs.declared.field.Field.TheVariants as field
use Rattle.mh_form.specs.Run.{Sense, IsSlot, sense, slot_of, of_kind, step, run_body, picked}
use Rattle.mh_form.proofs.Computations.{and_then-pure}
use Rattle.mh_form.proofs.Refines.{refines-trans}
use Rattle.mh_edit.specs.Applied.{applied}
use Rattle.mh_edit.specs.declared.key.Key.TheVariants.{Bind, Add, Permute}
use Rattle.mh_edit.specs.Law.{BindLaw, AddLaw, PermuteLaw}
use Rattle.mh_edit.specs.Rename.{table}
use Rattle.mh_edit.proofs.Reframing.{run-reframed}
use Rattle.mh_edit.proofs.Places.{picked-table, picked-end, length-spliced, extends-more, extends-same, new-field}
use Rattle.mh_edit.proofs.Edited.{old-picked, run-edited}

pub law-Add : (pos : ℕ) (basics : List Basic) (old : FormBody) → pos ≤ length old.params → AddLaw pos (length basics) old (applied (Add pos basics) old)
law-Add pos basics old fits leaves fields args n held long =
    let senses = map (sense leaves) fields in
    let put = length basics in
    let rest = length old.params - (pos + 0) in
    let places = table pos put [] rest in
    let params = spliced pos 0 basics old.params in
    let xs = spliced pos put [] args in
    let size : length args ≡ length params = omega (arith, length-spliced pos 0 basics old.params (omega arith)) in
    let picks : picked args places ≡ Some xs = picked-table args args [] pos put rest [] [] (sym (append-nil args)) (omega arith) refl in
    refines-trans _ _ _ (old-picked old senses args places xs n picks) (run-reframed old params [] places 0 senses senses args n (extends-same senses) size)

pub law-Permute :
    (basics : List Basic) (reorder : List ℕ) (old : FormBody) → PermuteLaw (length basics) reorder old (applied (Permute basics reorder) old)
law-Permute basics reorder old leaves fields args n held long =
    let senses = map (sense leaves) fields in
    run-reframed old basics [] reorder 0 senses senses args n (extends-same senses) long

pub law-Bind : (pos : ℕ) (old : FormBody) → pos < length old.params → BindLaw pos old (applied (Bind pos) old)
law-Bind pos old fits leaves fields s args n held long =
    let senses = map (sense leaves) fields in
    let senses' = senses ++ IsSlot s ∷ [] in
    let made = length old.params - 1 in
    let there : slice_get senses' old.fields ≡ Some (IsSlot s) = new-field senses (IsSlot s) old.fields (length-map fields (sense leaves) ∙ held) in
    let ran : step (Get old.fields) senses' args n ≡ Gave s [] = ap (λ o. found (of_kind slot_of o) (λ v. Gave v [])) there in
    let done = run-edited old pos 1 [] (Get old.fields) (made ∷ []) 1 senses senses' args n (Gave s []) (λ v. v ∷ [])
    (extends-more senses (IsSlot s ∷ [])) (omega arith) (omega arith) ran (λ v. picked-end args v made (omega arith)) in
    let new = applied (Bind pos) old in
    let law = run_body old senses (spliced pos 0 (s ∷ []) args) n in
    let P : Ran (Option Slot) → Type 0 = λ v. Refines v (run_body new senses' args n) in
    let Q : List Sense → Type 0 = λ v. Refines law (run_body new v args n) in
    subst Q (sym (map-append (sense leaves) fields (field.Val s ∷ [])))
    (subst P (and_then-pure s n (λ v k. run_body old senses (spliced pos 0 (v ∷ []) args) k)) done)
