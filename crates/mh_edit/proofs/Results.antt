-- The law of FilterReturn: a part on the result.
use Rattle.std.proofs.Common.{◌≡◌, refl, subst, Option, Some, None, ℕ, List, [], ◌∷◌, ◌++◌, sym, ap, ◌∙◌, map}
use Rattle.std.specs.Prelude.{slice_get}
use Rattle.std.proofs.lemmas.List.{map-append, length-map}
use Rattle.mh_values.specs.Computation.{Refines, and_then, found}
use Rattle.mh_form.specs.declared.basic.BasicRet.{BasicRet}
use Rattle.mh_form.specs.declared.body.FormBody.{FormBody}
use Rattle.mh_form.specs.declared.name.Name.TheVariants.{Link}
use Rattle.mh_form.specs.declared.slot.Slot.{Slot}
use Rattle.mh_form.specs.declared.field.Field.TheVariants as field
use Rattle.mh_form.specs.Slots.{filled}
use Rattle.mh_form.specs.Run.{SlotRun, Sense, sense, picked_more, run_body, run_bound, run_field, step, with_result}
use Rattle.mh_form.proofs.Refines.{refines-is}
use Rattle.mh_edit.specs.Applied.{applied, places_of}
use Rattle.mh_edit.specs.declared.key.Key.TheVariants.{FilterReturn}
use Rattle.mh_edit.specs.Law.{FilterReturnLaw, returned, slots_of_result}
use Rattle.mh_edit.proofs.Places.{extends-more, new-field}
use Rattle.mh_edit.proofs.Parts.{run-part}
use Rattle.mh_edit.proofs.Finishing.{run-finishing}

link-found :
    (run run' : SlotRun) (k : ℕ) (o : Option Slot) →
    ((xs : List Slot) → run' xs k ≡ run xs k) →
    found o (λ s. filled (run (s ∷ []) k)) ≡ found (picked_more o (Some [])) (λ xs. filled (run' xs k))
link-found run run' k None same = refl
link-found run run' k (Some s) same = ap filled (sym (same (s ∷ [])))

-- a name that links a part to a result
link-result :
    (run : SlotRun) (senses : List Sense) (f : ℕ) (out : Option ℕ) (env : List Slot) (k : ℕ) →
    ((xs : List Slot) → run_field senses f xs k ≡ run xs k) →
    with_result out env (λ r. filled (run (slots_of_result r) k)) ≡ step (Link f (places_of out)) senses env k
link-result run senses f None env k same = ap filled (sym (same []))
link-result run senses f (Some p) env k same = link-found run (run_field senses f) k (slice_get env p) same

pub law-FilterReturn : (ret : BasicRet) (old : FormBody) → FilterReturnLaw ret old (applied (FilterReturn ret) old)
law-FilterReturn ret old leaves fields part args n held long =
    let senses = map (sense leaves) fields in
    let x = sense leaves (field.Part part) in
    let senses' = senses ++ x ∷ [] in
    let f = old.fields in
    let run = run_bound leaves part.value in
    let there : slice_get senses' f ≡ Some x = new-field senses x f (length-map fields (sense leaves) ∙ held) in
    let done = run-finishing (λ out. Link f (places_of out)) ret old senses senses' args n (λ r k. run (slots_of_result r) k) (extends-more senses (x ∷ []))
    long
    (λ env k. refines-is _ _ (link-result run senses' f old.out env k (λ xs. run-part leaves senses' part f xs k there))) in
    let Q : List Sense → Type 0 =
    λ v. Refines (and_then (run_body old senses args n) n (λ r k. returned ret (run (slots_of_result r) k))) (run_body (applied (FilterReturn ret) old) v args
    n) in
    subst Q (sym (map-append (sense leaves) fields (field.Part part ∷ []))) done
