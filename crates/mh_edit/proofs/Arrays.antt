-- The laws of Spread and Gather: an array and its items.
use Rattle.std.proofs.Common.{◌≡◌, refl, subst, Option, Some, None, ℕ, ◌+◌, ◌-◌, ◌≤◌, List, [], ◌∷◌, ◌++◌, sym, ap, ◌∙◌, length, map, take, drop, take_all, length-append, append_assoc, zero-add, arith}
use Rattle.std.specs.Prelude.{slice_get, replicate}
use Rattle.std.specs.List.{range_with_len}
use Rattle.std.proofs.lemmas.List.{length-replicate, map-append, length-map}
use Rattle.std.proofs.Math.Seq.{drop-append_seam}
use Rattle.mh_values.specs.Computation.{Ran, Gave, Threw, Stuck, Refines, and_then, found, mapped, raised, spliced}
use Rattle.mh_form.specs.declared.basic.Basic.{Basic}
use Rattle.mh_form.specs.declared.basic.Basic.TheVariants as basic
use Rattle.mh_form.specs.declared.body.FormBody.{FormBody}
use Rattle.mh_form.specs.declared.name.Name.{Name}
use Rattle.mh_form.specs.declared.name.Name.TheVariants.{MakeArray, CheckArray}
use Rattle.mh_form.specs.declared.slot.Slot.{Slot}
use Rattle.mh_form.specs.declared.field.Field.TheVariants as field
use Rattle.mh_form.specs.Slots.{checked_array, filled, item_in, made_array, none_as_zero, spread_slots}
use Rattle.mh_form.specs.Run.{IsComp, Sense, comp_of, of_kind, picked, run_body, run_names, sense, step, with_field}
use Rattle.mh_form.proofs.Refines.{refines-after, refines-is, refines-trans}
use Rattle.mh_edit.specs.Applied.{applied, elem_names}
use Rattle.mh_edit.specs.declared.key.Key.TheVariants.{Spread, Gather}
use Rattle.mh_edit.specs.Law.{SpreadLaw, GatherLaw}
use Rattle.mh_edit.specs.Rename.{table}
use Rattle.mh_edit.proofs.Renaming.{slice_get-append_left}
use Rattle.mh_edit.proofs.Reframing.{run-reframed}
use Rattle.mh_edit.proofs.Places.{picked-range, picked-end, picked-table, length-spliced, extends-more, extends-same, new-field}
use Rattle.mh_edit.proofs.Edited.{old-picked, run-edited}
use Rattle.mh_edit.proofs.Items.{holds-spread, run-elems}

pub law-Gather :
    (count : ℕ) (b : Basic) (old : FormBody) → 1 ≤ length old.params → GatherLaw (length old.params - 1) count old (applied (Gather count b) old)
law-Gather count b old fits leaves fields c args n held long =
    let senses = map (sense leaves) fields in
    let classes = leaves.classes in
    let x = IsComp (made_array classes c) in
    let senses' = senses ++ x ∷ [] in
    let pos = length old.params - 1 in
    let put = length-replicate count b in
    let name = MakeArray old.fields (range_with_len pos count) in
    let r = made_array classes c (take count (drop pos args)) in
    let there : slice_get senses' old.fields ≡ Some x = new-field senses x old.fields (length-map fields (sense leaves) ∙ held) in
    let ran : step name senses' args n ≡ r =
    ap (λ o. found o (λ xs. with_field comp_of senses' old.fields (λ make. make xs))) (picked-range args pos count (omega arith))
    ∙ ap (λ o. found (of_kind comp_of o) (λ make. make (take count (drop pos args)))) there in
    let done = run-edited old pos 1 (replicate count b) name ((pos + count) ∷ []) 1 senses senses' args n r (λ s. s ∷ [])
    (extends-more senses (x ∷ [])) (omega arith) (omega arith) ran (λ s. picked-end args s (pos + count) (omega arith)) in
    let new = applied (Gather count b) old in
    let P : ℕ → Type 0 = λ m. Refines (and_then r n (λ s k. run_body old senses (spliced pos m (s ∷ []) args) k)) (run_body new senses' args n) in
    let Q : List Sense → Type 0 =
    λ v. Refines (and_then r n (λ s k. run_body old senses (spliced pos count (s ∷ []) args) k)) (run_body new v args n) in
    subst Q (sym (map-append (sense leaves) fields (field.Comp c ∷ []))) (subst P put done)

-- the places of the old parameters, where the last of the arguments is an array whose items were put after a check
picked-spread :
    (args items : List Slot) (zero_slot : Slot) (pos count rest : ℕ) →
    length args ≡ pos + 1 →
    rest ≡ 0 →
    length items ≡ count →
    picked ((args ++ zero_slot ∷ []) ++ items) (table pos 1 (range_with_len (pos + 2) count) rest) ≡ Some (spliced pos 1 items args)
picked-spread args items z pos count rest long none many =
    let front = args ++ z ∷ [] in
    let env = front ++ items in
    let size : length front ≡ pos + 2 = length-append args (z ∷ []) ∙ omega arith in
    let total : length env ≡ length front + length items = length-append front items in
    let last : take count (drop (pos + 2) env) ≡ items =
    ap (λ m. take count (drop m env)) (sym size) ∙ (ap (take count) (drop-append_seam front items) ∙ take_all count items (omega arith)) in
    picked-table env args (z ∷ items) pos 1 rest (range_with_len (pos + 2) count) items (append_assoc args (z ∷ []) items) (omega arith)
    (picked-range env (pos + 2) count (omega arith) ∙ ap Some last)

-- a check, and the items after it
run-spread :
    (old : FormBody) (senses : List Sense) (s : Slot) (args : List Slot) (n pos count rest : ℕ) (r : Ran (List Slot)) →
    length args ≡ pos + 1 →
    rest ≡ 0 →
    slice_get args pos ≡ Some s →
    spread_slots count s ≡ r →
    Refines
    (and_then r n (λ items k. run_body old senses (spliced pos 1 items args) k))
    (and_then (filled (mapped (λ items. None) r)) n (λ z k.
    run_names (elem_names pos 0 count) senses (args ++ z ∷ []) k (λ env m.
    found (picked env (table pos 1 (range_with_len (pos + 2) count) rest)) (λ ys. run_body old senses ys m))))
run-spread old senses s args n pos count rest Stuck long none at is = tt
run-spread old senses s args n pos count rest (Threw e calls) long none at is = refl
run-spread old senses s args n pos count rest (Gave items calls) long none at is =
    let holds = holds-spread count s items calls is in
    let z = none_as_zero None in
    let k = raised n calls in
    let places = table pos 1 (range_with_len (pos + 2) count) rest in
    let end : List Slot → ℕ → Ran (Option Slot) = λ env m. found (picked env places) (λ ys. run_body old senses ys m) in
    let elems : run_names (elem_names pos 0 count) senses (args ++ z ∷ []) k end ≡ end ((args ++ z ∷ []) ++ items) k =
    ap (λ m. run_names (elem_names pos 0 m) senses (args ++ z ∷ []) k end) (sym holds.many)
    ∙ run-elems items pos 0 s senses (args ++ z ∷ []) k end (slice_get-append_left args (z ∷ []) pos s at)
    (λ j x h. ap (item_in s) (zero-add j) ∙ holds.finds j x h) in
    let xs = spliced pos 1 items args in
    let one = old-picked old senses ((args ++ z ∷ []) ++ items) places xs k (picked-spread args items z pos count rest long none holds.many) in
    refines-after calls (run_body old senses xs k) _ (refines-trans _ _ _ one (refines-is _ _ (sym elems)))

run-spread-at :
    (old : FormBody) (senses : List Sense) (args : List Slot) (n pos count rest : ℕ) (o : Option Slot) →
    length args ≡ pos + 1 →
    rest ≡ 0 →
    slice_get args pos ≡ o →
    Refines
    (found o (λ s. and_then (spread_slots count s) n (λ items k. run_body old senses (spliced pos 1 items args) k)))
    (and_then (found o (λ s. filled (checked_array count s))) n (λ z k.
    run_names (elem_names pos 0 count) senses (args ++ z ∷ []) k (λ env m.
    found (picked env (table pos 1 (range_with_len (pos + 2) count) rest)) (λ ys. run_body old senses ys m))))
run-spread-at old senses args n pos count rest None long none at = tt
run-spread-at old senses args n pos count rest (Some s) long none at =
    run-spread old senses s args n pos count rest (spread_slots count s) long none at refl

pub law-Spread :
    (count : ℕ) (b : Basic) (old : FormBody) → count ≤ length old.params → SpreadLaw (length old.params - count) count old (applied (Spread count b) old)
law-Spread count b old fits leaves fields args n held long =
    let senses = map (sense leaves) fields in
    let pos = length old.params - count in
    let rest = length old.params - (pos + count) in
    let params = spliced pos count (basic.L ∷ []) old.params in
    let before : List Name = CheckArray pos count ∷ elem_names pos 0 count in
    let places = table pos 1 (range_with_len (pos + 2) count) rest in
    let size : length args ≡ length params = omega (arith, length-spliced pos count (basic.L ∷ []) old.params (omega arith)) in
    refines-trans _ _ _
    (run-spread-at old senses args n pos count rest (slice_get args pos) (omega arith) (omega arith) refl)
    (run-reframed old params before places 0 senses senses args n (extends-same senses) size)
