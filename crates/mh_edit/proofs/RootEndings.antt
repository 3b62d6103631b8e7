-- The laws of the roots of cleanups, switches and loops.
use Rattle.std.proofs.Common.{◌≡◌, refl, sym, subst, ap, ap₂, ◌∙◌, ℕ, zero, suc, ◌+◌, ◌≤◌, ℤ, pos, negsuc, Bool, true, false, List, [], ◌∷◌, Option, Some, None, get_or, length, map, arith}
use Rattle.std.specs.Prelude.{nat_lt, slice_get, if◌then◌else◌}
use Rattle.std.specs.List.{range_with_len}
use Rattle.std.specs.Option.{option_map}
use Rattle.std.proofs.lemmas.Bool.{ltb-true, ltb-false}
use Rattle.std.proofs.lemmas.Option.{slice_get-get_or, slice_get-map}
use Rattle.std.specs.declared.sync.Arc.{Arc}
use Rattle.std.specs.declared.alloc.Global.{Global}
use Rattle.mh_values.specs.Computation.{Refines, found, mapped}
use Rattle.mh_leaf.specs.Ending.{picked_by}
use Rattle.mh_leaf.specs.LeafTable.{LeafTable}
use Rattle.mh_form.specs.declared.basic.Shape.{Shape}
use Rattle.mh_form.specs.declared.body.FormBody.{FormBody}
use Rattle.mh_form.specs.declared.name.LoopCounts.{LoopCounts}
use Rattle.mh_form.specs.declared.name.Name.TheVariants.{Finally, Loop, Switch}
use Rattle.mh_form.specs.declared.slot.Slot.{Slot}
use Rattle.mh_form.specs.declared.slot.Slot.TheVariants as slot
use Rattle.mh_form.specs.declared.field.Bound.{Bound}
use Rattle.mh_form.specs.declared.field.Field.TheVariants as field
use Rattle.mh_form.specs.Slots.{case_field, filled}
use Rattle.mh_form.specs.Run.{Sense, SlotRun, ended, finally_field, finally_run, loop_field, loop_run, picked, run_bound, run_field, run_names, sense, step}
use Rattle.mh_form.proofs.Refines.{refines-is}
use Rattle.mh_edit.specs.Applied.{applied, counts_of, out_of}
use Rattle.mh_edit.specs.declared.key.Key.TheVariants.{LoopRoot, SwitchRoot, TryRoot}
use Rattle.mh_edit.specs.Law.{LoopRootLaw, SwitchRootLaw, TryRootLaw, case_of, returned}
use Rattle.mh_edit.proofs.Places.{picked-all}
use Rattle.mh_edit.proofs.Parts.{run-part}
use Rattle.mh_edit.proofs.RootLaws.{filled-some, run-single}

-- a field that holds a part, as a run
run-held :
    (leaves : LeafTable) (senses : List Sense) (part : Arc Bound Global) (f : ℕ) →
    slice_get senses f ≡ Some (sense leaves (field.Part part)) →
    run_field senses f ≡ run_bound leaves part.value
run-held leaves senses part f there = λ i xs n. run-part leaves senses part f xs n there i

pub law-TryRoot :
    (shape : Shape) (kept : ℕ) (old : FormBody) → TryRootLaw shape.params shape.ret kept (applied (TryRoot shape kept) old)
law-TryRoot shape kept old leaves t c args n long =
    let m = length shape.params in
    let senses = sense leaves (field.Part t) ∷ sense leaves (field.Part c) ∷ [] in
    let name = Finally 0 1 (range_with_len 0 m) kept shape.ret in
    let r = finally_run (run_bound leaves t.value) (run_bound leaves c.value) kept shape.ret args n in
    let parts : finally_field senses 0 1 kept shape.ret args n ≡ r =
    ap₂ (λ (f h : SlotRun). finally_run f h kept shape.ret args n) (run-held leaves senses t 0 refl) (run-held leaves senses c 1 refl) in
    let one : step name senses args n ≡ filled (mapped Some r) =
    ap (λ o. found o (λ xs. finally_field senses 0 1 kept shape.ret xs n)) (picked-all args m long) ∙ (parts ∙ filled-some r) in
    refines-is _ _ (run-single name shape.ret senses args n m (mapped Some r) long one)

pub law-LoopRoot :
    (shape : Shape) (iterations init turns : ℕ) (old : FormBody) →
    LoopRootLaw shape.params shape.ret (counts_of iterations init turns) (applied (LoopRoot shape iterations init turns) old)
law-LoopRoot shape iterations init turns old leaves i s b args n long =
    let m = length shape.params in
    let counts : LoopCounts = counts_of iterations init turns in
    let senses = sense leaves (field.Part i) ∷ sense leaves (field.Part s) ∷ sense leaves (field.Part b) ∷ [] in
    let name = Loop 0 (range_with_len 0 m) counts shape.ret in
    let f = run_bound leaves i.value in
    let g = run_bound leaves s.value in
    let h = run_bound leaves b.value in
    let r = loop_run f g h counts shape.ret args n in
    let parts : loop_field senses 0 counts shape.ret args n ≡ r =
    ap₂ (λ (x y : SlotRun). loop_run x y (run_field senses 2) counts shape.ret args n) (run-held leaves senses i 0 refl) (run-held leaves senses s 1 refl)
    ∙ ap (λ (z : SlotRun). loop_run f g z counts shape.ret args n) (run-held leaves senses b 2 refl) in
    let one : step name senses args n ≡ filled (mapped Some r) =
    ap (λ o. found o (λ xs. loop_field senses 0 counts shape.ret xs n)) (picked-all args m long) ∙ (parts ∙ filled-some r) in
    refines-is _ _ (run-single name shape.ret senses args n m (mapped Some r) long one)

-- the fields of a switch
abbrev senses_of_parts : LeafTable → Arc Bound Global → List (Arc Bound Global) → List Sense
senses_of_parts leaves f cases = map (sense leaves) (field.Part f ∷ map field.Part cases)

get_or-past : {A : Type 0} (xs : List A) (k : ℕ) (d : A) → length xs ≤ k → get_or xs k d ≡ d
get_or-past [] k d low = refl
get_or-past (x ∷ xs) zero d low = absurd (omega arith)
get_or-past (x ∷ xs) (suc k) d low = get_or-past xs k d (omega arith)

-- the field of a case holds its part, and that of no case the other part
case-found :
    (leaves : LeafTable) (f : Arc Bound Global) (cases : List (Arc Bound Global)) (k : ℕ) (b : Bool) →
    nat_lt k (length cases) ≡ b →
    slice_get (senses_of_parts leaves f cases) (if b then 0 + (k + 1) else 0) ≡ Some (sense leaves (field.Part (get_or cases k f)))
case-found leaves f cases k true is =
    let later : 0 + (k + 1) ≡ suc k = omega arith in
    ap (slice_get (senses_of_parts leaves f cases)) later
    ∙ (slice_get-map (sense leaves) (map field.Part cases) k
    ∙ ap (option_map (sense leaves)) (slice_get-map field.Part cases k ∙ ap (option_map field.Part) (slice_get-get_or cases k f (ltb-true k _ is))))
case-found leaves f cases k false is =
    ap (λ part. Some (sense leaves (field.Part part))) (sym (get_or-past cases k f (ltb-false k _ is)))

-- the part that an int picks
run-picked :
    (leaves : LeafTable) (f : Arc Bound Global) (cases : List (Arc Bound Global)) (z : ℤ) (xs : List Slot) (n : ℕ) →
    run_field (senses_of_parts leaves f cases) (picked_by z (λ k. if nat_lt k (length cases) then 0 + (k + 1) else 0) 0) xs n
    ≡ run_bound leaves (picked_by z (λ k. get_or cases k f) f).value xs n
run-picked leaves f cases (pos k) xs n =
    run-part leaves (senses_of_parts leaves f cases) (get_or cases k f) _ xs n (case-found leaves f cases k (nat_lt k (length cases)) refl)
run-picked leaves f cases (negsuc k) xs n = run-part leaves (senses_of_parts leaves f cases) f 0 xs n refl

-- the body of a switch whose first argument is known
run-switched :
    (shape : Shape) (leaves : LeafTable) (f : Arc Bound Global) (cases : List (Arc Bound Global)) (args : List Slot) (n : ℕ) (o : Option Slot) →
    length args ≡ length shape.params →
    slice_get args 0 ≡ o →
    Refines
    (found o (λ s. found (case_of f cases s) (λ part. returned shape.ret (run_bound leaves part.value args n))))
    (run_names (Switch 0 0 (length cases) (range_with_len 0 (length shape.params)) ∷ []) (senses_of_parts leaves f cases) args n
    (ended (out_of shape.ret (length shape.params))))
run-switched shape leaves f cases args n None long at = tt
run-switched shape leaves f cases args n (Some (slot.J z)) long at = tt
run-switched shape leaves f cases args n (Some (slot.L v)) long at = tt
run-switched shape leaves f cases args n (Some (slot.I z)) long at =
    let m = length shape.params in
    let count = length cases in
    let senses = senses_of_parts leaves f cases in
    let places = range_with_len 0 m in
    let name = Switch 0 0 count places in
    let part = picked_by z (λ k. get_or cases k f) f in
    let number = picked_by z (λ k. if nat_lt k count then 0 + (k + 1) else 0) 0 in
    let one : step name senses args n ≡ filled (run_bound leaves part.value args n) =
    ap (λ o. found o (λ s. found (case_field 0 count s) (λ g. found (picked args places) (λ xs. filled (run_field senses g xs n))))) at
    ∙ (ap (λ o. found o (λ xs. filled (run_field senses number xs n))) (picked-all args m long)
    ∙ ap filled (run-picked leaves f cases z args n)) in
    refines-is _ _ (run-single name shape.ret senses args n m (run_bound leaves part.value args n) long one)

pub law-SwitchRoot :
    (shape : Shape) (count : ℕ) (old : FormBody) → SwitchRootLaw shape.params shape.ret count (applied (SwitchRoot shape count) old)
law-SwitchRoot shape count old leaves f cases args n few long =
    let m = length shape.params in
    let P : ℕ → Type 0 =
    λ c. Refines
    (found (slice_get args 0) (λ s. found (case_of f cases s) (λ part. returned shape.ret (run_bound leaves part.value args n))))
    (run_names (Switch 0 0 c (range_with_len 0 m) ∷ []) (senses_of_parts leaves f cases) args n (ended (out_of shape.ret m))) in
    subst P few (run-switched shape leaves f cases args n (slice_get args 0) long refl)
