-- Renaming the places of a list of names leaves its run as it was on the renamed slots.
use Rattle.std.proofs.Common.{◌≡◌, subst, ℕ, zero, suc, ◌+◌, List, [], ◌∷◌, ◌++◌, Some, ap, ◌∙◌, inl, inr, length-append, map, length, arith}
use Rattle.std.specs.Prelude.{slice_get, if◌then◌else◌}
use Rattle.mh_base.proofs.Slices.{slice_get-push, slice_get-end}
use Rattle.mh_values.specs.Computation.{Ran, Gave, Refines, found}
use Rattle.mh_form.specs.declared.name.Name.{Name}
use Rattle.mh_form.specs.declared.name.Name.TheVariants.{Get, Call, Link, Select, Guarded, Finally, Switch, Loop, Conv, Cast, Ret, MakeArray, CheckArray, Elem, Join, Raise}
use Rattle.mh_form.specs.declared.slot.Slot.{Slot}
use Rattle.mh_form.specs.Slots.{case_field, filled, holds_one, checked_array, item_in, raised_slot}
use Rattle.mh_form.specs.Run.{Sense, step, run_names, guarded_field, run_field, slot_of, leaf_of, class_of, conv_of, ret_of, comp_of, joined_of}
use Rattle.mh_edit.specs.Rename.{renamed}
use Rattle.mh_form.proofs.RefinedEndings.{refines-finally_run, refines-loop_run}
use Rattle.mh_form.proofs.Refines.{refines-refl, refines-and_then, refines-found}
use Rattle.mh_edit.proofs.RenamedSlots.{Extends, Renames, refines-with_field, refines-run_field, refines-filled, refines-guarded_field, refines-with_result, refines-at, refines-picked}

-- a renamed name gives what the name gave
pub step-renamed :
    (x : Name) (to : ℕ → ℕ) (senses senses' : List Sense) (old new : List Slot) (n : ℕ) →
    Extends senses senses' →
    Renames to old new →
    Refines (step x senses old n) (step (renamed to x) senses' new n)
step-renamed (Get f) to ss ss' old new n ext ren =
    refines-with_field slot_of ss ss' f _ _ ext (λ s. refines-refl (Gave s []))
step-renamed (Call f args) to ss ss' old new n ext ren =
    refines-picked to old new args _ _ ren (λ xs.
    refines-with_field leaf_of ss ss' f _ _ ext (λ leaf. refines-refl (filled (leaf xs n))))
step-renamed (Link f args) to ss ss' old new n ext ren =
    refines-picked to old new args _ _ ren (λ xs.
    refines-filled (run_field ss f xs n) _ (refines-run_field ss ss' f xs n ext))
step-renamed (Select i f g args) to ss ss' old new n ext ren =
    refines-found (slice_get old i) (slice_get new (to i)) _ _ (ren.finds i) (λ s.
    refines-picked to old new args _ _ ren (λ xs.
    refines-filled (run_field ss (if holds_one s then f else g) xs n) _ (refines-run_field ss ss' (if holds_one s then f else g) xs n ext)))
step-renamed (Guarded f c h args kept) to ss ss' old new n ext ren =
    refines-picked to old new args _ _ ren (λ xs.
    refines-with_field class_of ss ss' c _ _ ext (λ test.
    refines-filled (guarded_field ss f test h kept xs n) _ (refines-guarded_field ss ss' f test h kept xs n ext)))
step-renamed (Finally f h args kept ret) to ss ss' old new n ext ren =
    refines-picked to old new args _ _ ren (λ xs.
    refines-finally_run _ _ _ _ kept ret xs n (λ ys k. refines-run_field ss ss' f ys k ext) (λ ys k. refines-run_field ss ss' h ys k ext))
step-renamed (Switch i first count args) to ss ss' old new n ext ren =
    refines-found (slice_get old i) (slice_get new (to i)) _ _ (ren.finds i) (λ s.
    refines-found (case_field first count s) (case_field first count s) _ _ (λ f h. h) (λ f.
    refines-picked to old new args _ _ ren (λ xs. refines-filled (run_field ss f xs n) _ (refines-run_field ss ss' f xs n ext))))
step-renamed (Loop first args counts ret) to ss ss' old new n ext ren =
    refines-picked to old new args _ _ ren (λ xs.
    refines-loop_run _ _ _ _ _ _ counts ret xs n (λ ys k. refines-run_field ss ss' first ys k ext)
    (λ ys k. refines-run_field ss ss' (first + 1) ys k ext) (λ ys k. refines-run_field ss ss' (first + 2) ys k ext))
step-renamed (Conv f i) to ss ss' old new n ext ren =
    refines-with_field conv_of ss ss' f _ _ ext (λ conv. refines-at to old new i conv ren)
step-renamed (Cast f i) to ss ss' old new n ext ren =
    refines-with_field conv_of ss ss' f _ _ ext (λ conv. refines-at to old new i conv ren)
step-renamed (Ret f i) to ss ss' old new n ext ren =
    refines-with_field ret_of ss ss' f _ _ ext (λ conv.
    refines-with_result to old new i _ _ ren (λ r. refines-refl (filled (conv r))))
step-renamed (MakeArray f args) to ss ss' old new n ext ren =
    refines-picked to old new args _ _ ren (λ xs.
    refines-with_field comp_of ss ss' f _ _ ext (λ make. refines-refl (make xs)))
step-renamed (CheckArray i count) to ss ss' old new n ext ren =
    refines-at to old new i (λ s. filled (checked_array count s)) ren
step-renamed (Elem i k) to ss ss' old new n ext ren =
    refines-at to old new i (λ s. found (item_in s k) (λ item. Gave item [])) ren
step-renamed (Join f args) to ss ss' old new n ext ren =
    refines-picked to old new args _ _ ren (λ xs.
    refines-with_field joined_of ss ss' f _ _ ext (λ join. refines-refl (join xs)))
step-renamed (Raise i) to ss ss' old new n ext ren = refines-at to old new i raised_slot ren

pub slice_get-append_left :
    {A : Type 0} → (xs ys : List A) (i : ℕ) (t : A) → slice_get xs i ≡ Some t → slice_get (xs ++ ys) i ≡ Some t
slice_get-append_left [] ys i t h = absurd cc
slice_get-append_left (x ∷ xs) ys zero t h = h
slice_get-append_left (x ∷ xs) ys (suc i) t h = slice_get-append_left xs ys i t h

renames-push : (to : ℕ → ℕ) (old new : List Slot) (s : Slot) → Renames to old new → Renames to (old ++ s ∷ []) (new ++ s ∷ [])
renames-push to old new s ren =
    record {
      finds =
          λ i t h.
          elim (slice_get-push old s i t h) [
            | inl e ↦ slice_get-append_left new (s ∷ []) (to i) t (ren.finds i t e)
            | inr e ↦
                let at_end : to i ≡ length new = ap to e.0 ∙ (ap to (omega arith) ∙ (ren.later 0 ∙ omega arith)) in
                rw at_end (subst (λ v. slice_get (new ++ s ∷ []) (length new) ≡ Some v) e.1 (slice_get-end new s))
          ];
      later =
          λ j.
          let a : length (old ++ s ∷ []) + j ≡ length old + suc j = rw length-append (omega arith) in
          let b : length (new ++ s ∷ []) + j ≡ length new + suc j = rw length-append (omega arith) in
          rw (a, b) (ren.later (suc j));
    }

pub run-renamed :
    {B : Type 0} →
    (xs : List Name) (to : ℕ → ℕ) (senses senses' : List Sense) (old new : List Slot) (n : ℕ) (end end' : List Slot → ℕ → Ran B) →
    Extends senses senses' →
    Renames to old new →
    ((o w : List Slot) (k : ℕ) → Renames to o w → Refines (end o k) (end' w k)) →
    Refines (run_names xs senses old n end) (run_names (map (renamed to) xs) senses' new n end')
run-renamed [] to ss ss' old new n end end' ext ren h = h old new n ren
run-renamed (x ∷ xs) to ss ss' old new n end end' ext ren h =
    refines-and_then (step x ss old n) (step (renamed to x) ss' new n) n _ _ (step-renamed x to ss ss' old new n ext ren)
    (λ s k. run-renamed xs to ss ss' (old ++ s ∷ []) (new ++ s ∷ []) k end end' ext (renames-push to old new s ren) h)
