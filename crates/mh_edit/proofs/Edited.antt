-- A body that is edited at a position runs one new name, and then the old body with what it put.
use Rattle.std.proofs.Common.{◌≡◌, refl, subst, Option, Some, ℕ, ◌+◌, ◌-◌, ◌≤◌, List, [], ◌∷◌, ◌++◌, sym, ap, length, arith}
use Rattle.mh_values.specs.Computation.{Ran, Refines, and_then, found, spliced}
use Rattle.mh_form.specs.declared.basic.Basic.{Basic}
use Rattle.mh_form.specs.declared.body.FormBody.{FormBody}
use Rattle.mh_form.specs.declared.name.Name.{Name}
use Rattle.mh_form.specs.declared.slot.Slot.{Slot}
use Rattle.mh_form.specs.Run.{Sense, step, run_names, run_body, picked}
use Rattle.mh_form.proofs.Refines.{refines-refl, refines-is, refines-trans, refines-and_then}
use Rattle.mh_edit.specs.Rename.{table, edited}
use Rattle.mh_edit.proofs.RenamedSlots.{Extends}
use Rattle.mh_edit.proofs.Reframing.{run-reframed}
use Rattle.mh_edit.proofs.Places.{picked-table, length-spliced}

-- the old body on the slots that a table picks
pub old-picked :
    (old : FormBody) (senses : List Sense) (env : List Slot) (places : List ℕ) (xs : List Slot) (k : ℕ) →
    picked env places ≡ Some xs →
    Refines (run_body old senses xs k) (found (picked env places) (λ ys. run_body old senses ys k))
old-picked old senses env places xs k picks =
    refines-is (run_body old senses xs k) _ (ap (λ o. found o (λ ys. run_body old senses ys k)) (sym picks))

-- one name stands before the old ones, and what it puts stands for what was taken out
pub run-edited :
    (old : FormBody) (pos taken : ℕ) (basics : List Basic) (x : Name) (mid : List ℕ) (more : ℕ) (senses senses' : List Sense) (args : List Slot) (n : ℕ)
    (r : Ran Slot) (slots : Slot → List Slot) →
    Extends senses senses' →
    pos + taken ≤ length old.params →
    length args + taken ≡ length old.params + length basics →
    step x senses' args n ≡ r →
    ((s : Slot) → picked (args ++ s ∷ []) mid ≡ Some (slots s)) →
    Refines
    (and_then r n (λ s k. run_body old senses (spliced pos (length basics) (slots s) args) k))
    (run_body (edited old pos taken basics (x ∷ []) mid more) senses' args n)
run-edited old pos taken basics x mid more senses senses' args n r slots ext fits long ran picks =
    let put = length basics in
    let rest = length old.params - (pos + taken) in
    let places = table pos put mid rest in
    let params = spliced pos taken basics old.params in
    let size : length args ≡ length params = omega (arith, length-spliced pos taken basics old.params fits) in
    let law : Slot → ℕ → Ran (Option Slot) = λ s k. run_body old senses (spliced pos put (slots s) args) k in
    let end : List Slot → ℕ → Ran (Option Slot) = λ env k. found (picked env places) (λ ys. run_body old senses ys k) in
    let each : (s : Slot) (k : ℕ) → Refines (law s k) (end (args ++ s ∷ []) k) =
    λ s k. old-picked old senses (args ++ s ∷ []) places (spliced pos put (slots s) args) k
    (picked-table (args ++ s ∷ []) args (s ∷ []) pos put rest mid (slots s) refl (omega arith) (picks s)) in
    let P : Ran Slot → Type 0 = λ v. Refines (and_then r n law) (and_then v n (λ s k. end (args ++ s ∷ []) k)) in
    let first : Refines (and_then r n law) (run_names (x ∷ []) senses' args n end) =
    subst P (sym ran) (refines-and_then r r n law (λ s k. end (args ++ s ∷ []) k) (refines-refl r) each) in
    refines-trans _ _ _ first (run-reframed old params (x ∷ []) places more senses senses' args n ext size)
