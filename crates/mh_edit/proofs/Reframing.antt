-- A reframed body first runs the new names, and then the old body on the slots that the table picks.
use Rattle.std.proofs.Common.{◌≡◌, refl, ℕ, zero, suc, ◌+◌, ◌<◌, List, [], ◌∷◌, ◌++◌, Option, Some, None, sym, ap, ◌∙◌, length-append, map, length, arith}
use Rattle.std.specs.Prelude.{slice_get, slice_index}
use Rattle.std.specs.Option.{option_map}
use Rattle.std.proofs.lemmas.Option.{slice_get_within}
use Rattle.std.proofs.lemmas.Bool.Decides.{nat_tests}
use Rattle.mh_values.specs.Computation.{Ran, Refines, and_then, found}
use Rattle.mh_form.specs.declared.basic.Basic.{Basic}
use Rattle.mh_form.specs.declared.body.FormBody.{FormBody}
use Rattle.mh_form.specs.declared.name.Name.{Name}
use Rattle.mh_form.specs.declared.slot.Slot.{Slot}
use Rattle.mh_form.specs.Run.{Sense, step, run_names, run_body, ended, picked, picked_more}
use Rattle.mh_edit.specs.Rename.{renamed, place_by, reframed}
use Rattle.mh_form.proofs.Refines.{refines-refl, refines-and_then, refines-found}
use Rattle.mh_edit.proofs.Renaming.{run-renamed}
use Rattle.mh_edit.proofs.RenamedSlots.{Extends, Renames}

-- the names of two lists are those of the one and then those of the other
pub run_names-append :
    {B : Type 0} →
    (xs ys : List Name) (senses : List Sense) (slots : List Slot) (n : ℕ) (end : List Slot → ℕ → Ran B) →
    run_names (xs ++ ys) senses slots n end ≡ run_names xs senses slots n (λ env k. run_names ys senses env k end)
run_names-append [] ys senses slots n end = refl
run_names-append (x ∷ xs) ys senses slots n end =
    ap (and_then (step x senses slots n) n) (λ i s k. run_names-append xs ys senses (slots ++ s ∷ []) k end i)

-- what comes at the end may be replaced by what does more, over lists as long as those that come there
pub refines-end :
    {B : Type 0} →
    (xs : List Name) (senses : List Sense) (slots : List Slot) (n m : ℕ) (e f : List Slot → ℕ → Ran B) →
    length slots + length xs ≡ m →
    ((env : List Slot) (k : ℕ) → length env ≡ m → Refines (e env k) (f env k)) →
    Refines (run_names xs senses slots n e) (run_names xs senses slots n f)
refines-end [] senses slots n m e f len h = h slots n (omega arith)
refines-end (x ∷ xs) senses slots n m e f len h =
    refines-and_then (step x senses slots n) (step x senses slots n) n _ _ (refines-refl (step x senses slots n))
    (λ s k. refines-end xs senses (slots ++ s ∷ []) k m e f (rw length-append (omega arith)) h)

pub picked_more-parts :
    (o : Option Slot) (p : Option (List Slot)) (xs : List Slot) →
    picked_more o p ≡ Some xs →
    (s : Slot) × (ss : List Slot) × (o ≡ Some s) × (p ≡ Some ss) × (xs ≡ s ∷ ss)
picked_more-parts None p xs h = absurd cc
picked_more-parts (Some s) None xs h = absurd cc
picked_more-parts (Some s) (Some ss) xs h = (s, ss, refl, refl, cc)

-- the slots that are picked stand where the table says
picked-length : (env : List Slot) (ps : List ℕ) (old : List Slot) → picked env ps ≡ Some old → length old ≡ length ps
picked-length env [] old h = let e : [] ≡ old = cc in ap length (sym e)
picked-length env (p ∷ ps) old h =
    let q = picked_more-parts (slice_get env p) (picked env ps) old h in
    ap length q.4 ∙ ap suc (picked-length env ps q.1 q.3)

picked-at :
    (env : List Slot) (ps : List ℕ) (old : List Slot) (i : ℕ) (s : Slot) →
    picked env ps ≡ Some old →
    slice_get old i ≡ Some s →
    slice_get env (slice_index ps i) ≡ Some s
picked-at env [] old i s h at = absurd (let e : [] ≡ old = cc in let f : None ≡ Some s = ap (λ x. slice_get x i) e ∙ at in cc)
picked-at env (p ∷ ps) old zero s h at =
    let q = picked_more-parts (slice_get env p) (picked env ps) old h in
    q.2 ∙ (sym (ap (λ x. slice_get x zero) q.4) ∙ at)
picked-at env (p ∷ ps) old (suc i) s h at =
    let q = picked_more-parts (slice_get env p) (picked env ps) old h in
    picked-at env ps q.1 i s q.3 (sym (ap (λ x. slice_get x (suc i)) q.4) ∙ at)

place_by-table : (table : List ℕ) (base i : ℕ) → i < length table → place_by table base i ≡ slice_index table i
place_by-table table base i low = grind (arith, nat_tests)

place_by-later : (table : List ℕ) (base i j : ℕ) → i ≡ length table → place_by table base (i + j) ≡ base + j
place_by-later table base i j is = grind (arith, nat_tests)

pub renames-table :
    (table : List ℕ) (base : ℕ) (old env : List Slot) →
    length env ≡ base →
    picked env table ≡ Some old →
    Renames (place_by table base) old env
renames-table table base old env len h =
    let long = picked-length env table old h in
    record {
      finds =
          λ i s at.
          let low : i < length table = omega (arith, slice_get_within old i s at) in
          rw (place_by-table table base i low) (picked-at env table old i s h at);
      later = λ j. rw (place_by-later table base (length old) j long) (omega arith);
    }

ended-renamed :
    (to : ℕ → ℕ) (out : Option ℕ) (old new : List Slot) (n : ℕ) →
    Renames to old new →
    Refines (ended out old n) (ended (option_map to out) new n)
ended-renamed to None old new n ren = refl
ended-renamed to (Some p) old new n ren = refines-found (slice_get old p) (slice_get new (to p)) _ _ (ren.finds p) (λ s. refl)

old-reframed :
    (body : FormBody) (table : List ℕ) (base : ℕ) (senses senses' : List Sense) (env : List Slot) (n : ℕ) (o : Option (List Slot)) →
    Extends senses senses' →
    length env ≡ base →
    picked env table ≡ o →
    Refines
    (found o (λ old. run_body body senses old n))
    (run_names (map (renamed (place_by table base)) body.names) senses' env n (ended (option_map (place_by table base) body.out)))
old-reframed body table base ss ss' env n None ext len h = tt
old-reframed body table base ss ss' env n (Some old) ext len h =
    run-renamed body.names (place_by table base) ss ss' old env n _ _ ext (renames-table table base old env len h)
    (λ o w k ren. ended-renamed (place_by table base) body.out o w k ren)

pub run-reframed :
    (body : FormBody) (params : List Basic) (before : List Name) (table : List ℕ) (more : ℕ) (senses senses' : List Sense) (args : List Slot) (n : ℕ) →
    Extends senses senses' →
    length args ≡ length params →
    Refines
    (run_names before senses' args n (λ env k. found (picked env table) (λ old. run_body body senses old k)))
    (run_body (reframed body params before table more) senses' args n)
run-reframed body params before table more ss ss' args n ext len =
    let base = length params + length before in
    rw (run_names-append before (map (renamed (place_by table base)) body.names) ss' args n (ended (option_map (place_by table base) body.out)))
    (refines-end before ss' args n base _ _ (ap (λ v. v + length before) len)
    (λ env k long. old-reframed body table base ss ss' env k (picked env table) ext long refl))
