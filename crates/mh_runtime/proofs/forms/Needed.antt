-- How many numbers of forms the threads of a run can draw.
use Rattle.std.proofs.Common.{◌≡◌, refl, sym, ◌∙◌, ap, ℕ, zero, suc, ◌*◌, ◌<◌, ◌≤◌, Bool, true, ◌||◌, List, [], ◌∷◌, ◌++◌, length, get_or}
use Rattle.std.proofs.Common.{⊎_elim, Some, arith}
use Rattle.std.specs.Prelude.{Contains, slice_get, sum_by}
use Rattle.std.specs.List.{flat_map, list_any, range_with_len}
use Rattle.std.proofs.lemmas.Bool.{or_cases, or_left, or_right}
use Rattle.std.proofs.lemmas.List.Concat.{length-flat_map}
use Rattle.std.proofs.lemmas.List.Folds.{list_any-append}
use Rattle.std.proofs.lemmas.List.Sums.{sum_by-le}
use Rattle.std.proofs.lemmas.Option.{slice_get-get_or}
use Rattle.mh_edit.specs.declared.key.Key.{Key}
use Rattle.mh_handle.specs.Passes.{PassView}
use Rattle.mh_handle.specs.Recipe.{recipe}
use Rattle.mh_handle.specs.SameRecipes.{same_recipe}
use Rattle.mh_handle.specs.Form.{most_forms}
use Rattle.mh_jobs.specs.Given.{Found, Given, under}
use Rattle.mh_link.specs.Sites.{edits_at, with_serials}
use Rattle.mh_attempt.proofs.asked.RecipeCounts.{count-within}
use Rattle.mh_attempt.proofs.asked.RecipeSets.{AreAmong, among-first, among-last, both-among}
use Rattle.mh_report.specs.declared.attempt.Attempt.{Attempt}
use Rattle.mh_plan.specs.declared.call.Call.{Call}
use Rattle.mh_report.specs.Forms.{all_edits, attempt_edits, const_tables, draws_needed, forms_needed, named_edits, plan_edits, thread_edits}
use Rattle.mh_plan.specs.Naming.{Naming, naming_of, pairs_named}
use Rattle.mh_runtime.specs.Asking.{run_edits}
use Rattle.mh_runtime.specs.Joined.{AreFormsJoined, AreJoined, AreUsed, HaveDrawnFew, ThreadPasses}
use Rattle.mh_runtime.specs.Ledger.{IsReached}
use Rattle.mh_runtime.specs.Passes.{LinkPass}
use Rattle.mh_runtime.proofs.ledger.Numbers.{number-within, serial-within}
use Rattle.mh_runtime.proofs.ledger.Owners.{IsThread, attempts_in, reached, thread-of}
use Rattle.mh_runtime.proofs.ledger.Parts.{part-in}
use Rattle.mh_runtime.proofs.ledger.Places.{in-range, place-contains}
use Rattle.mh_runtime.proofs.constants.SerialTables.{IsAmongTables}

-- ---- lists of lists

module _ {X R : Type 0} (p : R → Bool) (f : X → List R) where
  pub in-flat : (xs : List X) (x : X) → Contains xs x → list_any p (f x) ≡ true → list_any p (flat_map f xs) ≡ true
  in-flat [] x h there = absurd (omega (arith, h.1))
  in-flat (y ∷ xs) x h there = list_any-append p (f y) (flat_map f xs) ∙ cases h.0 h.1 h.2 (λ rest. in-flat xs x rest there)
    where
      cases : (k : ℕ) → k < length (y ∷ xs) → get_or (y ∷ xs) k x ≡ x → (Contains xs x → list_any p (flat_map f xs) ≡ true) →
          (list_any p (f y) || list_any p (flat_map f xs)) ≡ true
      cases zero within same rest = or_left (list_any p (f y)) (list_any p (flat_map f xs)) (ap (λ z. list_any p (f z)) same ∙ there)
      cases (suc k) within same rest = or_right (list_any p (f y)) (list_any p (flat_map f xs)) (rest (k, omega (arith, within), same))

  pub of-flat : (xs : List X) → list_any p (flat_map f xs) ≡ true → (x : X) × Contains xs x × (list_any p (f x) ≡ true)
  of-flat [] there = cc
  of-flat (y ∷ xs) there = ⊎_elim
      (λ (here : list_any p (f y) ≡ true). (y, (0, omega arith, refl), here))
      (λ (rest : list_any p (flat_map f xs) ≡ true).
      let found = of-flat xs rest in (found.0, (suc found.1.0, omega (arith, found.1.1), found.1.2), found.2))
      (or_cases (list_any p (f y)) (list_any p (flat_map f xs)) (sym (list_any-append p (f y) (flat_map f xs)) ∙ there))

-- ---- what attempts give rise to

-- attempts of sites that are named, with serials up to a number, make no more than all attempts of those sites with such serials
pub among-named : {R : Type 0} (p : R → Bool) (edits : ℕ → ℕ → List R) (naming : Naming) (attempts : List Attempt) (most : ℕ) →
    ((a : Attempt) → Contains attempts a → IsReached naming a × (1 ≤ a.serial) × (a.serial ≤ most)) →
    list_any p (flat_map (λ (a : Attempt). edits a.site a.serial) attempts) ≡ true →
    list_any p (flat_map (λ sites. flat_map (λ site. flat_map (λ serial. edits site serial) (range_with_len 1 most)) sites) naming) ≡ true
among-named p edits naming attempts most named there =
    let found = of-flat p (λ (a : Attempt). edits a.site a.serial) attempts there in
    let a : Attempt = found.0 in
    let is = named a found.1 in
    in-flat p (λ sites. flat_map (λ site. flat_map (λ serial. edits site serial) (range_with_len 1 most)) sites) naming is.0.0
    (place-contains naming a.thread is.0.0 is.0.1)
    (in-flat p (λ site. flat_map (λ serial. edits site serial) (range_with_len 1 most)) is.0.0 a.site is.0.2
    (in-flat p (λ serial. edits a.site serial) (range_with_len 1 most) a.serial (in-range most a.serial is.1 is.2) found.2))

-- attempts make no more by another table by which each makes as much
pub made-same : {R : Type 0} (p : R → Bool) (edits others : ℕ → ℕ → List R) (attempts : List Attempt) →
    ((site serial : ℕ) → list_any p (edits site serial) ≡ true → list_any p (others site serial) ≡ true) →
    list_any p (flat_map (λ (a : Attempt). edits a.site a.serial) attempts) ≡ true →
    list_any p (flat_map (λ (a : Attempt). others a.site a.serial) attempts) ≡ true
made-same p edits others attempts each there =
    let found = of-flat p (λ (a : Attempt). edits a.site a.serial) attempts there in
    in-flat p (λ (a : Attempt). others a.site a.serial) attempts found.0 found.1 (each found.0.site found.0.serial found.2)

-- ---- the recipes of a thread

module _ (given : Given) (values : Found) (threads : List (List Call)) (all : List ThreadPasses) (used : AreUsed given threads all) (joined : LinkPass)
    (is_joined : AreJoined all joined) (tables : IsAmongTables given (length threads) values) where
  -- where constants are what they are by the serials of the run
  abbrev g : Given
  g = under values given

  module _ (before : List (List Key)) (among : AreAmong before (all_edits given threads)) where
    -- all that a thread makes is among what a run can make, if what was asked for before is
    pub thread-among : (thread : ℕ) (passes : ThreadPasses) (is : IsThread given threads all thread passes) →
        AreAmong (run_edits g passes.links.attempts (before ++ thread_edits given.leaves is.calls)) (all_edits given threads)
    thread-among thread passes is =
        let calls : List (List Key) = plan_edits given.leaves threads in
        let sites : List (List Key) = flat_map (λ table. named_edits (with_serials table given) threads) (const_tables given (length threads)) in
        let by_table : Given = with_serials tables.table given in
        both-among (flat_map (attempt_edits g) passes.links.attempts) (before ++ thread_edits given.leaves is.calls) (all_edits given threads)
        (λ q there. among-last calls sites q
        (in-flat (same_recipe q) (λ table. named_edits (with_serials table given) threads) (const_tables given (length threads)) tables.table tables.listed
        (among-named (same_recipe q) (λ site serial. edits_at (recipe given.leaves) by_table site serial) (naming_of threads) passes.links.attempts
        (pairs_named threads) (λ a h.
        let whole : Contains (attempts_in all) a = part-in (λ (p : ThreadPasses). p.links.attempts) all thread passes a is.at h in
        let within = serial-within given threads all used joined is_joined a whole in
        (reached given threads all used a whole, within.0, within.1))
        (made-same (same_recipe q) (λ site serial. edits_at (recipe given.leaves) g site serial)
        (λ site serial. edits_at (recipe given.leaves) by_table site serial) passes.links.attempts (tables.edits q) there))))
        (both-among before (thread_edits given.leaves is.calls) (all_edits given threads) among
        (λ q there. among-first calls sites q
        (in-flat (same_recipe q) (λ cs. thread_edits given.leaves cs) threads is.calls (place-contains threads thread is.calls is.named) there)))

    -- so it draws at most one number for each form that the run can need
    pub draws-few : HaveDrawnFew g before threads all → (thread : ℕ) (passes : ThreadPasses) → slice_get all thread ≡ Some passes →
        length passes.forms.seat.numbers ≤ forms_needed given threads
    draws-few drawn thread passes at =
        let is = thread-of given threads all used thread passes at in
        let few = (drawn thread is.calls passes is.named at).1.few in
        omega (
          arith,
          few,
          count-within
              (run_edits g passes.links.attempts (before ++ thread_edits given.leaves is.calls)) (all_edits given threads) (thread-among thread passes is),
        )

    -- a number that was drawn is at most the number of those that all threads can draw
    pub full : HaveDrawnFew g before threads all → (forms : PassView) (drawn : ℕ) → AreFormsJoined all forms → Contains forms.seat.numbers drawn →
        most_forms < drawn → most_forms < draws_needed given threads
    full few_each forms drawn are_joined there over =
        let within = number-within forms.seat.numbers drawn are_joined.each_once there in
        let whole : length forms.seat.numbers ≡ sum_by (λ (p : ThreadPasses). length p.forms.seat.numbers) all =
        ap length are_joined.numbers ∙ length-flat_map (λ (p : ThreadPasses). p.forms.seat.numbers) all in
        let few : sum_by (λ (p : ThreadPasses). length p.forms.seat.numbers) all ≤ length all * forms_needed given threads =
        sum_by-le (λ (p : ThreadPasses). length p.forms.seat.numbers) (forms_needed given threads) all
        (λ k d within. draws-few few_each k (get_or all k d) (slice_get-get_or all k d within)) in
        let threads_are : length all * forms_needed given threads ≡ draws_needed given threads = ap (λ n. n * forms_needed given threads) used.count in
        omega (arith, over, within.1, whole, few, threads_are)
