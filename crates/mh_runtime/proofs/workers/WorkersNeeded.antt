-- How many numbers of forms, and which types, a run with workers can need.
use Rattle.std.proofs.Common.{◌≡◌, sym, ◌∙◌, ap, subst, ℕ, ◌+◌, ◌*◌, ◌<◌, ◌≤◌, Bool, true, List, [], append-nil, length, get_or, Some}
use Rattle.std.proofs.Common.{arith}
use Rattle.std.specs.Prelude.{Contains, slice_get, sum_by}
use Rattle.std.specs.List.{flat_map, list_any, range_with_len}
use Rattle.std.proofs.lemmas.Bool.{or_right}
use Rattle.std.proofs.lemmas.List.Concat.{length-flat_map}
use Rattle.std.proofs.lemmas.List.Elements.{All-get_or}
use Rattle.std.proofs.lemmas.List.FromFn.{length-range_with_len}
use Rattle.std.proofs.lemmas.List.Folds.{list_any-append}
use Rattle.std.proofs.lemmas.List.Sums.{sum_by-le}
use Rattle.std.proofs.lemmas.Nat.{mul-le}
use Rattle.std.proofs.lemmas.Option.{slice_get-get_or}
use Rattle.mh_values.specs.declared.types.MethodTy.{MethodTy}
use Rattle.mh_values.specs.Same.{is_same_method_type}
use Rattle.mh_seats.specs.Room.{limit}
use Rattle.mh_intern.specs.Held.{times_type}
use Rattle.mh_handle.specs.Form.{most_forms}
use Rattle.mh_handle.specs.Recipe.{recipe}
use Rattle.mh_handle.specs.SameRecipes.{same_recipe}
use Rattle.mh_tickets.specs.Draws.{EachOnce}
use Rattle.mh_condy.specs.Passes.{TableView}
use Rattle.mh_jobs.specs.Given.{Found, Given, under}
use Rattle.mh_link.specs.Sites.{edits_at, types_at, with_serials}
use Rattle.mh_attempt.specs.declared.error.WorkError.TheVariants.{FormsFull, TypesFull}
use Rattle.mh_attempt.proofs.asked.RecipeCounts.{count-within}
use Rattle.mh_attempt.proofs.asked.RecipeSets.{AreAmong, among-among, among-last, same-among}
use Rattle.mh_plan.specs.declared.call.Call.{Call}
use Rattle.mh_report.specs.declared.attempt.Attempt.{Attempt}
use Rattle.mh_report.specs.Forms.{attempt_edits, const_tables, plan_edits, sites_edits}
use Rattle.mh_report.specs.Prelinked.{all_sites, draws_with, edits_with, needed_with, types_with}
use Rattle.mh_report.specs.Types.{Overfill, attempt_types, plan_types, sites_types}
use Rattle.mh_runtime.specs.declared.linker.Linker.{Linker}
use Rattle.mh_runtime.specs.declared.prelinking.Prelinked.{Prelinked}
use Rattle.mh_runtime.specs.declared.stops.Stop.{Stop}
use Rattle.mh_runtime.specs.Asking.{run_edits, run_types}
use Rattle.mh_runtime.specs.Joining.{IfDrawsKnown, IfForms}
use Rattle.mh_runtime.specs.Prelinked.{DrawsOwn, IsPrelinked, KnowsOwnDraws, StopsWork, WorkersEndAnyhow, workers_edits, workers_types}
use Rattle.mh_runtime.specs.Values.{Agrees}
use Rattle.mh_runtime.specs.Workers.{Worker, first_of}
use Rattle.mh_runtime.proofs.types.FullBuckets.{no-slot-overfills}
use Rattle.mh_runtime.proofs.forms.Needed.{in-flat, made-same, of-flat}
use Rattle.mh_runtime.proofs.ledger.Numbers.{number-within}
use Rattle.mh_runtime.proofs.ledger.Parts.{part-in}
use Rattle.mh_runtime.proofs.ledger.Places.{in-range, range-from}
use Rattle.mh_runtime.proofs.types.RunTypes.{more-with}
use Rattle.mh_runtime.proofs.constants.SerialTables.{IsAmongTables}
use Rattle.mh_runtime.proofs.workers.TakenSites.{of-site, serial-few}
use Rattle.mh_runtime.proofs.types.TypeLists.{any-turned, counted-any}

-- a site is one of all
in-sites : (n site : ℕ) → site < n → Contains (range_with_len 0 n) site
in-sites n site within =
    let same : 0 + site ≡ site = omega arith in (
      site,
      omega (arith, length-range_with_len 0 n, within),
      subst (λ k. get_or (range_with_len 0 n) site k ≡ k) same (range-from 0 n site within),
    )

module _ {J : Type 0} (given : Given) (linker : Linker J) (table : TableView) (plan : List (List Call)) (workers : ℕ) (state : Prelinked J)
    (is : IsPrelinked given linker table (length plan) workers state) where
  abbrev attempts : List Attempt
  attempts = state.pass.links.attempts

  -- what attempts of the workers ask for is among what attempts of any site can ask for
  made-among : {R : Type 0} (p : R → Bool) (edits : ℕ → ℕ → List R) (made : List Attempt) → ((a : Attempt) → Contains made a → Contains attempts a) →
      list_any p (flat_map (λ (a : Attempt). edits a.site a.serial) made) ≡ true →
      list_any p (flat_map (λ site. flat_map (λ serial. edits site serial) (range_with_len 1 (length given.jobs))) (all_sites given)) ≡ true
  made-among p edits made within there =
      let found = of-flat p (λ (a : Attempt). edits a.site a.serial) made there in
      let a : Attempt = found.0 in
      let own : Contains attempts a = within a found.1 in
      let serial = serial-few given linker table (length plan) workers state is a own in
      in-flat p (λ site. flat_map (λ serial. edits site serial) (range_with_len 1 (length given.jobs))) (all_sites given) a.site
      (in-sites (length given.jobs) a.site (of-site given linker table (length plan) workers state is a own))
      (in-flat p (λ serial. edits a.site serial) (range_with_len 1 (length given.jobs)) a.serial (in-range (length given.jobs) a.serial serial.0 serial.1)
      found.2)

  -- an attempt of a worker is one of all
  own-attempts : (n : ℕ) (w : Worker J) → slice_get is.all n ≡ Some w → (a : Attempt) → Contains w.pass.links.attempts a → Contains attempts a
  own-attempts n w at a h =
      subst (λ made. Contains made a) (sym is.gathered.attempts) (part-in (λ (x : Worker J). x.pass.links.attempts) is.all n w a at h)

  pub types-whole : state.pass.types.room + length state.pass.types.holds ≡ limit
  types-whole = let room = is.gathered.types_room in let count = is.count in omega (arith, room, count)

  -- where constants are what they are by the serials of the run
  module _ (values : Found) where
    abbrev g : Given
    g = under values given

    pub forms-whole : KnowsOwnDraws g workers is.all state.pass.forms → state.pass.forms.seat.room + length state.pass.forms.seat.numbers ≡ limit
    forms-whole known = let room = known.room in let count = is.count in omega (arith, room, count)

    pub forms-once : KnowsOwnDraws g workers is.all state.pass.forms → EachOnce state.pass.forms.seat.numbers
    forms-once known = is.gathered.forms_known (let whole = forms-whole known in omega (arith, whole))

    module _ (tables : IsAmongTables given workers values) where
      abbrev by_table : Given
      by_table = with_serials tables.table given

      -- ---- forms

      pub edits-among : (made : List Attempt) → ((a : Attempt) → Contains made a → Contains attempts a) →
          AreAmong (flat_map (attempt_edits g) made) (edits_with given workers plan)
      edits-among made within q there =
          among-last (plan_edits given.leaves plan)
          (flat_map (λ t. sites_edits (with_serials t given) (length given.jobs) (all_sites given)) (const_tables given workers)) q
          (in-flat (same_recipe q) (λ t. sites_edits (with_serials t given) (length given.jobs) (all_sites given)) (const_tables given workers) tables.table
          tables.listed
          (made-among (same_recipe q) (λ site serial. edits_at (recipe given.leaves) by_table site serial) made within
          (made-same (same_recipe q) (λ site serial. edits_at (recipe given.leaves) g site serial)
          (λ site serial. edits_at (recipe given.leaves) by_table site serial) made (tables.edits q) there)))

      worker-among : (n : ℕ) (w : Worker J) → slice_get is.all n ≡ Some w → AreAmong (run_edits g w.pass.links.attempts []) (edits_with given workers plan)
      worker-among n w at =
          among-among (run_edits g w.pass.links.attempts []) (flat_map (attempt_edits g) w.pass.links.attempts) (edits_with given workers plan)
          (same-among _ _ (append-nil (flat_map (attempt_edits g) w.pass.links.attempts)))
          (edits-among w.pass.links.attempts (own-attempts n w at))

      -- so is what all workers ask for
      pub workers-among : AreAmong (workers_edits g is.all) (edits_with given workers plan)
      workers-among q there =
          let found = of-flat (same_recipe q) (λ (w : Worker J). run_edits g w.pass.links.attempts []) is.all there in
          worker-among found.1.0 found.0 (place is.all found.1.0 found.0 found.1.1 found.1.2) q found.2
        where
          place : (ws : List (Worker J)) (n : ℕ) (w : Worker J) → n < length ws → get_or ws n w ≡ w → slice_get ws n ≡ Some w
          place ws n w within same = slice_get-get_or ws n w within ∙ ap Some same

      -- how many numbers all workers have drawn
      pub workers-few : KnowsOwnDraws g workers is.all state.pass.forms → length state.pass.forms.seat.numbers ≤ workers * needed_with given workers plan
      workers-few known =
          let whole : length state.pass.forms.seat.numbers ≡ sum_by (λ (w : Worker J). length w.pass.forms.seat.numbers) is.all =
          ap length is.gathered.forms_numbers ∙ length-flat_map (λ (w : Worker J). w.pass.forms.seat.numbers) is.all in
          let few : sum_by (λ (w : Worker J). length w.pass.forms.seat.numbers) is.all ≤ length is.all * needed_with given workers plan =
          sum_by-le (λ (w : Worker J). length w.pass.forms.seat.numbers) (needed_with given workers plan) is.all (λ k d within. one k d within) in
          let count : length is.all * needed_with given workers plan ≡ workers * needed_with given workers plan =
          ap (λ n. n * needed_with given workers plan) is.count in
          omega (arith, whole, few, count)
        where
          one : (k : ℕ) (d : Worker J) → k < length is.all → length (get_or is.all k d).pass.forms.seat.numbers ≤ needed_with given workers plan
          one k d within =
              let w : Worker J = get_or is.all k d in
              let drawn : DrawsOwn g w = All-get_or (λ (x : Worker J). DrawsOwn g x) is.all k d within known.few in
              let few = drawn.few in
              omega (
                arith,
                few,
                count-within
                    (run_edits g w.pass.links.attempts []) (edits_with given workers plan) (worker-among k w (slice_get-get_or is.all k d within)),
              )

      -- ---- types

      -- what workers were asked for is among the types that the run can need
      pub worker-types-among : (p : MethodTy → Bool) → list_any p (workers_types g is.all) ≡ true → list_any p (types_with given workers plan) ≡ true
      worker-types-among p there =
          let found = of-flat p (λ (w : Worker J). run_types g w.pass.links.attempts []) is.all there in
          let w : Worker J = found.0 in
          let at : slice_get is.all found.1.0 ≡ Some w = slice_get-get_or is.all found.1.0 w found.1.1 ∙ ap Some found.1.2 in
          let own : list_any p (flat_map (attempt_types g) w.pass.links.attempts) ≡ true =
          sym (ap (list_any p) (append-nil (flat_map (attempt_types g) w.pass.links.attempts))) ∙ found.2 in
          let rest : List MethodTy =
          flat_map (λ t. sites_types (with_serials t given) (length given.jobs) (all_sites given)) (const_tables given workers) in
          list_any-append p (plan_types given.leaves plan) rest
          ∙ or_right (list_any p (plan_types given.leaves plan)) (list_any p rest)
          (in-flat p (λ t. sites_types (with_serials t given) (length given.jobs) (all_sites given)) (const_tables given workers) tables.table tables.listed
          (made-among p (λ site serial. types_at by_table site serial) w.pass.links.attempts (own-attempts found.1.0 w at)
          (made-same p (λ site serial. types_at g site serial) (λ site serial. types_at by_table site serial) w.pass.links.attempts (tables.types p) own)))

      -- ---- where a worker has stopped

      module _ (agrees : Agrees values state.pass.links) (stop : Stop) (some : state.stop ≡ Some stop) where
        stops-work : StopsWork state.pass stop.error
        stops-work = subst (WorkersEndAnyhow given (first_of given linker table).links is.all state.pass) some is.gathered.ends

        pub workers-full : (drawn : ℕ) → stop.error ≡ FormsFull drawn → most_forms < draws_with given workers plan
        workers-full drawn same =
            let over = subst (StopsWork state.pass) same stops-work in
            let known : KnowsOwnDraws g workers is.all state.pass.forms =
            subst (λ e. IfForms e (KnowsOwnDraws g workers is.all state.pass.forms)) same
            (subst (λ reported. IfDrawsKnown reported (KnowsOwnDraws g workers is.all state.pass.forms)) some (is.gathered.draws values agrees)) in
            let within = number-within state.pass.forms.seat.numbers drawn (forms-once known) over.1 in
            let few = workers-few known in
            let room = mul-le workers (needed_with given workers plan) (length plan + workers) (needed_with given workers plan) (omega arith) (omega arith) in
            omega (arith, over.0, within.1, few, room)

        pub workers-no-slot : (bucket : ℕ) → stop.error ≡ TypesFull bucket → Overfill bucket (types_with given workers plan)
        workers-no-slot bucket same =
            let reported = subst (StopsWork state.pass) same stops-work in
            no-slot-overfills bucket state.pass.types (types_with given workers plan) types-whole reported.1 reported.0 (λ t asked.
            sym (any-turned t (types_with given workers plan))
            ∙ worker-types-among (λ u. is_same_method_type u t)
            (counted-any (λ u. is_same_method_type u t) (workers_types g is.all)
            (more-with (times_type t (workers_types g is.all)) (times_type t state.pass.types.asked) (is.gathered.types_asked values agrees t) asked)))
