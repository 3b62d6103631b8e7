-- What a run reports, by the pass that the passes of its threads were split off: the first one, or the one that workers have left.
use Rattle.std.proofs.Common.{◌≡◌, refl, sym, ◌∙◌, ap, ap₂, subst, ℕ, zero, suc, ◌+◌, ◌*◌, ◌<◌, ◌≤◌, Bool, true, List, [], ◌++◌, append-nil}
use Rattle.std.proofs.Common.{length, length-append, map, get_or, Option, None, Some, Result, Ok, Err, IfOk, ⊎_elim, inl, inr, arith}
use Rattle.std.specs.Prelude.{Contains, IfErr, slice_get, sum_by}
use Rattle.std.specs.List.{flat_map, list_any}
use Rattle.std.proofs.lemmas.Bool.{or_cases, or_left}
use Rattle.std.proofs.lemmas.List.{length-map, length-replicate}
use Rattle.std.proofs.lemmas.List.Concat.{length-flat_map}
use Rattle.std.proofs.lemmas.List.Elements.{All-contains}
use Rattle.std.proofs.lemmas.List.Folds.{list_any-append}
use Rattle.std.proofs.lemmas.List.Sorted.{Contains-permutation}
use Rattle.std.proofs.lemmas.List.Sums.{sum_by-le}
use Rattle.std.proofs.lemmas.Option.{slice_get-get_or}
use Rattle.mh_values.specs.declared.types.MethodTy.{MethodTy}
use Rattle.mh_values.specs.Same.{is_same_method_type}
use Rattle.mh_edit.specs.declared.key.Key.{Key}
use Rattle.mh_seats.specs.Room.{limit}
use Rattle.mh_intern.specs.Held.{times_type}
use Rattle.mh_intern.specs.Views.{SeatView}
use Rattle.mh_intern.proofs.Measures.{times_type-append}
use Rattle.mh_tickets.specs.Draws.{EachOnce}
use Rattle.mh_handle.specs.Form.{most_forms}
use Rattle.mh_handle.specs.Passes.{PassView}
use Rattle.mh_handle.specs.SameRecipes.{same_recipe}
use Rattle.mh_condy.specs.Nodes.{serials_in}
use Rattle.mh_condy.specs.Passes.{TableView}
use Rattle.mh_jobs.specs.Given.{Found, Given}
use Rattle.mh_link.specs.Named.{AreConstJobs, run_of}
use Rattle.mh_link.specs.Sites.{with_serials}
use Rattle.mh_attempt.specs.declared.error.WorkError.{WorkError}
use Rattle.mh_attempt.specs.declared.error.WorkError.TheVariants.{NoMemory, FormsFull, TypesFull}
use Rattle.mh_attempt.specs.Asked.{HasAsked}
use Rattle.mh_attempt.proofs.asked.RecipeCounts.{count-within}
use Rattle.mh_attempt.proofs.asked.RecipeSets.{AreAmong, among-among, among-first, among-last, both-among, same-among}
use Rattle.mh_plan.specs.declared.call.Call.{Call}
use Rattle.mh_plan.specs.Calls.{AreCallsOf}
use Rattle.mh_plan.specs.Limits.{IsWithinLimits}
use Rattle.mh_report.specs.declared.attempt.Attempt.{Attempt}
use Rattle.mh_report.specs.Forms.{attempt_edits, const_tables, forms, plan_edits, thread_edits}
use Rattle.mh_report.specs.Prelinked.{all_sites, draws_by, draws_with, edits_with, needed_with, types_by, types_with}
use Rattle.mh_report.specs.Recorded.{recorded, row_serials, rows, serials_of, types}
use Rattle.mh_report.specs.Results.{Serials, keys_said, results_of, results_said, serial_at}
use Rattle.mh_report.specs.Types.{Overfill, plan_types, sites_types, thread_types}
use Rattle.mh_runtime.specs.declared.joining.Joined.{Joined}
use Rattle.mh_runtime.specs.declared.lane.Lane.{Lane}
use Rattle.mh_runtime.specs.declared.linker.Linker.{Linker}
use Rattle.mh_runtime.specs.declared.pass.Pass.{Pass}
use Rattle.mh_runtime.specs.declared.prelinking.Prelinked.{Prelinked}
use Rattle.mh_runtime.specs.declared.running.Linked.{Linked}
use Rattle.mh_runtime.specs.declared.stops.Stop.{Stop}
use Rattle.mh_runtime.specs.Asking.{IfFull, IfTypesFull, WasAsked, run_edits, run_types}
use Rattle.mh_runtime.specs.Bases.{base_of}
use Rattle.mh_runtime.specs.Input.{AreConstantsOf}
use Rattle.mh_runtime.specs.Joined.{ThreadPasses}
use Rattle.mh_runtime.specs.Joining.{AreAllJoined, AreJoinedSoFar, EndsAnyhow, EndsSoFar, HasRoomFor, IfDrawsKnown, IfForms, IsUnused, KnowsDraws, StopsFor, calls_of}
use Rattle.mh_runtime.specs.Joining.{ends_of, lanes_edits, lanes_types}
use Rattle.mh_runtime.specs.Keys.{plan_keys}
use Rattle.mh_runtime.specs.Lanes.{passes_of}
use Rattle.mh_runtime.specs.Ledger.{PrelinkedLedger}
use Rattle.mh_runtime.specs.Linkers.{IsOf}
use Rattle.mh_runtime.specs.Passes.{IsRecorded, LinkPass, split_room}
use Rattle.mh_runtime.specs.Prelinked.{IsPrelinked, KnowsOwnDraws, stops_of, workers_edits, workers_types}
use Rattle.mh_runtime.specs.Report.{ConstLedgerBy, IsLinkedRun, IsSettled, ReportsJoined, SaysOf, StopsJoined, TellsRun}
use Rattle.mh_runtime.specs.Runs.{HasStoppedOn, IsBaseBy, IsRunOn, IsStopOn}
use Rattle.mh_runtime.specs.RunStops.{HasWorked, HaveMade, IsBaseWith, IsNew, IsStopBy, IsStopOfThreads}
use Rattle.mh_runtime.specs.Stops.{error_of, outside}
use Rattle.mh_runtime.specs.Values.{Agrees}
use Rattle.mh_runtime.specs.Workers.{Worker, first_of}
use Rattle.mh_runtime.proofs.constants.Agreeing.{agrees-before}
use Rattle.mh_runtime.proofs.constants.ConstantLedger.{AreOrderedBy, constant-ledger}
use Rattle.mh_runtime.proofs.forms.Counted.{asked-count, count-same, flat-among}
use Rattle.mh_runtime.proofs.lanes.ForkedLanes.{all-calls}
use Rattle.mh_runtime.proofs.types.FullBuckets.{no-slot-overfills}
use Rattle.mh_runtime.proofs.types.HeldTypes.{held-types}
use Rattle.mh_runtime.proofs.constants.JoinedValues.{rows-known, rows-serials}
use Rattle.mh_runtime.proofs.reports.LowestStops.{reported-lowest}
use Rattle.mh_runtime.proofs.constants.MadeConstants.{AreMade}
use Rattle.mh_runtime.proofs.forms.Needed.{in-flat, of-flat}
use Rattle.mh_runtime.proofs.ledger.Numbers.{number-within}
use Rattle.mh_runtime.proofs.ledger.Owners.{thread-of}
use Rattle.mh_runtime.proofs.ledger.Parts.{at-map, in-part, map-at, part-in}
use Rattle.mh_runtime.proofs.ledger.Places.{place-contains}
use Rattle.mh_runtime.proofs.ledger.RecordedSites.{serials-recorded}
use Rattle.mh_runtime.proofs.types.RecordedTypes.{just-instead}
use Rattle.mh_runtime.proofs.reports.Reports.{full-run, no-slot-run, report-of, settled-agrees, settled-nodes, settled-tables, stop-run, values_in}
use Rattle.mh_runtime.proofs.types.RunTypes.{more-with}
use Rattle.mh_runtime.proofs.constants.SerialTables.{IsAmongTables}
use Rattle.mh_runtime.proofs.sites.ThreadSteps.{serials-self}
use Rattle.mh_runtime.proofs.workers.TakenSites.{all-known}
use Rattle.mh_runtime.proofs.types.TypeLists.{any-turned, counted-any, is_one}
use Rattle.mh_runtime.proofs.lanes.WholeJoin.{room-unused}
use Rattle.mh_runtime.proofs.workers.WorkerStops.{workers-stop}
use Rattle.mh_runtime.proofs.workers.WorkersConstants.{joined-made, links, workers-made, workers-ordered}
use Rattle.mh_runtime.proofs.workers.WorkersLedger.{attempts-same, from-ordered, prelinked-ledger, thread-made-none}
use Rattle.mh_runtime.proofs.workers.WorkersNeeded.{forms-once, forms-whole, types-whole, worker-types-among, workers-among, workers-few, workers-full, workers-no-slot}

-- the constants that the jobs of constants have are named
pub named-of : (given : Given) → AreConstantsOf given → AreConstJobs (run_of given)
named-of given are c job at = (are.are.each c job at).names

-- ---- a run over what workers have left

module _ {J : Type 0} (given : Given) (linker : Linker J) (table : TableView) (named : AreConstJobs (run_of given)) (plan : List (List Call)) (workers : ℕ)
    (base : Pass J) (is : IsPrelinked given linker table (length plan) workers (record { pass = base; stop = None }))
    (can : AreCallsOf given.leaves given.jobs plan) (joined : Joined J) (all : AreAllJoined given base plan joined)
    (settled : IsSettled given joined.pass.links) (some_workers : 1 ≤ workers) where
  abbrev state : Prelinked J
  state = record { pass = base; stop = None }

  abbrev lanes : List (Lane J)
  lanes = all.1

  calls_are : calls_of lanes ≡ plan
  calls_are = all-calls given base plan all.0 lanes joined all.2 all.3

  so_far : AreJoinedSoFar given base (length lanes) lanes joined
  so_far = subst (λ n. AreJoinedSoFar given base n lanes joined) (sym all.3) all.2.so_far

  -- where constants are what they are by the serials of the run
  abbrev values : Found
  values = values_in given joined.pass.links

  abbrev g : Given
  g = with_serials (serials_in joined.pass.links.constants.known) given

  agrees : Agrees values joined.pass.links
  agrees = settled-agrees given joined.pass.links named settled

  -- so it is for what the workers have left
  agrees-base : Agrees values base.links
  agrees-base = agrees-before values base.links joined.pass.links so_far.constants.learnt so_far.linkages_kept agrees

  made : AreMade given (first_of given linker table).links (links given linker table plan workers state is) joined.pass.links.constants
  made = joined-made given linker table plan workers base is can lanes joined calls_are so_far

  tables : IsAmongTables given workers values
  tables =
      settled-tables given joined.pass.links (first_of given linker table).links (links given linker table plan workers state is) workers named settled made
      (length-map is.all (λ (w : Worker J). w.pass.links) ∙ is.count) some_workers

  -- what is known of the workers, none of which has stopped
  known : KnowsOwnDraws g workers is.all base.forms
  known = is.gathered.draws values agrees-base

  base-asked : HasAsked (workers_edits g is.all) base.forms
  base-asked = is.gathered.ends_at values agrees-base

  lane-none : (i : ℕ) (lane : Lane J) → slice_get lanes i ≡ Some lane → lane.pass.links.attempts ≡ []
  lane-none i lane at =
      thread-made-none given linker table plan workers base is can lanes joined calls_are so_far i (passes_of lane) (at-map passes_of lanes i lane at)

  -- ---- types

  holds-whole : joined.pass.types.room + length joined.pass.types.holds ≡ limit
  holds-whole =
      let whole = types-whole given linker table plan workers state is in let room = so_far.types_room in omega (arith, whole, room)

  all-asked : WasAsked (workers_types g is.all ++ lanes_types g lanes) joined.pass.types
  all-asked t none =
      let both = times_type-append t (workers_types g is.all) (lanes_types g lanes) in
      let before = is.gathered.types_asked values agrees-base t (omega (arith, none, both)) in
      so_far.types_asked values agrees t (omega (arith, none, both, before, times_type-append t base.types.asked (lanes_types g lanes)))

  -- the types that attempts to link any site can ask for
  abbrev rest_types : List MethodTy
  rest_types = flat_map (λ t. sites_types (with_serials t given) (length given.jobs) (all_sites given)) (const_tables given workers)

  lane-types-among : (p : MethodTy → Bool) → list_any p (lanes_types g lanes) ≡ true → list_any p (types_with given workers plan) ≡ true
  lane-types-among p there =
      let found = of-flat p (λ (lane : Lane J). run_types g lane.pass.links.attempts (thread_types given.leaves lane.calls.now)) lanes there in
      let lane : Lane J = found.0 in
      let at : slice_get lanes found.1.0 ≡ Some lane = slice_get-get_or lanes found.1.0 lane found.1.1 ∙ ap Some found.1.2 in
      let own : list_any p (thread_types given.leaves lane.calls.now) ≡ true =
      sym (ap (λ (made : List Attempt). list_any p (run_types g made (thread_types given.leaves lane.calls.now))) (lane-none found.1.0 lane at))
      ∙ found.2 in
      list_any-append p (plan_types given.leaves plan) rest_types
      ∙ or_left (list_any p (plan_types given.leaves plan)) (list_any p rest_types)
      (in-flat p (λ calls. thread_types given.leaves calls) plan lane.calls.now
      (subst (λ threads. Contains threads lane.calls.now) calls_are
      (place-contains (calls_of lanes) found.1.0 lane.calls.now (at-map (λ (l : Lane J). l.calls.now) lanes found.1.0 lane at))) own)

  types-among : (t : MethodTy) → 0 < times_type t joined.pass.types.asked → is_one (types_with given workers plan) t ≡ true
  types-among t asked =
      let p : MethodTy → Bool = λ u. is_same_method_type u t in
      sym (any-turned t (types_with given workers plan))
      ∙ ⊎_elim (worker-types-among given linker table plan workers state is values tables p) (lane-types-among p)
      (or_cases (list_any p (workers_types g is.all)) (list_any p (lanes_types g lanes))
      (sym (list_any-append p (workers_types g is.all) (lanes_types g lanes))
      ∙ counted-any p (workers_types g is.all ++ lanes_types g lanes)
      (more-with (times_type t (workers_types g is.all ++ lanes_types g lanes)) (times_type t joined.pass.types.asked) (all-asked t) asked)))

  -- ---- forms

  -- what a thread asks for is among what the run can ask for
  thread-among : (thread : ℕ) (calls : List Call) (p : ThreadPasses) → slice_get (calls_of lanes) thread ≡ Some calls →
      slice_get (map passes_of lanes) thread ≡ Some p →
      AreAmong (run_edits g p.links.attempts (workers_edits g is.all ++ thread_edits given.leaves calls)) (edits_with given workers plan)
  thread-among thread calls p named at =
      let asked : List (List Key) = workers_edits g is.all ++ thread_edits given.leaves calls in
      let own : AreAmong (thread_edits given.leaves calls) (edits_with given workers plan) =
      λ q there. among-first (plan_edits given.leaves plan) _ q
      (in-flat (same_recipe q) (λ cs. thread_edits given.leaves cs) plan calls
      (place-contains plan thread calls (subst (λ threads. slice_get threads thread ≡ Some calls) calls_are named)) there) in
      among-among (run_edits g p.links.attempts asked) asked (edits_with given workers plan)
      (same-among _ _ (ap (λ (made : List Attempt). run_edits g made asked)
      (thread-made-none given linker table plan workers base is can lanes joined calls_are so_far thread p at)))
      (both-among (workers_edits g is.all) (thread_edits given.leaves calls) (edits_with given workers plan)
      (workers-among given linker table plan workers state is values tables) own)

  threads-few : KnowsDraws g (workers_edits g is.all) base.forms (length lanes) lanes joined →
      sum_by (λ (p : ThreadPasses). length p.forms.seat.numbers) (map passes_of lanes) ≤ length (map passes_of lanes) * needed_with given workers plan
  threads-few drawn =
      sum_by-le (λ (p : ThreadPasses). length p.forms.seat.numbers) (needed_with given workers plan) (map passes_of lanes)
      (λ k d within. one k (get_or (map passes_of lanes) k d) (slice_get-get_or (map passes_of lanes) k d within))
    where
      one : (k : ℕ) (p : ThreadPasses) → slice_get (map passes_of lanes) k ≡ Some p → length p.forms.seat.numbers ≤ needed_with given workers plan
      one k p at =
          let of = thread-of given (calls_of lanes) (map passes_of lanes) so_far.used k p at in
          let few = (drawn.few k of.calls p of.named at).1.few in
          omega (
            arith,
            few,
            count-within
                (run_edits g p.links.attempts (workers_edits g is.all ++ thread_edits given.leaves of.calls)) (edits_with given workers plan)
                (thread-among k of.calls p of.named at),
          )

  numbers-few : KnowsDraws g (workers_edits g is.all) base.forms (length lanes) lanes joined →
      length joined.pass.forms.seat.numbers ≤ draws_with given workers plan
  numbers-few drawn =
      let more : List ℕ = flat_map (λ (p : ThreadPasses). p.forms.seat.numbers) (map passes_of lanes) in
      let whole : length joined.pass.forms.seat.numbers ≡ length base.forms.seat.numbers + length more =
      ap length so_far.forms_numbers ∙ length-append base.forms.seat.numbers more in
      let count : length (map passes_of lanes) * needed_with given workers plan ≡ length plan * needed_with given workers plan =
      ap (λ n. n * needed_with given workers plan) (length-map lanes passes_of ∙ all.3) in
      omega (
        arith,
        whole,
        count,
        length-flat_map (λ (p : ThreadPasses). p.forms.seat.numbers) (map passes_of lanes),
        threads-few drawn,
        workers-few given linker table plan workers state is values tables known,
      )

  numbers-once : KnowsDraws g (workers_edits g is.all) base.forms (length lanes) lanes joined → EachOnce joined.pass.forms.seat.numbers
  numbers-once drawn =
      so_far.forms_known (forms-once given linker table plan workers state is values known)
      (let whole = forms-whole given linker table plan workers state is values known in let room = drawn.room in omega (arith, whole, room))

  -- ---- where a thread has stopped

  module _ (stop : Stop) (some : joined.stop ≡ Some stop) where
    stops-for : StopsFor joined stop.error
    stops-for = subst (EndsAnyhow given base lanes joined) some so_far.ends

    on-stop : IsBaseWith workers given (base_of base) → IsStopOfThreads given workers plan stop
    on-stop base_is = record {
      base = base_of base;
      base_is = base_is;
      ends = ends_of lanes;
      made = subst (λ threads. HaveMade given (base_of base) threads (ends_of lanes)) calls_are all.2.made;
      reported = reported-lowest (ends_of lanes) stop (sym so_far.stop_is ∙ some);
    }

    on-full : (drawn : ℕ) → stop.error ≡ FormsFull drawn → most_forms < draws_with given workers plan
    on-full drawn same =
        let over = subst (StopsFor joined) same stops-for in
        let asked : List (List Key) = workers_edits g is.all in
        let draws : KnowsDraws g asked base.forms (length lanes) lanes joined =
        subst (λ e. IfForms e (KnowsDraws g asked base.forms (length lanes) lanes joined)) same
        (subst (λ reported. IfDrawsKnown reported (KnowsDraws g asked base.forms (length lanes) lanes joined)) some
        (so_far.draws values agrees asked base-asked)) in
        let within = number-within joined.pass.forms.seat.numbers drawn (numbers-once draws) over.1 in
        let few = numbers-few draws in
        omega (arith, over.0, within.1, few)

    on-no-slot : (bucket : ℕ) → stop.error ≡ TypesFull bucket → Overfill bucket (types_with given workers plan)
    on-no-slot bucket same =
        let reported = subst (StopsFor joined) same stops-for in
        no-slot-overfills bucket joined.pass.types (types_with given workers plan) holds-whole reported.1 reported.0 types-among

  -- ---- where none has

  module _ (run : Linked) (none : joined.stop ≡ None) (tells : TellsRun given joined run) where
    ends : EndsSoFar g base.forms lanes joined None
    ends = subst (EndsSoFar g base.forms lanes joined) none (so_far.ends_at values agrees)

    table_is : run.table ≡ recorded g joined.pass.links.linked
    table_is = tells.table values agrees

    serials : joined.pass.links.linked ≡ serials_of run.table
    serials = sym (ap serials_of table_is ∙ serials-recorded g joined.pass.links.linked)

    to-run : (a : Attempt) → Contains joined.pass.links.attempts a → Contains run.attempts a
    to-run a h = Contains-permutation joined.pass.links.attempts run.attempts a tells.same h

    abbrev all_asked : List (List Key)
    all_asked = workers_edits g is.all ++ lanes_edits g lanes

    abbrev all_made : List (List Key)
    all_made = flat_map (attempt_edits g) run.attempts ++ plan_edits given.leaves plan

    workers-to : AreAmong (workers_edits g is.all) all_made
    workers-to q there =
        let found = of-flat (same_recipe q) (λ (w : Worker J). run_edits g w.pass.links.attempts []) is.all there in
        let w : Worker J = found.0 in
        let at : slice_get is.all found.1.0 ≡ Some w = slice_get-get_or is.all found.1.0 w found.1.1 ∙ ap Some found.1.2 in
        among-first (flat_map (attempt_edits g) run.attempts) (plan_edits given.leaves plan) q
        (flat-among (attempt_edits g) w.pass.links.attempts run.attempts (λ a h.
        to-run a (subst (λ made. Contains made a) (sym (attempts-same given linker table plan workers base is can lanes joined calls_are so_far))
        (subst (λ made. Contains made a) (sym is.gathered.attempts) (part-in (λ (x : Worker J). x.pass.links.attempts) is.all found.1.0 w a at h)))) q
        (same-among _ _ (append-nil (flat_map (attempt_edits g) w.pass.links.attempts)) q found.2))

    lanes-to : AreAmong (lanes_edits g lanes) all_made
    lanes-to q there =
        let found = of-flat (same_recipe q) (λ (l : Lane J). run_edits g l.pass.links.attempts (thread_edits given.leaves l.calls.now)) lanes there in
        let lane : Lane J = found.0 in
        let at : slice_get lanes found.1.0 ≡ Some lane = slice_get-get_or lanes found.1.0 lane found.1.1 ∙ ap Some found.1.2 in
        let own = same-among _ _ (ap (λ (made : List Attempt). run_edits g made (thread_edits given.leaves lane.calls.now)) (lane-none found.1.0 lane at)) q
        found.2 in
        among-last (flat_map (attempt_edits g) run.attempts) (plan_edits given.leaves plan) q
        (in-flat (same_recipe q) (λ calls. thread_edits given.leaves calls) plan lane.calls.now
        (subst (λ threads. Contains threads lane.calls.now) calls_are
        (place-contains (calls_of lanes) found.1.0 lane.calls.now (at-map (λ (l : Lane J). l.calls.now) lanes found.1.0 lane at))) own)

    attempts-from : AreAmong (flat_map (attempt_edits g) run.attempts) all_asked
    attempts-from q there =
        let found = of-flat (same_recipe q) (attempt_edits g) run.attempts there in
        let a : Attempt = found.0 in
        let made = from-ordered given linker table plan workers base is can lanes joined calls_are so_far run tells values agrees a found.1 in
        let part = in-part (λ (w : Worker J). w.pass.links.attempts) is.all a (subst (λ xs. Contains xs a) is.gathered.attempts made) in
        among-first (workers_edits g is.all) (lanes_edits g lanes) q
        (in-flat (same_recipe q) (λ (w : Worker J). run_edits g w.pass.links.attempts []) is.all part.1 (place-contains is.all part.0 part.1 part.2)
        (among-first (flat_map (attempt_edits g) part.1.pass.links.attempts) [] q
        (in-flat (same_recipe q) (attempt_edits g) part.1.pass.links.attempts a part.3 found.2)))

    plan-from : AreAmong (plan_edits given.leaves plan) all_asked
    plan-from q there =
        let found = of-flat (same_recipe q) (λ calls. thread_edits given.leaves calls) plan there in
        let at : slice_get plan found.1.0 ≡ Some found.0 = slice_get-get_or plan found.1.0 found.0 found.1.1 ∙ ap Some found.1.2 in
        let lane = map-at (λ (l : Lane J). l.calls.now) lanes found.1.0 found.0
        (subst (λ threads. slice_get threads found.1.0 ≡ Some found.0) (sym calls_are) at) in
        among-last (workers_edits g is.all) (lanes_edits g lanes) q
        (in-flat (same_recipe q) (λ (l : Lane J). run_edits g l.pass.links.attempts (thread_edits given.leaves l.calls.now)) lanes lane.0
        (place-contains lanes found.1.0 lane.0 lane.1)
        (among-last (flat_map (attempt_edits g) lane.0.pass.links.attempts) (thread_edits given.leaves lane.0.calls.now) q
        (subst (λ calls. list_any (same_recipe q) (thread_edits given.leaves calls) ≡ true) (sym lane.2) found.2)))

    forms-are : length joined.pass.forms.asked ≡ forms g plan run.attempts
    forms-are =
        asked-count all_asked joined.pass.forms (ends.0 (workers_edits g is.all) base-asked)
        ∙ count-same all_asked all_made
        (both-among (workers_edits g is.all) (lanes_edits g lanes) all_made workers-to lanes-to)
        (both-among (flat_map (attempt_edits g) run.attempts) (plan_edits given.leaves plan) all_asked attempts-from plan-from)

    own : (site serial : ℕ) → serial_at joined.pass.links.linked site ≡ Some serial →
        (a : Attempt) × Contains joined.pass.links.recorded a × (a.serial ≡ serial) × (a.site ≡ site)
    own site serial at = let a = tells.own site serial at in (a.0, a.1, a.3, a.4)

    linked : (a : Attempt) → Contains joined.pass.links.recorded a → serial_at joined.pass.links.linked a.site ≡ Some a.serial
    linked a there = (All-contains (IsRecorded joined.pass.links.linked joined.pass.links.attempts) joined.pass.links.recorded a tells.linked_are there).1

    -- ---- constants

    row_serials_are : row_serials run.constants ≡ serials_in joined.pass.links.constants.known
    row_serials_are = ap row_serials tells.constants ∙ rows-serials joined.pass.links.constants.known

    ordered-all : AreOrderedBy given (first_of given linker table).links (links given linker table plan workers state is) run.attempts
    ordered-all =
        workers-ordered given linker table plan workers base is can lanes joined calls_are so_far run.attempts tells.same is.gathered.ends.1

    constants-of : (more : ℕ) (t : Serials) → t ≡ serials_in joined.pass.links.constants.known →
        ConstLedgerBy given (suc more) plan run.attempts t run.constant_attempts
    constants-of more t same = subst (λ (u : Serials). ConstLedgerBy given (suc more) plan run.attempts u run.constant_attempts) (sym same) (record {
      ledger = constant-ledger given named (first_of given linker table).links (links given linker table plan workers state is) joined.pass.links.constants
          made settled.is settled.put run.attempts run.constant_attempts ordered-all tells.resolving_same tells.resolving_rising;
      in_order = tt;
    })

    says : SaysOf g plan run.table run.threads run.attempts run.forms
    says = record {
      table_is = table_is ∙ ap (recorded g) serials;
      results = ap results_said tells.threads
          ∙ (ends.1 joined.pass.links.linked (serials-self joined.pass.links.linked)
          ∙ (ap (results_of g joined.pass.links.linked) calls_are ∙ ap (λ (t : Serials). results_of g t plan) serials));
      keys = ap keys_said tells.threads
          ∙ (ends.2 joined.pass.links.linked (serials-self joined.pass.links.linked)
          ∙ (ap (plan_keys g joined.pass.links.linked) calls_are ∙ ap (λ (t : Serials). plan_keys g t plan) serials));
      forms_are = tells.forms_are ∙ forms-are;
    }

    module _ (more : ℕ) (some : workers ≡ suc more) where
      prelinked-report : IsLinkedRun given (suc more) plan linker.types.now run joined.pass.types
      prelinked-report = record {
        ledger = subst (λ n. PrelinkedLedger (length plan) n (length given.jobs) (serials_of run.table) run.attempts) some
            (prelinked-ledger given linker table plan workers base is can lanes joined calls_are so_far run tells values agrees);
        constants = constants-of more (row_serials run.constants) row_serials_are;
        rows_are = tells.constants ∙ (rows-known given joined.pass.links.constants.known named (settled-nodes given joined.pass.links settled)
            ∙ ap (rows given) (sym row_serials_are));
        says = subst (λ (t : Serials). SaysOf (with_serials t given) plan run.table run.threads run.attempts run.forms) (sym row_serials_are) says;
        seat_is = so_far.types_is ∙ is.gathered.types_is;
        whole = holds-whole;
        held = held-types g joined.pass.links.recorded joined.pass.links.linked joined.pass.types.holds
            (just-instead g base.links.recorded joined.pass.links.recorded base.types joined.pass.types (is.gathered.types_held values agrees-base)
            (so_far.types_held values agrees)) own linked
            ∙ ap₂ (λ (t : Serials) (u : Serials). types (with_serials t given) u) (sym row_serials_are) serials;
      }

-- ---- by the number of workers

module _ {J : Type 0} (given : Given) (linker : Linker J) (table : TableView) (plan : List (List Call)) (can : AreCallsOf given.leaves given.jobs plan) where
  -- the base is over the linker
  pub base-of : (workers : ℕ) (base : Pass J) → linker.leaves.now ≡ given.leaves → IsBaseBy given linker table (length plan) workers base →
      IsOf given linker base
  base-of zero base leaves is = record {
    leaves = leaves;
    links = ap (λ (p : LinkPass). p.linker) is.links;
    forms = ap (λ (p : PassView). p.table) is.forms;
    types = ap (λ (s : SeatView). s.table) is.types;
  }
  base-of (suc more) base leaves is =
      record { leaves = leaves; links = is.gathered.linker_is; forms = is.gathered.table_is; types = is.gathered.types_is }

  -- and has room for the plan's threads
  pub base-room : (workers : ℕ) (base : Pass J) → IsWithinLimits plan → length given.constants ≤ split_room →
      IsBaseBy given linker table (length plan) workers base → HasRoomFor (length plan) (base_of base)
  base-room zero base limits few_constants is = room-unused given linker table base plan is limits few_constants
  base-room (suc more) base limits few_constants is =
      let few = is.few in
      let links = is.gathered.links_left in
      let constants = is.gathered.constants_left in
      let numbers = is.gathered.forms_left in
      let holds = is.gathered.types_left in
      let threads = limits.few_threads in
      let places : length base.links.constants.known ≡ length given.constants =
      is.gathered.constants.learnt.places ∙ length-replicate (length given.constants) None in
      record {
        serials = omega (arith, threads, few, links);
        constants = omega (arith, threads, few, constants);
        forms = omega (arith, threads, few, numbers);
        holds = omega (arith, threads, few, holds);
        few_constants = omega (arith, places, few_constants);
      }

  module _ (named : AreConstJobs (run_of given)) where
    pub linked-by : (workers : ℕ) (base : Pass J) (run : Linked) (seat : SeatView) → IsBaseBy given linker table (length plan) workers base →
        IsRunOn given base plan run seat → IsLinkedRun given workers plan linker.types.now run seat
    linked-by zero base run seat is on =
        subst (IsLinkedRun given zero plan linker.types.now run) (sym on.reports.seat_is)
        (report-of given linker table base is named plan on.joined on.all on.reports.tells.settled run on.reports.none on.reports.tells)
    linked-by (suc more) base run seat is on =
        subst (IsLinkedRun given (suc more) plan linker.types.now run) (sym on.reports.seat_is)
        (prelinked-report given linker table named plan (suc more) base is can on.joined on.all on.reports.tells.settled (omega arith) run on.reports.none
        on.reports.tells more refl)

    -- a thread of the plan has stopped
    stopped-by : (workers : ℕ) (base : Pass J) (stop : Stop) → IsBaseBy given linker table (length plan) workers base → HasStoppedOn given base plan stop →
        IsStopOfThreads given workers plan stop
    stopped-by zero base stop is on = stop-run given linker table base is named plan on.joined on.all on.settled stop on.some
    stopped-by (suc more) base stop is on =
        on-stop given linker table named plan (suc more) base is can on.joined on.all on.settled (omega arith) stop on.some
        (all-known given linker table (length plan) (suc more) (record { pass = base; stop = None }) is refl)

    pub stop-by : (workers : ℕ) (base : Pass J) (stop : Stop) → IsBaseBy given linker table (length plan) workers base → IsStopOn given base plan stop →
        IsStopBy given workers plan stop
    stop-by workers base stop is on = ⊎_elim
        (λ (out : stop ≡ outside). inl out)
        (λ (h : HasStoppedOn given base plan stop). inr (inl (stopped-by workers base stop is h)))
        on

    -- no number was left for a form
    full-on : (workers : ℕ) (base : Pass J) (stop : Stop) (drawn : ℕ) → IsBaseBy given linker table (length plan) workers base →
        HasStoppedOn given base plan stop → stop.error ≡ FormsFull drawn → most_forms < draws_by given workers plan
    full-on zero base stop drawn is on same =
        subst (λ e. IfFull {A = ℕ} (Err e) (most_forms < draws_by given zero plan)) same
        (full-run given linker table base is named plan on.joined on.all on.settled stop on.some ℕ)
    full-on (suc more) base stop drawn is on same =
        on-full given linker table named plan (suc more) base is can on.joined on.all on.settled (omega arith) stop on.some drawn same

    no-slot-on : (workers : ℕ) (base : Pass J) (stop : Stop) (bucket : ℕ) → IsBaseBy given linker table (length plan) workers base →
        HasStoppedOn given base plan stop → stop.error ≡ TypesFull bucket → Overfill bucket (types_by given workers plan)
    no-slot-on zero base stop bucket is on same =
        subst (λ e. IfTypesFull {A = ℕ} (Err e) (λ b. Overfill b (types_by given zero plan))) same
        (no-slot-run given linker table base is named plan on.joined on.all on.settled stop on.some ℕ)
    no-slot-on (suc more) base stop bucket is on same =
        on-no-slot given linker table named plan (suc more) base is can on.joined on.all on.settled (omega arith) stop on.some bucket same

    module _ (A : Type 0) (workers : ℕ) (base : Pass J) (stop : Stop) (is : IsBaseBy given linker table (length plan) workers base)
        (on : IsStopOn given base plan stop) where
      -- want of memory outside the threads fills no table
      not-forms : (drawn : ℕ) → stop ≡ outside → stop.error ≡ FormsFull drawn → ⊥
      not-forms drawn out same = let e : NoMemory ≡ FormsFull drawn = sym (ap (λ (s : Stop). s.error) out) ∙ same in cc e

      not-types : (bucket : ℕ) → stop ≡ outside → stop.error ≡ TypesFull bucket → ⊥
      not-types bucket out same = let e : NoMemory ≡ TypesFull bucket = sym (ap (λ (s : Stop). s.error) out) ∙ same in cc e

      pub full-by : IfFull (error_of {A = A} (Err stop)) (most_forms < draws_by given workers plan)
      full-by = by stop.error refl
        where
          by : (e : WorkError) → stop.error ≡ e → IfFull {A = A} (Err e) (most_forms < draws_by given workers plan)
          by (FormsFull drawn) same = ⊎_elim (λ (out : stop ≡ outside). absurd (not-forms drawn out same)) (λ (h : HasStoppedOn given base plan stop).
              full-on workers base stop drawn is h same) on
          by (TypesFull bucket) same = tt
          by NoMemory same = tt

      pub no-slot-by : IfTypesFull (error_of {A = A} (Err stop)) (λ bucket. Overfill bucket (types_by given workers plan))
      no-slot-by = by stop.error refl
        where
          by : (e : WorkError) → stop.error ≡ e → IfTypesFull {A = A} (Err e) (λ bucket. Overfill bucket (types_by given workers plan))
          by (TypesFull bucket) same = ⊎_elim (λ (out : stop ≡ outside). absurd (not-types bucket out same)) (λ (h : HasStoppedOn given base plan stop).
              no-slot-on workers base stop bucket is h same) on
          by (FormsFull drawn) same = tt
          by NoMemory same = tt

-- ---- what functions report

module _ {J E : Type 0} (given : Given) (base : Pass J) (plan : List (List Call)) (joined : Joined J) (all : AreAllJoined given base plan joined) where
  pub run-on : (r : Result (Linked × SeatView) E) → IfOk r (λ x. ReportsJoined given joined x.0 x.1) → IfOk r (λ x. IsRunOn given base plan x.0 x.1)
  run-on (Ok x) reports = record { joined = joined; all = all; reports = reports }
  run-on (Err e) reports = tt

module _ {A J : Type 0} (given : Given) (base : Pass J) (plan : List (List Call)) (joined : Joined J) (all : AreAllJoined given base plan joined) where
  pub stopped-on : (r : Result A Stop) → IfErr r (StopsJoined given joined) → IfErr r (IsStopOn given base plan)
  stopped-on (Ok x) stops = tt
  stopped-on (Err stop) stops = ⊎_elim
      (λ (out : stop ≡ outside). inl out)
      (λ (some : (joined.stop ≡ Some stop) × IsSettled given joined.pass.links).
      inr (record { joined = joined; all = all; some = some.0; settled = some.1 }))
      stops

module _ {J : Type 0} (given : Given) (linker : Linker J) (table : TableView) (plan : List (List Call)) (can : AreCallsOf given.leaves given.jobs plan)
    (named : AreConstJobs (run_of given)) (workers : ℕ) (base : Pass J) (is : IsBaseBy given linker table (length plan) workers base) where
  pub linked-reported : {E : Type 0} (r : Result (Linked × SeatView) E) → IfOk r (λ x. IsRunOn given base plan x.0 x.1) →
      IfOk r (λ x. IsLinkedRun given workers plan linker.types.now x.0 x.1)
  linked-reported (Ok x) on = linked-by given linker table plan can named workers base x.0 x.1 is on
  linked-reported (Err e) on = tt

  pub stop-reported : {A : Type 0} (r : Result A Stop) → IfErr r (IsStopOn given base plan) → IfErr r (IsStopBy given workers plan)
  stop-reported (Ok x) on = tt
  stop-reported (Err stop) on = stop-by given linker table plan can named workers base stop is on

  pub full-reported : {A : Type 0} (r : Result A Stop) → IfErr r (IsStopOn given base plan) →
      IfFull (error_of r) (most_forms < draws_by given workers plan)
  full-reported (Ok x) on = tt
  full-reported {A = A} (Err stop) on = full-by given linker table plan can named A workers base stop is on

  pub no-slot-reported : {A : Type 0} (r : Result A Stop) → IfErr r (IsStopOn given base plan) →
      IfTypesFull (error_of r) (λ bucket. Overfill bucket (types_by given workers plan))
  no-slot-reported (Ok x) on = tt
  no-slot-reported {A = A} (Err stop) on = no-slot-by given linker table plan can named A workers base stop is on

-- ---- the base

module _ {J : Type 0} (given : Given) (linker : Linker J) (table : TableView) (plan : List (List Call)) where
  -- no workers are asked for
  pub base-first : (workers : ℕ) (pass : Pass J) → workers ≡ 0 → IsUnused given linker table pass → IsBaseBy given linker table (length plan) workers pass
  base-first workers pass none unused = subst (λ n. IsBaseBy given linker table (length plan) n pass) (sym none) unused

  module _ (workers : ℕ) (state : Prelinked J) (some : 0 < workers) (is : IsPrelinked given linker table (length plan) workers state) where
    -- no worker has stopped
    pub base-prelinked : state.stop ≡ None → IsBaseBy given linker table (length plan) workers state.pass
    base-prelinked none =
        by workers some (subst (λ stop. IsPrelinked given linker table (length plan) workers (record { pass = state.pass; stop = stop })) none is)
      where
        by : (n : ℕ) → 0 < n → IsPrelinked given linker table (length plan) n (record { pass = state.pass; stop = None }) →
            IsBaseBy given linker table (length plan) n state.pass
        by zero more prelinked = absurd (omega (arith, more))
        by (suc n) more prelinked = prelinked

    module _ (stop : Stop) (stopped : state.stop ≡ Some stop) where
      first-new : IsNew given (base_of (first_of given linker table))
      first-new = record { attempts = refl; linked = refl; constants = refl }

      worked : (worker : ℕ) (end : Option WorkError) → slice_get (stops_of is.all) worker ≡ Some end →
          HasWorked given (base_of (first_of given linker table)) (length plan + worker) end
      worked worker end at =
          let found = map-at (λ (w : Worker J). w.stop) is.all worker end at in
          subst (HasWorked given (base_of (first_of given linker table)) (length plan + worker)) found.2 (is.gathered.worked worker found.0 found.1)

      pub worker-stop : IsStopBy given workers plan stop
      worker-stop =
          inr (inr (workers-stop (length plan) given (base_of (first_of given linker table)) first-new workers (stops_of is.all) stop
          (length-map is.all (λ (w : Worker J). w.stop) ∙ is.count) worked (sym is.gathered.stop_is ∙ stopped)))

      drawn-by : (n : ℕ) → 0 < n → most_forms < draws_with given n plan → most_forms < draws_by given n plan
      drawn-by zero more full = absurd (omega (arith, more))
      drawn-by (suc n) more full = full

      slot-by : (n bucket : ℕ) → 0 < n → Overfill bucket (types_with given n plan) → Overfill bucket (types_by given n plan)
      slot-by zero bucket more over = absurd (omega (arith, more))
      slot-by (suc n) bucket more over = over

      module _ (named : AreConstJobs (run_of given)) (settled : IsSettled given state.pass.links) where
        worker-tables : IsAmongTables given workers (values_in given state.pass.links)
        worker-tables =
            settled-tables given state.pass.links (first_of given linker table).links (links given linker table plan workers state is) workers named settled
            (workers-made given linker table plan workers state is) (length-map is.all (λ (w : Worker J). w.pass.links) ∙ is.count)
            (omega (arith, some))

        worker-agrees : Agrees (values_in given state.pass.links) state.pass.links
        worker-agrees = settled-agrees given state.pass.links named settled

        pub worker-full : (A : Type 0) → IfFull (error_of {A = A} (Err stop)) (most_forms < draws_by given workers plan)
        worker-full A = by stop.error refl
          where
            by : (e : WorkError) → stop.error ≡ e → IfFull {A = A} (Err e) (most_forms < draws_by given workers plan)
            by (FormsFull drawn) same =
                drawn-by workers some
                (workers-full given linker table plan workers state is (values_in given state.pass.links) worker-tables worker-agrees stop stopped drawn same)
            by (TypesFull bucket) same = tt
            by NoMemory same = tt

        pub worker-no-slot : (A : Type 0) → IfTypesFull (error_of {A = A} (Err stop)) (λ bucket. Overfill bucket (types_by given workers plan))
        worker-no-slot A = by stop.error refl
          where
            by : (e : WorkError) → stop.error ≡ e → IfTypesFull {A = A} (Err e) (λ bucket. Overfill bucket (types_by given workers plan))
            by (TypesFull bucket) same =
                slot-by workers bucket some
                (workers-no-slot given linker table plan workers state is (values_in given state.pass.links) worker-tables worker-agrees stop stopped bucket
                same)
            by (FormsFull drawn) same = tt
            by NoMemory same = tt
