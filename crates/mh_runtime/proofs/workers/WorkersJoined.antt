-- The passes of workers are split off the first pass of a run, and joined to it one after the other.
use Rattle.std.proofs.Common.{◌≡◌, refl, sym, ◌∙◌, ap, ap₂, subst, ℕ, suc, ◌+◌, ◌-◌, ◌*◌, ◌<◌, ◌≤◌, List, [], ◌∷◌, ◌++◌, append-nil, length, map}
use Rattle.std.proofs.Common.{length-append, Option, None, Some, Result, Ok, Err, IfOk, OnOk, ⊎_elim, arith}
use Rattle.std.specs.Prelude.{Contains, replicate, slice_get, slice_index_or}
use Rattle.std.specs.List.{flat_map}
use Rattle.std.proofs.lemmas.Grind.{flat_map-append}
use Rattle.std.proofs.lemmas.List.{length-map, length-replicate, map_push}
use Rattle.std.proofs.lemmas.List.Elements.{All-cons, All-nil, All-push, All-weaker, Contains-append_left, Contains-append_right}
use Rattle.std.proofs.lemmas.Option.{slice_get-get_or}
use Rattle.mh_base.proofs.Slices.{slice_get-push}
use Rattle.mh_seats.specs.Room.{limit}
use Rattle.mh_handle.specs.Passes.{PassView}
use Rattle.mh_handle.specs.Joins as form_joins
use Rattle.mh_handle.specs.Seats as forms
use Rattle.mh_intern.specs.Held.{on_type, times_type}
use Rattle.mh_intern.specs.Views as types
use Rattle.mh_tickets.specs.Draws.{EachOnce}
use Rattle.mh_tickets.specs.Seats as serials
use Rattle.mh_cells.specs.Values.{Keeps}
use Rattle.mh_condy.specs.Passes.{TableView}
use Rattle.mh_jobs.specs.Given.{Found, Given, under}
use Rattle.mh_attempt.specs.declared.error.WorkError.{WorkError}
use Rattle.mh_attempt.specs.declared.error.WorkError.TheVariants.{NoMemory, FormsFull, TypesFull}
use Rattle.mh_attempt.specs.Asked.{HasAsked, IsOver}
use Rattle.mh_plan.specs.Plan.{most_threads}
use Rattle.mh_prelink.specs.Results.{AllLinked, NoneStopped}
use Rattle.mh_prelink.specs.Steps.{Did}
use Rattle.mh_runtime.specs.declared.linker.Linker.{Linker}
use Rattle.mh_runtime.specs.declared.pass.Pass.{Pass}
use Rattle.mh_runtime.specs.declared.prelinking.Prelinked.{Prelinked}
use Rattle.mh_runtime.specs.declared.stops.Stop.{Stop}
use Rattle.mh_runtime.specs.Asking.{LacksRoom, WasAsked, run_edits, run_types}
use Rattle.mh_runtime.specs.Attempts.{AreLinked, AsksMore, HasRoomForConstants}
use Rattle.mh_runtime.specs.Bases.{base_of}
use Rattle.mh_runtime.specs.Joined.{ThreadPasses, passes_in}
use Rattle.mh_runtime.specs.Joining.{IfDrawsKnown, IsLeft, IsUnused, JoinsConstants}
use Rattle.mh_runtime.specs.Lanes.{HasResolved}
use Rattle.mh_runtime.specs.Linkers.{CanSplit, HasRoom, IsOf, JoinsPass, SplitsPass}
use Rattle.mh_runtime.specs.Linking.{types_held}
use Rattle.mh_runtime.specs.Passes.{HasSerials, LinkPass, most_sites, split_pass, split_room}
use Rattle.mh_runtime.specs.Prelinked.{AreGathered, AreGatheredOf, AreSplitOff, DrawsOwn, EndsTaken, EndsWork, HasTaken, IsPrelinked, IsRunOf, KnowsOwnDraws}
use Rattle.mh_runtime.specs.Prelinked.{StopsWork, WorkersEnd, WorkersEndAnyhow, stops_of, workers_edits, workers_types}
use Rattle.mh_runtime.specs.RunStops.{HasWorked}
use Rattle.mh_runtime.specs.Stops.{ending, stop_after, stop_at, stops_after}
use Rattle.mh_runtime.specs.Values.{Agrees}
use Rattle.mh_runtime.specs.Workers.{HasRoomOf, IsSplitFor, KnowsSite, LinksSite, Worker, first_of, most_workers}
use Rattle.mh_runtime.proofs.constants.Agreeing.{agrees-mine, agrees-theirs}
use Rattle.mh_runtime.proofs.lanes.ForkedLanes.{left-more, left-of}
use Rattle.mh_runtime.proofs.constants.JoiningConstants.{constants-push, resolved-whole, room-push}
use Rattle.mh_runtime.proofs.lanes.JoinedForms.{asked-joined}
use Rattle.mh_runtime.proofs.lanes.JoinedTypes.{no-slot-mine, no-slot-theirs, types-joined}
use Rattle.mh_runtime.proofs.constants.MadeConstants.{unresolved-few}
use Rattle.mh_runtime.proofs.types.RecordedTypes.{just-joined}
use Rattle.mh_runtime.proofs.reports.ReportedStops.{IfMemory, draws-next, reported-either, stops-push}
use Rattle.mh_runtime.proofs.sites.ThreadSteps.{serials-both}
use Rattle.mh_runtime.proofs.workers.WorkerSteps.{has-taken}
use Rattle.mh_runtime.proofs.lanes.WholeJoin.{none-asked, none-constants, none-once}

-- ---- lists with one item more

pub flat-more : {X Y : Type 0} (f : X → List Y) (xs : List X) (x : X) → flat_map f (xs ++ x ∷ []) ≡ flat_map f xs ++ f x
flat-more f xs x = flat_map-append f xs (x ∷ []) ∙ ap (λ ys. flat_map f xs ++ ys) (append-nil (f x))

-- an item that was there, or the new one
push-at : {X : Type 0} (P : ℕ → X → Type 0) (xs : List X) (y : X) → ((n : ℕ) (x : X) → slice_get xs n ≡ Some x → P n x) → P (length xs) y →
    (n : ℕ) (x : X) → slice_get (xs ++ y ∷ []) n ≡ Some x → P n x
push-at P xs y each one n x is = ⊎_elim
    (λ (old : slice_get xs n ≡ Some x). each n x old)
    (λ (last : (n ≡ length xs) × (y ≡ x)). subst (λ k. P k x) (sym last.0) (subst (P (length xs)) last.1 one))
    (slice_get-push xs y n x is)

-- ---- passes that are split off

module _ {J : Type 0} (given : Given) (linker : Linker J) (table : TableView) (first count : ℕ) where
  -- the first pass is over the linker
  first-is : linker.leaves.now ≡ given.leaves → IsOf given linker (first_of given linker table)
  first-is leaves = record { leaves = leaves; links = refl; forms = refl; types = refl }

  module _ (passes : List (Pass J)) (old : Prelinked J) (off : AreSplitOff given linker table first count passes old) where
    pub off-is : IsOf given linker old.pass
    off-is = left-of given linker (length passes) (first_of given linker table) old.pass off.left (first-is off.leaves)

    pub off-room : length passes < count → CanSplit old.pass
    off-room within =
        let few = off.few_workers in
        let s : old.pass.links.seat.room ≡ limit - split_room * length passes = ap (λ (p : LinkPass). p.seat.room) off.left.links in
        let k : old.pass.links.constants.seat.room ≡ limit - split_room * length passes = ap (λ (p : LinkPass). p.constants.seat.room) off.left.links in
        let f : old.pass.forms.seat.room ≡ limit - split_room * length passes = ap (λ (p : PassView). p.seat.room) off.left.forms in
        let t : old.pass.types.room ≡ limit - split_room * length passes = ap (λ (s : types.SeatView). s.room) off.left.types in
        record {
          serials = omega (arith, s, within, few);
          constants = omega (arith, k, within, few);
          forms = omega (arith, f, within, few);
          holds = omega (arith, t, within, few);
        }

    module _ (new : Prelinked J) (pass : Pass J) (splits : SplitsPass (first + length passes) old.pass new.pass pass) where
      split-one : IsSplitFor given linker table (first + length passes) pass
      split-one = record {
        links = splits.links ∙ ap (split_pass (first + length passes)) off.left.links;
        forms_are = splits.forms ∙ ap form_joins.split_pass off.left.forms;
        types_are = splits.types ∙ ap (λ (s : types.SeatView). types.new_seat s.table split_room) off.left.types;
      }

      -- one pass more was split off
      pub off-more : new.stop ≡ old.stop → AreSplitOff given linker table first count (passes ++ pass ∷ []) new
      off-more same = record {
        leaves = off.leaves;
        few_threads = off.few_threads;
        few_workers = off.few_workers;
        few_sites = off.few_sites;
        few_constants = off.few_constants;
        left = subst (λ n. IsLeft n (first_of given linker table) new.pass) (sym (length-append passes (pass ∷ [])))
            (left-more (first_of given linker table) (length passes) (first + length passes) old.pass new.pass pass off.left splits);
        none = same ∙ off.none;
        each = push-at (λ n p. IsSplitFor given linker table (first + n) p) passes pass off.each split-one;
      }

    -- what a split tells
    pub off-reported : {E : Type 0} (new : Prelinked J) (r : Result (Pass J) E) → IfOk r (SplitsPass (first + length passes) old.pass new.pass) →
        new.stop ≡ old.stop → IfOk r (λ pass. AreSplitOff given linker table first count (passes ++ pass ∷ []) new)
    off-reported new (Err e) splits same = tt
    off-reported new (Ok pass) splits same = off-more new pass splits same

    -- the constants of a pass that was split off are all unresolved, and it has room for them
    off-constants : (thread : ℕ) (pass : Pass J) → pass.links ≡ split_pass thread old.pass.links → HasRoomForConstants pass.links
    off-constants thread pass is =
        let known : pass.links.constants.known ≡ replicate (length given.constants) None =
        ap (λ (p : LinkPass). p.constants.known) is ∙ ap (λ (p : LinkPass). p.constants.known) off.left.links in
        let room : pass.links.constants.seat.room ≡ split_room = ap (λ (p : LinkPass). p.constants.seat.room) is in
        let count : length pass.links.constants.known ≡ length given.constants = ap length known ∙ length-replicate (length given.constants) None in
        let few = unresolved-few pass.links.constants.known in
        omega (arith, few, count, room, off.few_constants)

    pub off-ready : {E : Type 0} (thread : ℕ) (new : Pass J) (r : Result (Pass J) E) → IfOk r (IsOf given linker) → IfOk r (HasRoom 65536) →
        IfOk r (SplitsPass thread old.pass new) → IfOk r (λ pass. HasRoomOf given linker pass (length given.jobs))
    off-ready thread new (Err e) is room splits = tt
    off-ready thread new (Ok pass) is room splits =
        let few = off.few_sites in
        let serials = room.serials in
        let numbers = room.forms in
        let holds = room.holds in (
          is,
          record { serials = omega (arith, few, serials); forms = omega (arith, few, numbers); holds = omega (arith, few, holds) },
          off-constants thread pass splits.links,
        )

-- ---- workers that are joined

-- what is known of a worker's own draws
own-draws : {J : Type 0} (given : Given) (w : Worker J) (stop : Option WorkError) → EndsWork given w stop → IfMemory stop (DrawsOwn given w)
own-draws given w None ends = ends.0
own-draws given w (Some (FormsFull drawn)) ends = ends
own-draws given w (Some (TypesFull bucket)) ends = ends
own-draws given w (Some NoMemory) ends = tt

module _ {J : Type 0} (given : Given) (ws : List (Worker J)) (w : Worker J) (old new : Pass J) (adds : JoinsPass old w.pass new) where
  numbers-more : new.forms.seat.numbers ≡ old.forms.seat.numbers ++ w.pass.forms.seat.numbers
  numbers-more = ap (λ (s : forms.SeatView). s.numbers) adds.forms_seat_is

  over-old : (drawn : ℕ) → IsOver drawn old.forms → IsOver drawn new.forms
  over-old drawn over = (
    over.0,
    subst (λ s. Contains s drawn) (sym numbers-more) (Contains-append_left old.forms.seat.numbers w.pass.forms.seat.numbers drawn over.1),
  )

  over-own : (drawn : ℕ) → IsOver drawn w.pass.forms → IsOver drawn new.forms
  over-own drawn over = (
    over.0,
    subst (λ s. Contains s drawn) (sym numbers-more) (Contains-append_right old.forms.seat.numbers w.pass.forms.seat.numbers drawn over.1),
  )

  -- what is known of a lower worker's stop stays so
  still : (e : WorkError) → StopsWork old e → StopsWork new e
  still (FormsFull drawn) before = over-old drawn before
  still (TypesFull bucket) before = (no-slot-mine old.types w.pass.types new.types adds.types bucket before.0, adds.types_known)
  still NoMemory before = tt

  -- what is known of the worker's own
  own-stop : (e : WorkError) → LacksRoom {A = Unit {0}} w.pass.forms w.pass.types (Err e) → StopsWork new e
  own-stop (FormsFull drawn) lacks = over-own drawn lacks
  own-stop (TypesFull bucket) lacks = (no-slot-theirs old.types w.pass.types new.types adds.types bucket lacks, adds.types_known)
  own-stop NoMemory lacks = tt

  asked-more : HasAsked (workers_edits given ws) old.forms → HasAsked (run_edits given w.pass.links.attempts []) w.pass.forms →
      HasAsked (workers_edits given (ws ++ w ∷ [])) new.forms
  asked-more before own =
      subst (λ rs. HasAsked rs new.forms) (sym (flat-more (λ (x : Worker J). run_edits given x.pass.links.attempts []) ws w))
      (asked-joined (workers_edits given ws) (run_edits given w.pass.links.attempts []) old.forms w.pass.forms new.forms before own adds.forms)

  -- how workers end
  end-more : (before : Option Stop) (thread : ℕ) (end : Option WorkError) → EndsWork given w end → WorkersEnd given ws old before →
      WorkersEnd given (ws ++ w ∷ []) new (stop_after before (stop_at thread end))
  end-more None thread None ends before = asked-more before ends.1
  end-more None thread (Some e) ends before = tt
  end-more (Some low) thread None ends before = tt
  end-more (Some low) thread (Some f) ends before = tt

  -- and whatever values constants have
  end-anyhow : (start : LinkPass) (before : Option Stop) (thread own : ℕ) (end : Option WorkError) → w.pass.links.thread ≡ own →
      EndsTaken given (split_pass own start) w end → LacksRoom w.pass.forms w.pass.types (ending end) → WorkersEndAnyhow given start ws old before →
      WorkersEndAnyhow given start (ws ++ w ∷ []) new (stop_after before (stop_at thread end))
  end-anyhow start None thread own None is taken lacks before = (
    All-push (λ (x : Worker J). AreLinked x.pass.links.linked x.taken) ws w before.0 taken.0,
    All-push (λ (x : Worker J). AsksMore given (split_pass x.pass.links.thread start) x.pass.links) ws w before.1
        (subst (λ n. AsksMore given (split_pass n start) w.pass.links) (sym is) taken.1),
  )
  end-anyhow start None thread own (Some e) is taken lacks before = own-stop e lacks
  end-anyhow start (Some low) thread own None is taken lacks before = still low.error before
  end-anyhow start (Some low) thread own (Some f) is taken lacks before =
      reported-either (StopsWork new) low.error f low (record { thread = thread; error = f }) refl refl (still low.error before) (own-stop f lacks)

module _ {J : Type 0} (given : Given) (linker : Linker J) (table : TableView) (first count : ℕ) (ws : List (Worker J)) (w : Worker J) (old new : Prelinked J)
    (before : AreGathered given linker table first count ws old) (took : HasTaken given linker table (first + length ws) w)
    (adds : JoinsPass old.pass w.pass new.pass) where
  abbrev more : List (Worker J)
  more = ws ++ w ∷ []

  one-longer : length more ≡ length ws + 1
  one-longer = length-append ws (w ∷ [])

  -- what values agree with the joined pass agrees with what it was, and with the worker's
  was : (known : Found) → Agrees known new.pass.links → Agrees known old.pass.links
  was known agrees = agrees-mine known old.pass.links w.pass.links new.pass.links adds.links agrees

  own : (known : Found) → Agrees known new.pass.links → Agrees known w.pass.links
  own known agrees = agrees-theirs known old.pass.links w.pass.links new.pass.links adds.links agrees

  -- what is known of the numbers of forms
  draws-more : (g : Given) → KnowsOwnDraws g count ws old.pass.forms → DrawsOwn g w → KnowsOwnDraws g count more new.pass.forms
  draws-more g known own =
      let room : new.pass.forms.seat.room ≡ old.pass.forms.seat.room + w.pass.forms.seat.room =
      ap (λ (s : forms.SeatView). s.room) adds.forms_seat_is in
      let drawn : length new.pass.forms.seat.numbers ≡ length old.pass.forms.seat.numbers + length w.pass.forms.seat.numbers =
      ap (λ (s : forms.SeatView). length s.numbers) adds.forms_seat_is ∙ length-append old.pass.forms.seat.numbers w.pass.forms.seat.numbers in
      record {
        few = All-push (λ (x : Worker J). DrawsOwn g x) ws w known.few own;
        room = omega (arith, known.room, room, drawn, own.room, one-longer);
      }

  -- the constants
  constants-more : JoinsConstants (base_of (first_of given linker table)) (map (λ (x : Worker J). passes_in x.pass) more) new.pass.links.constants
  constants-more =
      subst (λ (ps : List ThreadPasses). JoinsConstants (base_of (first_of given linker table)) ps new.pass.links.constants)
      (sym (map_push (λ (x : Worker J). passes_in x.pass) ws w))
      (constants-push (base_of (first_of given linker table)) (map (λ (x : Worker J). passes_in x.pass) ws) (passes_in w.pass) old.pass.links new.pass.links
      before.constants adds.links adds.constants_seat adds.constants_known)

  pub gathered-more : new.stop ≡ stop_after old.stop (stop_at (first + length ws) w.stop) → AreGathered given linker table first count more new
  gathered-more stop =
      let links_numbers : new.pass.links.seat.numbers ≡ old.pass.links.seat.numbers ++ w.pass.links.seat.numbers =
      ap (λ (s : serials.SeatView). s.numbers) adds.links_seat in
      let links_count : length new.pass.links.seat.numbers ≡ length old.pass.links.seat.numbers + length w.pass.links.seat.numbers =
      ap length links_numbers ∙ length-append old.pass.links.seat.numbers w.pass.links.seat.numbers in
      let links_more : new.pass.links.seat.room ≡ old.pass.links.seat.room + w.pass.links.seat.room =
      ap (λ (s : serials.SeatView). s.room) adds.links_seat in
      let constants_more : new.pass.links.constants.seat.room ≡ old.pass.links.constants.seat.room + w.pass.links.constants.seat.room =
      ap (λ (s : serials.SeatView). s.room) adds.constants_seat in
      let forms_numbers : new.pass.forms.seat.numbers ≡ old.pass.forms.seat.numbers ++ w.pass.forms.seat.numbers =
      ap (λ (s : forms.SeatView). s.numbers) adds.forms_seat_is in
      let forms_more : new.pass.forms.seat.room ≡ old.pass.forms.seat.room + w.pass.forms.seat.room =
      ap (λ (s : forms.SeatView). s.room) adds.forms_seat_is in
      let types_more : new.pass.types.room ≡ w.pass.types.room + old.pass.types.room = ap (λ (s : types.SeatView). s.room) adds.types in
      let types_count : length new.pass.types.holds ≡ length w.pass.types.holds + length old.pass.types.holds =
      ap (λ (s : types.SeatView). length s.holds) adds.types ∙ length-append w.pass.types.holds old.pass.types.holds in
      record {
        linker_is = adds.linker ∙ before.linker_is;
        table_is = adds.table ∙ before.table_is;
        types_is = ap (λ (s : types.SeatView). s.table) adds.types ∙ before.types_is;
        used = push-at (λ n x. IsRunOf (first + n) x) ws w before.used (record { thread_is = took.thread_is; run = took.run });
        worked = push-at (λ n x. HasWorked given (base_of (first_of given linker table)) (first + n) x.stop) ws w before.worked took.worked;
        attempts = adds.links.attempts ∙ (ap (λ made. made ++ w.pass.links.attempts) before.attempts
            ∙ sym (flat-more (λ (x : Worker J). x.pass.links.attempts) ws w));
        numbers = links_numbers ∙ (ap (λ ns. ns ++ w.pass.links.seat.numbers) before.numbers
            ∙ sym (flat-more (λ (x : Worker J). x.pass.links.seat.numbers) ws w));
        linked = All-push (λ (x : Worker J). HasSerials x.pass.links.linked new.pass.links.linked) ws w
            (All-weaker (λ (x : Worker J). HasSerials x.pass.links.linked old.pass.links.linked)
            (λ (x : Worker J). HasSerials x.pass.links.linked new.pass.links.linked) (λ x has. serials-both _ _ _ has adds.links.mine) ws before.linked)
            adds.links.theirs;
        links_room = omega (arith, before.links_room, links_more, links_count, took.whole, one-longer);
        links_left = let left = before.links_left in omega (arith, left, links_more);
        links_known = adds.links_known;
        forms_numbers = forms_numbers ∙ (ap (λ ns. ns ++ w.pass.forms.seat.numbers) before.forms_numbers
            ∙ sym (flat-more (λ (x : Worker J). x.pass.forms.seat.numbers) ws w));
        forms_left = let left = before.forms_left in omega (arith, left, forms_more);
        forms_known = adds.forms_known;
        types_room = omega (arith, before.types_room, types_more, types_count, took.types_whole, one-longer);
        types_left = let left = before.types_left in omega (arith, left, types_more);
        linkages = All-push (λ (x : Worker J). Keeps x.pass.links.linkages new.pass.links.linkages) ws w
            (All-weaker (λ (x : Worker J). Keeps x.pass.links.linkages old.pass.links.linkages)
            (λ (x : Worker J). Keeps x.pass.links.linkages new.pass.links.linkages)
            (λ x keeps site l at. adds.links.my_linkages site l (keeps site l at)) ws before.linkages)
            adds.links.their_linkages;
        constants = constants-more;
        resolved = All-push (λ (x : Worker J). HasResolved (first_of given linker table).links x.pass.links) ws w before.resolved took.resolved;
        constants_room = subst (λ n. new.pass.links.constants.seat.room + length new.pass.links.constants.seat.numbers + split_room * count
            ≡ limit + split_room * n) (sym one-longer)
            (room-push count limit (length ws) old.pass.links.constants.seat w.pass.links.constants.seat new.pass.links.constants.seat adds.constants_seat
            (resolved-whole (first_of given linker table).links w.pass.links took.resolved) before.constants_room);
        constants_left = let left = before.constants_left in omega (arith, left, constants_more);
        types_held = λ known agrees.
            just-joined (under known given) old.pass.links.recorded w.pass.links.recorded new.pass.links.recorded old.pass.types w.pass.types new.pass.types
            (before.types_held known (was known agrees)) (took.types_held known (own known agrees)) adds.links.recorded adds.types;
        types_asked = λ known agrees.
            subst (λ ts. WasAsked ts new.pass.types) (sym (flat-more (λ (x : Worker J). run_types (under known given) x.pass.links.attempts []) ws w))
            (types-joined old.pass.types w.pass.types new.pass.types adds.types (workers_types (under known given) ws)
            (run_types (under known given) w.pass.links.attempts []) (before.types_asked known (was known agrees)) (took.types_asked known (own known agrees)));
        draws = λ known agrees.
            let g : Given = under known given in
            subst (λ reported. IfDrawsKnown reported (KnowsOwnDraws g count more new.pass.forms)) (sym stop)
            (draws-next (KnowsOwnDraws g count ws old.pass.forms) (KnowsOwnDraws g count more new.pass.forms) (DrawsOwn g w) (draws-more g)
            (first + length ws) old.stop w.stop (own-draws g w w.stop (took.ends known (own known agrees))) (before.draws known (was known agrees)));
        stop_is = stop ∙ (ap₂ (λ reported n. stop_after reported (stop_at n w.stop)) before.stop_is
            (ap (λ n. first + n) (sym (length-map ws (λ (x : Worker J). x.stop))))
            ∙ sym (ap (stops_after first None) (map_push (λ (x : Worker J). x.stop) ws w) ∙ stops-push first None (stops_of ws) w.stop));
        ends = subst (WorkersEndAnyhow given (first_of given linker table).links more new.pass) (sym stop)
            (end-anyhow given ws w old.pass new.pass adds (first_of given linker table).links old.stop (first + length ws) (first + length ws) w.stop
            took.thread_is took.taken took.lacks before.ends);
        ends_at = λ known agrees.
            subst (WorkersEnd (under known given) more new.pass) (sym stop)
            (end-more (under known given) ws w old.pass new.pass adds old.stop (first + length ws) w.stop (took.ends known (own known agrees))
            (before.ends_at known (was known agrees)));
      }

-- no worker was joined yet
module _ {J : Type 0} (given : Given) (linker : Linker J) (table : TableView) (first count : ℕ) (passes : List (Pass J)) (state : Prelinked J)
    (off : AreSplitOff given linker table first count passes state) (all : length passes ≡ count) where
  gathered-none : AreGathered {J = J} given linker table first count [] state
  gathered-none =
      let few = off.few_workers in
      let links : state.pass.links.seat.room ≡ limit - split_room * length passes = ap (λ (p : LinkPass). p.seat.room) off.left.links in
      let constants : state.pass.links.constants.seat.room ≡ limit - split_room * length passes =
      ap (λ (p : LinkPass). p.constants.seat.room) off.left.links in
      let forms_room : state.pass.forms.seat.room ≡ limit - split_room * length passes = ap (λ (p : PassView). p.seat.room) off.left.forms in
      let types_room : state.pass.types.room ≡ limit - split_room * length passes = ap (λ (s : types.SeatView). s.room) off.left.types in
      let serials_none : state.pass.links.seat.numbers ≡ [] = ap (λ (p : LinkPass). p.seat.numbers) off.left.links in
      let forms_none : state.pass.forms.seat.numbers ≡ [] = ap (λ (p : PassView). p.seat.numbers) off.left.forms in
      let holds_none : state.pass.types.holds ≡ [] = ap (λ (s : types.SeatView). s.holds) off.left.types in
      let serials_count : length state.pass.links.seat.numbers ≡ 0 = ap length serials_none in
      let constants_count : length state.pass.links.constants.seat.numbers ≡ 0 = ap (λ (p : LinkPass). length p.constants.seat.numbers) off.left.links in
      let forms_count : length state.pass.forms.seat.numbers ≡ 0 = ap length forms_none in
      let holds_count : length state.pass.types.holds ≡ 0 = ap length holds_none in
      record {
        linker_is = ap (λ (p : LinkPass). p.linker) off.left.links;
        table_is = ap (λ (p : PassView). p.table) off.left.forms;
        types_is = ap (λ (s : types.SeatView). s.table) off.left.types;
        used = λ n w is. absurd cc;
        worked = λ n w is. absurd cc;
        attempts = ap (λ (p : LinkPass). p.attempts) off.left.links;
        numbers = serials_none;
        linked = All-nil (λ (x : Worker J). HasSerials x.pass.links.linked state.pass.links.linked);
        links_room = omega (arith, links, serials_count, few, all);
        links_left = omega (arith, links, few, all);
        links_known = λ whole. subst EachOnce (sym serials_none) none-once;
        forms_numbers = forms_none;
        forms_left = omega (arith, forms_room, few, all);
        forms_known = λ whole. subst EachOnce (sym forms_none) none-once;
        types_room = omega (arith, types_room, holds_count, few, all);
        types_left = omega (arith, types_room, few, all);
        linkages = All-nil (λ (x : Worker J). Keeps x.pass.links.linkages state.pass.links.linkages);
        constants = none-constants given (first_of given linker table) (length passes) state.pass off.left;
        resolved = All-nil (λ (x : Worker J). HasResolved (first_of given linker table).links x.pass.links);
        constants_room = omega (arith, constants, constants_count, few, all);
        constants_left = omega (arith, constants, few, all);
        types_held = λ known agrees t.
            ap (λ (s : types.SeatView). on_type t s.holds) off.left.types
            ∙ sym (ap (λ (p : LinkPass). times_type t (types_held (under known given) p.recorded)) off.left.links);
        types_asked = λ known agrees t nothing. ap (λ (s : types.SeatView). times_type t s.asked) off.left.types;
        draws = λ known agrees.
            subst (λ reported. IfDrawsKnown reported (KnowsOwnDraws {J = J} (under known given) count [] state.pass.forms)) (sym off.none) (record {
              few = All-nil (λ (x : Worker J). DrawsOwn (under known given) x);
              room = omega (arith, forms_room, forms_count, few, all);
            });
        stop_is = off.none;
        ends = subst (WorkersEndAnyhow {J = J} given (first_of given linker table).links [] state.pass) (sym off.none) (
          All-nil (λ (x : Worker J). AreLinked x.pass.links.linked x.taken),
          All-nil (λ (x : Worker J). AsksMore given (split_pass x.pass.links.thread (first_of given linker table).links) x.pass.links),
        );
        ends_at = λ known agrees.
            subst (WorkersEnd {J = J} (under known given) [] state.pass) (sym off.none) (subst (HasAsked []) (sym off.left.forms) (left-asked count));
      }
    where
      left-asked : (n : ℕ) → HasAsked [] (form_joins.with_seat (forms.with_less_room (split_room * length passes) (first_of given linker table).forms.seat)
          (first_of given linker table).forms)
      left-asked n = record { once = (none-asked linker.forms.now limit).once; same = (none-asked linker.forms.now limit).same }

  pub begun : AreGatheredOf {J = J} given linker table first count passes [] state
  begun = record { leaves = off.leaves; count_is = all; each = off.each; gathered = gathered-none }

-- ---- a worker more

module _ {J : Type 0} (given : Given) (linker : Linker J) (table : TableView) (first count : ℕ) (before : List (Pass J)) (after : List (Worker J))
    (old : Prelinked J) (all : AreGatheredOf given linker table first count before after old) where
  -- the state is over the linker
  pub gathered-is : IsOf given linker old.pass
  gathered-is = record { leaves = all.leaves; links = all.gathered.linker_is; forms = all.gathered.table_is; types = all.gathered.types_is }

  module _ (w : Worker J) (within : length after < length before)
      (did : Did {P = Pass J} {E = WorkError} (LinksSite given) KnowsSite (slice_index_or before (length after) w.pass) w) where
    -- what the worker did with the pass that was split off for it
    pub next-took : HasTaken given linker table (first + length after) w
    next-took =
        has-taken given linker table w (first + length after) (slice_index_or before (length after) w.pass)
        (all.each (length after) (slice_index_or before (length after) w.pass) (slice_get-get_or before (length after) w.pass within)) did

    -- its pass is over the linker
    pub next-is : IsOf given linker w.pass
    next-is = record { leaves = all.leaves; links = next-took.linker_is; forms = next-took.table_is; types = next-took.types_is }

    -- and over the table of constants
    pub next-constants : w.pass.links.constants.table ≡ old.pass.links.constants.table
    next-constants = next-took.resolved.goes.table ∙ sym all.gathered.constants.table

    -- what its joining tells
    pub gathered-reported : {A E : Type 0} (new : Prelinked J) (r : Result A E) → OnOk r (JoinsPass old.pass w.pass new.pass) →
        OnOk r (new.stop ≡ stop_after old.stop (stop_at (first + length after) w.stop)) →
        OnOk r (AreGatheredOf given linker table first count before (after ++ w ∷ []) new)
    gathered-reported new (Err e) adds stop = tt
    gathered-reported new (Ok a) adds stop = record {
      leaves = all.leaves;
      count_is = all.count_is;
      each = all.each;
      gathered = gathered-more given linker table first count after w old new all.gathered next-took adds stop;
    }

pub on-any : {A E : Type 0} (P : Type 0) (r : Result A E) → P → OnOk r P
on-any P (Ok a) p = p
on-any P (Err e) p = tt

-- a worker that did not stop changes nothing of what is reported
pub stop-same : (reported : Option Stop) (thread : ℕ) → stop_after reported (stop_at thread None) ≡ reported
stop-same None thread = refl
stop-same (Some low) thread = refl

-- ---- all workers

none-both : (reported : Option Stop) (thread : ℕ) (end : Option WorkError) → stop_after reported (stop_at thread end) ≡ None →
    (reported ≡ None) × (end ≡ None)
none-both None thread None is = (refl, refl)
none-both None thread (Some e) is = cc is
none-both (Some low) thread None is = cc is
none-both (Some low) thread (Some e) is = cc is

none-stopped : {J : Type 0} (ws : List (Worker J)) (thread : ℕ) (reported : Option Stop) → stops_after thread reported (stops_of ws) ≡ None →
    (reported ≡ None) × NoneStopped ws
none-stopped {J} [] thread reported is = (is, All-nil (λ (w : Worker J). w.stop ≡ None))
none-stopped {J} (w ∷ ws) thread reported is =
    let rest = none-stopped ws (suc thread) (stop_after reported (stop_at thread w.stop)) is in
    let both = none-both reported thread w.stop rest.0 in
    (both.0, All-cons (λ (x : Worker J). x.stop ≡ None) w ws both.1 rest.1)

-- where none is reported, none has stopped
pub all-went-on : {J : Type 0} (given : Given) (linker : Linker J) (table : TableView) (first count : ℕ) (ws : List (Worker J)) (state : Prelinked J) →
    AreGathered given linker table first count ws state → state.stop ≡ None → NoneStopped ws
all-went-on given linker table first count ws state all none = (none-stopped ws first None (sym all.stop_is ∙ none)).1

-- all workers were joined, and each site was taken once at most
pub prelinked-of : {J : Type 0} (given : Given) (linker : Linker J) (table : TableView) (threads workers : ℕ) (before : List (Pass J)) (after : List (Worker J))
    (state : Prelinked J) → AreGatheredOf given linker table threads workers before after state → length after ≡ workers → workers ≤ most_workers →
    AllLinked {P = Pass J} {E = WorkError} (LinksSite given) KnowsSite (length given.jobs) before after →
    IsPrelinked given linker table threads workers state
prelinked-of given linker table threads workers before after state all count few linked = record {
  all = after;
  leaves = all.leaves;
  count = count;
  few = few;
  gathered = all.gathered;
  below = linked.below;
  once = linked.once;
  every = λ none site within. linked.every (all-went-on given linker table threads workers after state all.gathered none) site within;
}

-- nothing was split off the first pass yet
pub off-none : {J : Type 0} (given : Given) (linker : Linker J) (table : TableView) (threads workers : ℕ) (pass : Pass J) →
    IsUnused given linker table pass → linker.leaves.now ≡ given.leaves → threads ≤ most_threads → workers ≤ most_workers →
    length given.jobs ≤ most_sites → length given.constants ≤ split_room →
    AreSplitOff {J = J} given linker table threads workers [] (record { pass = pass; stop = None })
off-none given linker table threads workers pass unused leaves few_threads few_workers few_sites few_constants = record {
  leaves = leaves;
  few_threads = few_threads;
  few_workers = few_workers;
  few_sites = few_sites;
  few_constants = few_constants;
  left = record { links = unused.links; forms = unused.forms; types = unused.types };
  none = refl;
  each = λ w p is. absurd cc;
}
