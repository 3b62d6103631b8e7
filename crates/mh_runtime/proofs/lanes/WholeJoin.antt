-- All lanes are joined to their base.
use Rattle.std.proofs.Common.{◌≡◌, refl, sym, ◌∙◌, ap, ap₂, subst, ℕ, zero, suc, Bool, true, false, ◌&&◌, cond, ◌+◌, ◌-◌, ◌*◌, List, [], ◌++◌, append-nil}
use Rattle.std.proofs.Common.{length, map, take, None, Some, ◌<◌, ◌≤◌, arith}
use Rattle.std.proofs.lemmas.List.{length-replicate, take_all}
use lib.Dec.{leb}
use Rattle.std.proofs.lemmas.Bool.{lt-leb}
use Rattle.std.specs.List.{IsDistinct, flat_map}
use Rattle.std.proofs.lemmas.List.Elements.{All-map, All-nil}
use Rattle.mh_edit.specs.declared.key.Key.{Key}
use Rattle.mh_handle.specs.Passes.{PassView, TableView, pass_at as forms_at}
use Rattle.mh_handle.specs.Seats as forms
use Rattle.mh_tickets.specs.Draws.{EachOnce, once_up_to}
use Rattle.mh_seats.specs.Room.{limit, times}
use Rattle.mh_intern.specs.Held.{on_type, times_type}
use Rattle.mh_intern.specs.Views.{SeatView}
use Rattle.mh_handle.specs.Form.{most_forms}
use Rattle.mh_cells.specs.Values.{Keeps}
use Rattle.mh_condy.specs.Nodes as consts
use Rattle.mh_condy.specs.Passes as consts_pass
use Rattle.mh_condy.proofs.Trails.{keeps-same}
use Rattle.mh_jobs.specs.Given.{Found, Given, under}
use Rattle.mh_attempt.specs.declared.error.WorkError.TheVariants.{FormsFull, TypesFull}
use Rattle.mh_attempt.specs.Asked.{HasAsked}
use Rattle.mh_attempt.proofs.asked.RecipeSets.{none-among}
use Rattle.mh_plan.specs.declared.call.Call.{Call}
use Rattle.mh_report.specs.Forms.{all_edits, draws_needed}
use Rattle.mh_plan.specs.Limits.{IsWithinLimits}
use Rattle.mh_report.specs.Results.{keys_said, results_said}
use Rattle.mh_report.specs.Types.{Overfill, all_types}
use Rattle.mh_runtime.specs.declared.joining.Joined.{Joined}
use Rattle.mh_runtime.specs.declared.lane.Lane.{Lane}
use Rattle.mh_runtime.specs.declared.linker.Linker.{Linker}
use Rattle.mh_runtime.specs.declared.pass.Pass.{Pass}
use Rattle.mh_runtime.specs.declared.stops.Stop.{Stop}
use Rattle.mh_runtime.specs.Asking.{WasAsked}
use Rattle.mh_runtime.specs.Bases.{base_of}
use Rattle.mh_runtime.specs.Joined.{AreFormsJoined, AreJoined, ThreadPasses}
use Rattle.mh_runtime.specs.Joining.{AreForked, AreFresh, AreJoinedSoFar, AreJoinedTo, EndsAnyhow, EndsSoFar, HasRoomFor, HaveAsked, IfDrawsKnown, IfForms}
use Rattle.mh_runtime.specs.Joining.{IsJoinedRun, IsLeft, IsUnused, JoinsConstants, KnowsDraws, StopsFor, calls_of, ends_of, lanes_types}
use Rattle.mh_runtime.specs.Lanes.{AreUnlearnt, HasResolved, passes_of}
use Rattle.mh_runtime.specs.Linking.{HoldsInstead, HoldsJust, types_held}
use Rattle.mh_runtime.specs.Passes.{HasSerials, LinkPass, split_room}
use Rattle.mh_runtime.specs.Stops.{stop_of}
use Rattle.mh_runtime.proofs.lanes.JoinedForms.{asked-edits}
use Rattle.mh_runtime.specs.Values.{Agrees}
use Rattle.mh_runtime.proofs.types.FullBuckets.{no-slot-overfills}
use Rattle.mh_runtime.proofs.constants.MadeConstants.{AreMade}
use Rattle.mh_runtime.proofs.lanes.MoreThreads.{used-under}
use Rattle.mh_runtime.proofs.forms.Needed.{full}
use Rattle.mh_runtime.proofs.types.RecordedTypes.{just-recorded}
use Rattle.mh_runtime.proofs.ledger.Numbers.{flat-map}
use Rattle.mh_runtime.proofs.types.RunTypes.{asked-needed}
use Rattle.mh_runtime.proofs.constants.SerialTables.{IsAmongTables}
use Rattle.mh_runtime.proofs.sites.ThreadSteps.{serials-self}

-- nothing is each number once
pub none-once : EachOnce []
none-once x = cases x
  where
    cases : (x : ℕ) → times x [] ≡ once_up_to 0 x
    cases zero = refl
    cases (suc x) = sym (ap (λ b. cond b 1 0) (none (leb 1 (suc x))))
      where
        none : (b : Bool) → (b && leb (suc x) 0) ≡ false
        none true = lt-leb (suc x) 0 (omega arith)
        none false = refl

pub none-asked : (table : TableView) (room : ℕ) → HasAsked [] (forms_at table (forms.new_seat table room))
unfolding IsDistinct
none-asked table room = record { once = tt; same = λ recipe. refl }

-- ---- a base of which no lane was joined yet

module _ {J : Type 0} (given : Given) (base : Pass J) where
  -- what the base has asked for was asked for
  left-asked : (count : ℕ) (pass : Pass J) → IsLeft count base pass → (before : List (List Key)) → HasAsked before base.forms →
      HasAsked (before ++ []) pass.forms
  left-asked count pass left before has =
      subst (λ rs. HasAsked rs pass.forms) (sym (append-nil before))
      (subst (HasAsked before) (sym left.forms) (record { once = has.once; same = has.same }))

  pub none-constants : (count : ℕ) (pass : Pass J) → IsLeft count base pass → JoinsConstants (base_of base) [] pass.links.constants
  none-constants count pass left = record {
    table = ap (λ (p : LinkPass). p.constants.table) left.links;
    learnt = subst (λ (p : LinkPass). consts.Keeps base.links.constants.known p.constants.known) (sym left.links) (keeps-same base.links.constants.known);
    known = All-nil (λ (p : ThreadPasses). consts.Keeps p.links.constants.known pass.links.constants.known);
    attempts = ap (λ (p : LinkPass). p.constants.attempts) left.links ∙ sym (append-nil base.links.constants.attempts);
    recorded = ap (λ (p : LinkPass). p.constants.recorded) left.links ∙ sym (append-nil base.links.constants.recorded);
    numbers = ap (λ (p : LinkPass). p.constants.seat.numbers) left.links ∙ sym (append-nil base.links.constants.seat.numbers);
    each_once = λ once all. subst EachOnce (sym (ap (λ (p : LinkPass). p.constants.seat.numbers) left.links)) once;
  }

  none-so_far : (count : ℕ) (joined : Joined J) → IsLeft count base joined.pass → HasRoomFor count (base_of base) → joined.threads ≡ [] → joined.stop ≡ None →
      AreJoinedSoFar {J = J} given base count [] joined
  none-so_far count joined left can none no_stop =
      let links = left.links in
      let forms_are = left.forms in
      let types_are = left.types in
      let drawn : length joined.pass.forms.seat.numbers ≡ length base.forms.seat.numbers = ap (λ (p : PassView). length p.seat.numbers) forms_are in
      let forms_left : joined.pass.forms.seat.room ≡ base.forms.seat.room - split_room * count = ap (λ (p : PassView). p.seat.room) forms_are in
      record {
        linker_is = ap (λ (p : LinkPass). p.linker) links;
        table_is = ap (λ (p : PassView). p.table) forms_are;
        types_is = ap (λ (s : SeatView). s.table) types_are;
        used = record { count = refl; each = λ thread calls passes is there. absurd cc };
        attempts = ap (λ (p : LinkPass). p.attempts) links ∙ sym (append-nil base.links.attempts);
        unlearnt = All-nil (λ (p : ThreadPasses). AreUnlearnt base.links p.links.attempts);
        numbers = ap (λ (p : LinkPass). p.seat.numbers) links ∙ sym (append-nil base.links.seat.numbers);
        learnt = subst (HasSerials base.links.linked) (sym (ap (λ (p : LinkPass). p.linked) links)) (serials-self base.links.linked);
        linked = All-nil (λ (p : ThreadPasses). HasSerials p.links.linked joined.pass.links.linked);
        links_room =
            let n : length joined.pass.links.seat.numbers ≡ length base.links.seat.numbers = ap (λ (p : LinkPass). length p.seat.numbers) links in
            let r : joined.pass.links.seat.room ≡ base.links.seat.room - split_room * count = ap (λ (p : LinkPass). p.seat.room) links in
            omega (arith, n, r, can.serials);
        links_known = λ once all. subst EachOnce (sym (ap (λ (p : LinkPass). p.seat.numbers) links)) once;
        forms_numbers = ap (λ (p : PassView). p.seat.numbers) forms_are ∙ sym (append-nil base.forms.seat.numbers);
        forms_known = λ once all. subst EachOnce (sym (ap (λ (p : PassView). p.seat.numbers) forms_are)) once;
        types_room =
            let n : length joined.pass.types.holds ≡ length base.types.holds = ap (λ (s : SeatView). length s.holds) types_are in
            let r : joined.pass.types.room ≡ base.types.room - split_room * count = ap (λ (s : SeatView). s.room) types_are in
            omega (arith, n, r, can.holds);
        linkages_kept = subst (λ (p : LinkPass). Keeps base.links.linkages p.linkages) (sym links) (λ site l at. at);
        linkages = All-nil (λ (p : ThreadPasses). Keeps p.links.linkages joined.pass.links.linkages);
        constants = none-constants count joined.pass left;
        resolved = All-nil (λ (p : ThreadPasses). HasResolved base.links p.links);
        constants_room =
            let n : length joined.pass.links.constants.seat.numbers ≡ length base.links.constants.seat.numbers =
            ap (λ (p : LinkPass). length p.constants.seat.numbers) links in
            let r : joined.pass.links.constants.seat.room ≡ base.links.constants.seat.room - split_room * count =
            ap (λ (p : LinkPass). p.constants.seat.room) links in
            omega (arith, n, r, can.constants);
        types_held = λ known agrees t.
            ap₂ (λ m n. m + n) (ap (λ (s : SeatView). on_type t s.holds) types_are)
            (sym (ap (λ (p : LinkPass). times_type t (types_held (under known given) p.recorded)) links));
        types_asked = λ known agrees t nothing.
            ap (λ (s : SeatView). times_type t s.asked) types_are ∙ (ap (times_type t) (sym (append-nil base.types.asked)) ∙ nothing);
        draws = λ known agrees before has.
            subst (λ reported. IfDrawsKnown reported (KnowsDraws {J = J} (under known given) before base.forms count [] joined)) (sym no_stop) (record {
              few = λ thread calls passes is there. absurd cc;
              room = omega (arith, drawn, forms_left, can.forms);
            });
        stop_is = no_stop;
        ends = subst (EndsAnyhow {J = J} given base [] joined) (sym no_stop) (
          (λ thread calls passes is there. absurd cc),
          All-nil (HaveAsked given base),
        );
        ends_at = λ known agrees. subst (EndsSoFar {J = J} (under known given) base.forms [] joined) (sym no_stop) (
          left-asked count joined.pass left,
          (λ t has. ap results_said none),
          (λ t has. ap keys_said none),
        );
      }

  -- all lanes were forked off, and none was joined yet
  pub joined-none : (threads : List (List Call)) (joined : Joined J) (lanes : List (Lane J)) → AreForked given base threads joined lanes →
      length lanes ≡ length threads → AreJoinedTo given base threads lanes [] joined
  joined-none threads joined lanes forked same = record {
    fresh = subst (λ ts. AreFresh given base ts lanes)
        (ap (λ n. take n threads) same ∙ take_all (length threads) threads (omega arith)) forked.lanes_are;
    calls = refl;
    made = record { count = refl; each = λ thread calls end is there. absurd cc };
    so_far = none-so_far (length threads) joined (subst (λ n. IsLeft n base joined.pass) same forked.pass) forked.room forked.nothing.0 forked.nothing.1;
  }

-- ---- a base with which nothing was done, to which all lanes were joined

-- it has room for the lanes of a plan's threads
pub room-unused : {J : Type 0} (given : Given) (linker : Linker J) (table : consts_pass.TableView) (base : Pass J) (threads : List (List Call)) →
    IsUnused given linker table base → IsWithinLimits threads → length given.constants ≤ split_room → HasRoomFor (length threads) (base_of base)
room-unused given linker table base threads unused limits few_constants = record {
  serials = omega (arith, limits.few_threads, ap (λ (p : LinkPass). p.seat.room) unused.links);
  constants = omega (arith, limits.few_threads, ap (λ (p : LinkPass). p.constants.seat.room) unused.links);
  forms = omega (arith, limits.few_threads, ap (λ (p : PassView). p.seat.room) unused.forms);
  holds = omega (arith, limits.few_threads, ap (λ (s : SeatView). s.room) unused.types);
  few_constants =
      let places : length base.links.constants.known ≡ length given.constants =
      ap (λ (p : LinkPass). length p.constants.known) unused.links ∙ length-replicate (length given.constants) None in
      omega (arith, places, few_constants);
}

module _ {J : Type 0} (given : Given) (linker : Linker J) (table : consts_pass.TableView) (base : Pass J) (unused : IsUnused given linker table base) where
  -- no form was asked for before
  base-asked : HasAsked [] base.forms
  base-asked = subst (HasAsked []) (sym unused.forms) (none-asked linker.forms.now limit)

  module _ (lanes : List (Lane J)) (joined : Joined J) (all : AreJoinedSoFar given base (length lanes) lanes joined) where
    pub links-joined : AreJoined (map passes_of lanes) joined.pass.links
    links-joined = record {
      attempts = all.attempts ∙ ap (λ (p : LinkPass). p.attempts ++ flat_map (λ q. q.links.attempts) (map passes_of lanes)) unused.links;
      numbers = all.numbers ∙ ap (λ (p : LinkPass). p.seat.numbers ++ flat_map (λ q. q.links.seat.numbers) (map passes_of lanes)) unused.links;
      linked = all.linked;
      each_once = all.links_known (subst EachOnce (sym (ap (λ (p : LinkPass). p.seat.numbers) unused.links)) none-once)
          (let whole = ap (λ (p : LinkPass). p.seat.room + length p.seat.numbers) unused.links in omega (arith, whole, all.links_room));
    }

    -- the attempts at constants of the lanes are all that there are
    pub constants-made : AreMade given base.links (map (λ (p : ThreadPasses). p.links) (map passes_of lanes)) joined.pass.links.constants
    constants-made = record {
      count = ap (λ (p : LinkPass). length p.constants.known) unused.links ∙ length-replicate (length given.constants) None;
      known = All-map (λ (p : LinkPass). consts.Keeps p.constants.known joined.pass.links.constants.known) (λ (p : ThreadPasses). p.links)
          (map passes_of lanes) all.constants.known;
      attempts = all.constants.attempts
          ∙ (ap (λ (p : LinkPass). p.constants.attempts ++ flat_map (λ (q : ThreadPasses). q.links.constants.attempts) (map passes_of lanes)) unused.links
          ∙ sym (flat-map (λ (p : LinkPass). p.constants.attempts) (λ (p : ThreadPasses). p.links) (map passes_of lanes)));
      numbers = all.constants.numbers
          ∙ (ap (λ (p : LinkPass). p.constants.seat.numbers ++ flat_map (λ (q : ThreadPasses). q.links.constants.seat.numbers) (map passes_of lanes))
          unused.links
          ∙ sym (flat-map (λ (p : LinkPass). p.constants.seat.numbers) (λ (p : ThreadPasses). p.links) (map passes_of lanes)));
      each_once = all.constants.each_once (subst EachOnce (sym (ap (λ (p : LinkPass). p.constants.seat.numbers) unused.links)) none-once)
          (let whole = ap (λ (p : LinkPass). p.constants.seat.room + length p.constants.seat.numbers) unused.links in
          omega (arith, whole, all.constants_room));
      resolved = All-map (HasResolved base.links) (λ (p : ThreadPasses). p.links) (map passes_of lanes) all.resolved;
    }

    -- so are those that were recorded
    pub constants-recorded : joined.pass.links.constants.recorded ≡ flat_map (λ (q : ThreadPasses). q.links.constants.recorded) (map passes_of lanes)
    constants-recorded =
        all.constants.recorded
        ∙ ap (λ (p : LinkPass). p.constants.recorded ++ flat_map (λ (q : ThreadPasses). q.links.constants.recorded) (map passes_of lanes)) unused.links

    -- the seat of types has all the room, but for what it holds
    pub types-whole : joined.pass.types.room + length joined.pass.types.holds ≡ limit
    types-whole = let whole = ap (λ (s : SeatView). s.room + length s.holds) unused.types in omega (arith, whole, all.types_room)

    -- it is the one that is reported of the lanes
    pub joined-stop : (stop : Stop) → joined.stop ≡ Some stop → stop_of (ends_of lanes) ≡ Some stop
    joined-stop stop some = sym all.stop_is ∙ some

    -- where constants have values that the joined pass has seen
    module _ (values : Found) (agrees : Agrees values joined.pass.links) where
      abbrev g : Given
      g = under values given

      forms-joined : KnowsDraws g [] base.forms (length lanes) lanes joined → AreFormsJoined (map passes_of lanes) joined.pass.forms
      forms-joined known = record {
        numbers = all.forms_numbers ∙ ap (λ (p : PassView). p.seat.numbers ++ flat_map (λ q. q.forms.seat.numbers) (map passes_of lanes)) unused.forms;
        each_once = all.forms_known (subst EachOnce (sym (ap (λ (p : PassView). p.seat.numbers) unused.forms)) none-once)
            (let whole = ap (λ (p : PassView). p.seat.room + length p.seat.numbers) unused.forms in omega (arith, whole, known.room));
      }

      -- the seat holds just what is recorded
      pub types-just : HoldsJust g joined.pass.links.recorded joined.pass.types
      types-just = just-recorded g joined.pass.links.recorded base.types joined.pass.types (ap (λ (s : SeatView). s.holds) unused.types)
          (subst (λ (p : LinkPass). HoldsInstead g p.recorded joined.pass.links.recorded base.types joined.pass.types) unused.links
          (all.types_held values agrees))

      -- each lane has made its calls to their end
      pub joined-all : joined.stop ≡ None → IsJoinedRun g lanes joined
      joined-all none =
          let ends = subst (EndsSoFar g base.forms lanes joined) none (all.ends_at values agrees) in
          let done = subst (EndsAnyhow given base lanes joined) none all.ends in
          let known : KnowsDraws g [] base.forms (length lanes) lanes joined =
          subst (λ reported. IfDrawsKnown reported (KnowsDraws g [] base.forms (length lanes) lanes joined)) none (all.draws values agrees [] base-asked) in
          record {
            used = used-under given values (calls_of lanes) (map passes_of lanes) all.used;
            done = done.0;
            links = links-joined;
            forms = forms-joined known;
            asked = asked-edits g passes_of (λ (lane : Lane J). lane.calls.now) lanes joined.pass.forms (ends.0 [] base-asked);
            results = ends.1;
            keys = ends.2;
          }

      module _ (tables : IsAmongTables given (length (calls_of lanes)) values) (stop : Stop) (some : joined.stop ≡ Some stop) where
        -- what is known of the error that is reported
        stops-for : StopsFor joined stop.error
        stops-for = subst (EndsAnyhow given base lanes joined) some all.ends

        -- a lane has stopped for want of forms
        pub joined-full : (drawn : ℕ) → stop.error ≡ FormsFull drawn → most_forms < draws_needed given (calls_of lanes)
        joined-full drawn is =
            let over = subst (StopsFor joined) is stops-for in
            let known : KnowsDraws g [] base.forms (length lanes) lanes joined =
            subst (λ e. IfForms e (KnowsDraws g [] base.forms (length lanes) lanes joined)) is
            (subst (λ reported. IfDrawsKnown reported (KnowsDraws g [] base.forms (length lanes) lanes joined)) some
            (all.draws values agrees [] base-asked)) in
            full given values (calls_of lanes) (map passes_of lanes) all.used joined.pass.links links-joined tables []
            (none-among (all_edits given (calls_of lanes))) known.few joined.pass.forms drawn (forms-joined known) over.1 over.0

        -- a lane has stopped for want of a slot
        pub joined-no-slot : (bucket : ℕ) → stop.error ≡ TypesFull bucket → Overfill bucket (all_types given (calls_of lanes))
        joined-no-slot bucket is =
            let reported = subst (StopsFor joined) is stops-for in
            no-slot-overfills bucket joined.pass.types (all_types given (calls_of lanes)) types-whole reported.1 reported.0
            (asked-needed given values lanes all.used joined.pass.links links-joined tables joined.pass.types
            (subst (λ (s : SeatView). WasAsked (s.asked ++ lanes_types g lanes) joined.pass.types) unused.types (all.types_asked values agrees)))
