-- The passes of lanes are joined one after the other.
use Rattle.std.proofs.Common.{◌≡◌, sym, ◌∙◌, ap, ap₂, subst, ℕ, ◌+◌, ◌*◌, List, [], ◌∷◌, ◌++◌, append_assoc, length, length-append, map, Option, Some, arith}
use Rattle.std.specs.List.{All}
use Rattle.std.proofs.lemmas.List.{length-map, map_push}
use Rattle.std.proofs.lemmas.List.Elements.{All-push, All-weaker}
use Rattle.mh_values.specs.declared.types.MethodTy.{MethodTy}
use Rattle.mh_edit.specs.declared.key.Key.{Key}
use Rattle.mh_handle.specs.Seats as forms
use Rattle.mh_intern.specs.Views as types
use Rattle.mh_tickets.specs.Seats as serials
use Rattle.mh_cells.specs.Values.{Keeps}
use Rattle.mh_jobs.specs.Given.{Found, Given, under}
use Rattle.mh_attempt.specs.Asked.{HasAsked}
use Rattle.mh_plan.specs.declared.call.Call.{Call}
use Rattle.mh_report.specs.Types.{thread_types}
use Rattle.mh_runtime.specs.declared.joining.Joined.{Joined}
use Rattle.mh_runtime.specs.declared.lane.Lane.{Lane}
use Rattle.mh_runtime.specs.declared.pass.Pass.{Pass}
use Rattle.mh_runtime.specs.declared.stops.ThreadRun.{ThreadRun}
use Rattle.mh_runtime.specs.Asking.{LacksRoom, WasAsked, run_types}
use Rattle.mh_runtime.specs.Bases.{base_of}
use Rattle.mh_runtime.specs.Joined.{AreUsed, HaveDrawnFew, IsUsedBy, ThreadPasses}
use Rattle.mh_runtime.specs.Joining.{AreJoinedSoFar, EndsAnyhow, EndsSoFar, IfDrawsKnown, JoinsConstants, JoinsLane, KnowsDraws, calls_of, ends_of, lanes_types}
use Rattle.mh_runtime.specs.Lanes.{AreUnlearnt, DrawsFew, EndsAs, EndsDone, HasResolved, HasRun, passes_of}
use Rattle.mh_runtime.specs.Linking.{HoldsInstead}
use Rattle.mh_runtime.specs.Passes.{HasSerials, split_pass, split_room}
use Rattle.mh_runtime.specs.Stops.{answers_in, end_in, ending, stop_after, stop_at, stop_of}
use Rattle.mh_runtime.specs.Values.{Agrees}
use Rattle.mh_runtime.proofs.constants.Agreeing.{agrees-mine, agrees-theirs}
use Rattle.mh_runtime.proofs.lanes.JoinedTypes.{types-joined}
use Rattle.mh_runtime.proofs.lanes.LaneLists.{after-push, types-push}
use Rattle.mh_runtime.proofs.lanes.MoreThreads.{drawn-push, used-push}
use Rattle.mh_runtime.proofs.types.RecordedTypes.{instead-joined}
use Rattle.mh_runtime.proofs.sites.ThreadSteps.{serials-both}
use Rattle.mh_runtime.proofs.constants.JoiningConstants.{constants-push, resolved-whole, room-push}
use Rattle.mh_runtime.proofs.lanes.JoiningEnds.{anyhow-push, ends-push, few-drawn, run-of}
use Rattle.mh_runtime.proofs.reports.ReportedStops.{draws-next, stop-of-push}

-- ---- one lane more

module _ {J : Type 0} (given : Given) (base : Pass J) (count : ℕ) (lanes : List (Lane J)) (lane : Lane J) (old new : Joined J) where
  -- the numbers that it has drawn are few, unless it had no memory
  draws-push : JoinsLane old lane new → length (calls_of lanes) ≡ length (map passes_of lanes) → (asked : List (List Key)) → HasAsked asked base.forms →
      KnowsDraws given asked base.forms count lanes old → DrawsFew given base.forms lane.calls.now (passes_of lane) →
      KnowsDraws given asked base.forms count (lanes ++ lane ∷ []) new
  draws-push adds same asked has before drawn_few =
      let few = drawn_few asked has in
      let more : length (lanes ++ lane ∷ []) ≡ length lanes + 1 = length-append lanes (lane ∷ []) in
      let numbers : new.pass.forms.seat.numbers ≡ old.pass.forms.seat.numbers ++ lane.pass.forms.seat.numbers =
      ap (λ (s : forms.SeatView). s.numbers) adds.pass.forms_seat_is in
      let room : new.pass.forms.seat.room ≡ old.pass.forms.seat.room + lane.pass.forms.seat.room =
      ap (λ (s : forms.SeatView). s.room) adds.pass.forms_seat_is in
      let drawn : length new.pass.forms.seat.numbers ≡ length old.pass.forms.seat.numbers + length lane.pass.forms.seat.numbers =
      ap length numbers ∙ length-append old.pass.forms.seat.numbers lane.pass.forms.seat.numbers in
      record {
        few = subst (λ (ts : List (List Call)). HaveDrawnFew given asked ts (map passes_of (lanes ++ lane ∷ [])))
            (sym (map_push (λ (l : Lane J). l.calls.now) lanes lane))
            (subst (λ (ps : List ThreadPasses). HaveDrawnFew given asked (calls_of lanes ++ lane.calls.now ∷ []) ps) (sym (map_push passes_of lanes lane))
            (drawn-push given asked (calls_of lanes) (map passes_of lanes) lane.calls.now (passes_of lane) (sym same) before.few (split_room, few)));
        room = omega (arith, before.room, room, drawn, few.room, more);
      }

module _ {J : Type 0} (given : Given) (base : Pass J) (count : ℕ) (lanes : List (Lane J)) (lane : Lane J) (old new : Joined J) where
  abbrev calls : List Call
  calls = lane.calls.now

  pub lane-used : HasRun given base (length lanes) calls lane → IsUsedBy given (length (calls_of lanes)) calls (passes_of lane)
  lane-used ran = record { thread_is = ran.thread_is ∙ sym (length-map lanes (λ (l : Lane J). l.calls.now)); run = ran.run }

  -- what values agree with a joined pass agrees with what it was, and with the lane's
  agrees-old : (known : Found) → JoinsLane old lane new → Agrees known new.pass.links → Agrees known old.pass.links
  agrees-old known adds agrees = agrees-mine known old.pass.links lane.pass.links new.pass.links adds.pass.links agrees

  agrees-lane : (known : Found) → JoinsLane old lane new → Agrees known new.pass.links → Agrees known lane.pass.links
  agrees-lane known adds agrees = agrees-theirs known old.pass.links lane.pass.links new.pass.links adds.pass.links agrees

  -- what is known under these values
  module _ (known : Found) (before : AreJoinedSoFar given base count lanes old) (ran : HasRun given base (length lanes) calls lane)
      (adds : JoinsLane old lane new) (agrees : Agrees known new.pass.links) where
    abbrev g : Given
    g = under known given

    was : Agrees known old.pass.links
    was = agrees-old known adds agrees

    own : Agrees known lane.pass.links
    own = agrees-lane known adds agrees

    abbrev run : (r : ThreadRun) × (lane.ran ≡ Some r)
    run = run-of given base count lanes lane old new ran.has_ended

    ends : EndsAs g base.forms calls (passes_of lane) (Some run.0)
    ends = subst (EndsAs g base.forms calls (passes_of lane)) run.1 (ran.ends known own)

    types-held : HoldsInstead g base.links.recorded new.pass.links.recorded base.types new.pass.types
    types-held =
        instead-joined g base.links.recorded old.pass.links.recorded lane.pass.links.recorded new.pass.links.recorded base.types old.pass.types
        lane.pass.types new.pass.types (before.types_held known was) (ran.types_held known own) adds.pass.links.recorded adds.pass.types

    types-asked : WasAsked (base.types.asked ++ lanes_types g (lanes ++ lane ∷ [])) new.pass.types
    types-asked =
        let own_types : List MethodTy = run_types g lane.pass.links.attempts (thread_types given.leaves calls) in
        subst (λ ts. WasAsked ts new.pass.types)
        (append_assoc base.types.asked (lanes_types g lanes) own_types ∙ ap (λ ts. base.types.asked ++ ts) (sym (types-push g lanes lane)))
        (types-joined old.pass.types lane.pass.types new.pass.types adds.pass.types (base.types.asked ++ lanes_types g lanes) own_types
        (before.types_asked known was) (ran.types_asked known own))

    draws : (same : length (calls_of lanes) ≡ length (map passes_of lanes)) (stop : new.stop ≡ stop_after old.stop (stop_at (length lanes) run.0.stop))
        (asked : List (List Key)) → HasAsked asked base.forms →
        IfDrawsKnown new.stop (KnowsDraws g asked base.forms count (lanes ++ lane ∷ []) new)
    draws same stop asked has =
        subst (λ reported. IfDrawsKnown reported (KnowsDraws g asked base.forms count (lanes ++ lane ∷ []) new)) (sym stop)
        (draws-next (KnowsDraws g asked base.forms count lanes old) (KnowsDraws g asked base.forms count (lanes ++ lane ∷ []) new)
        (DrawsFew g base.forms calls (passes_of lane)) (draws-push g base count lanes lane old new adds same asked has) (length lanes) old.stop run.0.stop
        (few-drawn g base count lanes lane old new run.0 ends) (before.draws known was asked has))

    ends-at : (stop : new.stop ≡ stop_after old.stop (stop_at (length lanes) run.0.stop)) → EndsSoFar g base.forms (lanes ++ lane ∷ []) new new.stop
    ends-at stop =
        subst (EndsSoFar g base.forms (lanes ++ lane ∷ []) new) (sym stop)
        (ends-push g base count lanes lane old new old.stop (length lanes) run.0.answers run.0.stop
        (adds.answers ∙ ap (λ (r : Option ThreadRun). old.threads ++ answers_in r ∷ []) run.1) adds ends (before.ends_at known was))

  pub joined-push : AreJoinedSoFar given base count lanes old → HasRun given base (length lanes) calls lane → JoinsLane old lane new →
      AreJoinedSoFar given base count (lanes ++ lane ∷ []) new
  joined-push before ran adds =
      let ran_as = run-of given base count lanes lane old new ran.has_ended in
      let run : ThreadRun = ran_as.0 in
      let end : end_in lane.ran ≡ run.stop = ap end_in ran_as.1 in
      let same : length (calls_of lanes) ≡ length (map passes_of lanes) =
      length-map lanes (λ (l : Lane J). l.calls.now) ∙ sym (length-map lanes passes_of) in
      let stop : new.stop ≡ stop_after old.stop (stop_at (length lanes) run.stop) =
      adds.stop_is ∙ (ap (λ n. stop_after old.stop (stop_at n (end_in lane.ran))) ran.thread_is
      ∙ ap (λ e. stop_after old.stop (stop_at (length lanes) e)) end) in
      let more : length (lanes ++ lane ∷ []) ≡ length lanes + 1 = length-append lanes (lane ∷ []) in
      let passes : map passes_of (lanes ++ lane ∷ []) ≡ map passes_of lanes ++ passes_of lane ∷ [] = map_push passes_of lanes lane in
      let links = adds.pass.links_seat in
      let links_numbers : new.pass.links.seat.numbers ≡ old.pass.links.seat.numbers ++ lane.pass.links.seat.numbers =
      ap (λ (s : serials.SeatView). s.numbers) links in
      let links_more : new.pass.links.seat.room ≡ old.pass.links.seat.room + lane.pass.links.seat.room = ap (λ (s : serials.SeatView). s.room) links in
      let links_count : length new.pass.links.seat.numbers ≡ length old.pass.links.seat.numbers + length lane.pass.links.seat.numbers =
      ap length links_numbers ∙ length-append old.pass.links.seat.numbers lane.pass.links.seat.numbers in
      let forms_numbers : new.pass.forms.seat.numbers ≡ old.pass.forms.seat.numbers ++ lane.pass.forms.seat.numbers =
      ap (λ (s : forms.SeatView). s.numbers) adds.pass.forms_seat_is in
      let types_more : new.pass.types.room ≡ lane.pass.types.room + old.pass.types.room = ap (λ (s : types.SeatView). s.room) adds.pass.types in
      let types_count : length new.pass.types.holds ≡ length lane.pass.types.holds + length old.pass.types.holds =
      ap (λ (s : types.SeatView). length s.holds) adds.pass.types ∙ length-append lane.pass.types.holds old.pass.types.holds in
      record {
        linker_is = adds.pass.linker ∙ before.linker_is;
        table_is = adds.pass.table ∙ before.table_is;
        types_is = ap (λ (s : types.SeatView). s.table) adds.pass.types ∙ before.types_is;
        used = subst (λ (ts : List (List Call)). AreUsed given ts (map passes_of (lanes ++ lane ∷ [])))
            (sym (map_push (λ (l : Lane J). l.calls.now) lanes lane))
            (subst (λ (ps : List ThreadPasses). AreUsed given (calls_of lanes ++ calls ∷ []) ps) (sym passes)
            (used-push given (calls_of lanes) (map passes_of lanes) calls (passes_of lane) before.used (lane-used ran)));
        attempts = adds.pass.links.attempts ∙ (ap (λ made. made ++ lane.pass.links.attempts) before.attempts
            ∙ after-push (λ (p : ThreadPasses). p.links.attempts) base.links.attempts lanes lane);
        unlearnt = subst (All (λ (p : ThreadPasses). AreUnlearnt base.links p.links.attempts)) (sym passes)
            (All-push (λ (p : ThreadPasses). AreUnlearnt base.links p.links.attempts) (map passes_of lanes) (passes_of lane) before.unlearnt ran.unlearnt);
        numbers = links_numbers ∙ (ap (λ ns. ns ++ lane.pass.links.seat.numbers) before.numbers
            ∙ after-push (λ (p : ThreadPasses). p.links.seat.numbers) base.links.seat.numbers lanes lane);
        learnt = serials-both _ _ _ before.learnt adds.pass.links.mine;
        linked = subst (All (λ (p : ThreadPasses). HasSerials p.links.linked new.pass.links.linked)) (sym passes)
            (All-push (λ (p : ThreadPasses). HasSerials p.links.linked new.pass.links.linked) (map passes_of lanes) (passes_of lane)
            (All-weaker (λ (p : ThreadPasses). HasSerials p.links.linked old.pass.links.linked)
            (λ (p : ThreadPasses). HasSerials p.links.linked new.pass.links.linked)
            (λ p has. serials-both _ _ _ has adds.pass.links.mine) (map passes_of lanes) before.linked)
            adds.pass.links.theirs);
        links_room = omega (arith, before.links_room, links_more, links_count, ran.whole, more);
        links_known = λ once. adds.pass.links_known;
        forms_numbers = forms_numbers ∙ (ap (λ ns. ns ++ lane.pass.forms.seat.numbers) before.forms_numbers
            ∙ after-push (λ (p : ThreadPasses). p.forms.seat.numbers) base.forms.seat.numbers lanes lane);
        forms_known = λ once. adds.pass.forms_known;
        types_room = omega (arith, before.types_room, types_more, types_count, ran.types_whole, more);
        linkages_kept = λ site l at. adds.pass.links.my_linkages site l (before.linkages_kept site l at);
        linkages = subst (All (λ (p : ThreadPasses). Keeps p.links.linkages new.pass.links.linkages)) (sym passes)
            (All-push (λ (p : ThreadPasses). Keeps p.links.linkages new.pass.links.linkages) (map passes_of lanes) (passes_of lane)
            (All-weaker (λ (p : ThreadPasses). Keeps p.links.linkages old.pass.links.linkages)
            (λ (p : ThreadPasses). Keeps p.links.linkages new.pass.links.linkages)
            (λ p keeps site l at. adds.pass.links.my_linkages site l (keeps site l at)) (map passes_of lanes) before.linkages)
            adds.pass.links.their_linkages);
        constants = subst (λ (ps : List ThreadPasses). JoinsConstants (base_of base) ps new.pass.links.constants) (sym passes)
            (constants-push (base_of base) (map passes_of lanes) (passes_of lane) old.pass.links new.pass.links before.constants adds.pass.links
            adds.pass.constants_seat adds.pass.constants_known);
        resolved = subst (All (λ (p : ThreadPasses). HasResolved base.links p.links)) (sym passes)
            (All-push (λ (p : ThreadPasses). HasResolved base.links p.links) (map passes_of lanes) (passes_of lane) before.resolved ran.resolved);
        constants_room = subst (λ n. new.pass.links.constants.seat.room + length new.pass.links.constants.seat.numbers + split_room * count
            ≡ base.links.constants.seat.room + length base.links.constants.seat.numbers + split_room * n) (sym more)
            (room-push count (base.links.constants.seat.room + length base.links.constants.seat.numbers) (length lanes) old.pass.links.constants.seat
            lane.pass.links.constants.seat new.pass.links.constants.seat adds.pass.constants_seat (resolved-whole base.links lane.pass.links ran.resolved)
            before.constants_room);
        types_held = λ known agrees. types-held known before ran adds agrees;
        types_asked = λ known agrees. types-asked known before ran adds agrees;
        draws = λ known agrees. draws known before ran adds agrees same stop;
        stop_is = stop ∙ (ap₂ (λ reported e. stop_after reported (stop_at (length lanes) e)) before.stop_is (sym end)
            ∙ sym (ap stop_of (map_push (λ (l : Lane J). end_in l.ran) lanes lane)
            ∙ stop-of-push (ends_of lanes) (end_in lane.ran) (length lanes) (sym (length-map lanes (λ (l : Lane J). end_in l.ran)))));
        ends = subst (EndsAnyhow given base (lanes ++ lane ∷ []) new) (sym stop)
            (anyhow-push given base count lanes lane old new old.stop (length lanes) run.stop same adds ran.thread_is
            (subst (EndsDone given (split_pass (length lanes) base.links) calls (passes_of lane)) end ran.done)
            (subst (λ e. LacksRoom lane.pass.forms lane.pass.types (ending e)) end ran.lacks) before.ends);
        ends_at = λ known agrees. ends-at known before ran adds agrees stop;
      }
