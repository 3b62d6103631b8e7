-- A lane more is forked off, or joined.
use Rattle.std.proofs.Common.{◌≡◌, sym, ◌∙◌, ap, ap₂, subst, ℕ, ◌+◌, ◌-◌, ◌*◌, ◌<◌, ◌≤◌, List, [], ◌∷◌, ◌++◌, length, length-append, take, Some, Result, Ok}
use Rattle.std.proofs.Common.{Err, IfOk, OnOk, arith}
use Rattle.std.specs.Prelude.{All, slice_get, slice_index_or}
use Rattle.std.proofs.lemmas.List.{length-map, length-take-le, map_push, take_all, take_more}
use Rattle.std.proofs.lemmas.List.Elements.{All-contains}
use Rattle.std.proofs.lemmas.Option.{get_or_from_slice_get, slice_get-get_or, slice_get_within}
use Rattle.mh_base.proofs.Slices.{slice_get-within}
use Rattle.mh_handle.specs.Joins as form_joins
use Rattle.mh_handle.specs.Passes.{PassView}
use Rattle.mh_handle.specs.Seats as forms
use Rattle.mh_intern.specs.Views as types
use Rattle.mh_tickets.specs.Seats as serials
use Rattle.mh_jobs.specs.Given.{Given}
use Rattle.mh_plan.specs.declared.call.Call.{Call}
use Rattle.mh_plan.specs.Plan.{most_calls}
use Rattle.mh_plan.specs.Calls.{IsCallOf}
use Rattle.mh_runtime.specs.declared.joining.Joined.{Joined}
use Rattle.mh_runtime.specs.declared.lane.Lane.{Lane}
use Rattle.mh_runtime.specs.declared.linker.Linker.{Linker}
use Rattle.mh_runtime.specs.declared.pass.Pass.{Pass}
use Rattle.mh_runtime.specs.Bases.{base_of}
use Rattle.mh_runtime.specs.Joining.{JoinsLane, AreForked, AreFresh, AreJoinedTo, IsFreshFor, IsLeft, calls_of, ends_of}
use Rattle.mh_runtime.specs.Lanes.{HasRun, IsReadyLane}
use Rattle.mh_runtime.specs.Linkers.{CanSplit, IsOf, SplitsPass}
use Rattle.mh_runtime.specs.Passes.{LinkPass, split_pass, split_room, with_seats}
use Rattle.mh_runtime.specs.RunStops.{HasMade, HaveMade}
use Rattle.mh_runtime.specs.Stops.{end_in}
use Rattle.mh_runtime.proofs.lanes.JoiningSteps.{joined-push}
use Rattle.mh_runtime.proofs.lanes.MoreThreads.{few-each, fresh-push, made-push}
use Rattle.mh_runtime.proofs.ledger.Places.{place-contains}

-- the first items of a list, and the next one
take-next : {X : Type 0} (xs : List X) (i : ℕ) (x : X) → slice_get xs i ≡ Some x → take (i + 1) xs ≡ take i xs ++ x ∷ []
take-next xs i x is =
    take_more xs i x (slice_get_within xs i x is) ∙ ap (λ y. take i xs ++ y ∷ []) (get_or_from_slice_get xs i x x is)

length-first : {X : Type 0} (xs : List X) (i : ℕ) → i ≤ length xs → length (take i xs) ≡ i
length-first xs i within = length-take-le i xs within

-- ---- what is left of the base

-- the room that is left where one more was split off
one-less : (room n : ℕ) → (room - split_room * n) - split_room ≡ room - split_room * (n + 1)
one-less room n = omega arith

module _ {J : Type 0} (base : Pass J) where
  -- the base with so much room
  abbrev links_with : ℕ → ℕ → LinkPass
  links_with room constants =
      with_seats (record { tickets = base.links.seat.tickets; numbers = base.links.seat.numbers; room = room })
      (record { tickets = base.links.constants.seat.tickets; numbers = base.links.constants.seat.numbers; room = constants }) base.links

  abbrev forms_with : ℕ → PassView
  forms_with room = form_joins.with_seat (record { table = base.forms.seat.table; numbers = base.forms.seat.numbers; room = room }) base.forms

  abbrev types_with : ℕ → types.SeatView
  types_with room = record { table = base.types.table; holds = base.types.holds; room = room; asked = base.types.asked; full = base.types.full }

  -- one pass more was split off
  pub left-more : (n thread : ℕ) (old new other : Pass J) → IsLeft n base old → SplitsPass thread old new other → IsLeft (n + 1) base new
  left-more n thread old new other left splits = record {
    links = splits.links_left
        ∙ (ap (λ (p : LinkPass). with_seats (serials.with_less_room split_room p.seat) (serials.with_less_room split_room p.constants.seat) p) left.links
        ∙ ap₂ links_with (one-less base.links.seat.room n) (one-less base.links.constants.seat.room n));
    forms = splits.forms_left ∙ (ap (λ (p : PassView). form_joins.with_seat (forms.with_less_room form_joins.split_room p.seat) p) left.forms
        ∙ ap forms_with (one-less base.forms.seat.room n));
    types = splits.types_left ∙ (ap (types.with_less_room split_room) left.types ∙ ap types_with (one-less base.types.room n));
  }

  -- a lane with a pass that was split off
  split-fresh : (given : Given) (n thread : ℕ) (old new : Pass J) (calls : List Call) (lane : Lane J) → IsLeft n base old →
      SplitsPass thread old new lane.pass → lane.calls.now ≡ calls → All (IsCallOf given.leaves given.jobs) calls → length calls ≤ most_calls →
      length base.links.constants.known ≤ split_room → IsFreshFor given base thread calls lane
  split-fresh given n thread old new calls lane left splits same are few few_constants =
      let thread_is : lane.pass.links.thread ≡ thread = ap (λ (p : LinkPass). p.thread) splits.links in
      record {
        can_run = record {
          links = splits.links ∙ (ap (split_pass thread) left.links ∙ ap (λ t. split_pass t base.links) (sym thread_is));
          forms_are = splits.forms ∙ ap form_joins.split_pass left.forms;
          types_are = splits.types ∙ ap (λ (s : types.SeatView). types.new_seat s.table split_room) left.types;
          calls = subst (All (IsCallOf given.leaves given.jobs)) (sym same) are;
          few = subst (λ cs. length cs ≤ most_calls) (sym same) few;
          few_constants = few_constants;
        };
        thread_is = thread_is;
        calls_are = same;
      }

-- what is left of a base is over the base's linker
pub left-of : {J : Type 0} (given : Given) (linker : Linker J) (n : ℕ) (base pass : Pass J) → IsLeft n base pass → IsOf given linker base →
    IsOf given linker pass
left-of given linker n base pass left is = record {
  leaves = is.leaves;
  links = ap (λ (p : LinkPass). p.linker) left.links ∙ is.links;
  forms = ap (λ (p : PassView). p.table) left.forms ∙ is.forms;
  types = ap (λ (s : types.SeatView). s.table) left.types ∙ is.types;
}

-- ---- lanes

module _ {J : Type 0} (given : Given) (base : Pass J) (threads : List (List Call)) where
  module _ (old : Joined J) (lanes : List (Lane J)) (forked : AreForked given base threads old lanes) (calls : List Call)
      (at : slice_get threads (length lanes) ≡ Some calls) where
    -- what the next lane needs
    next-within : length lanes < length threads
    next-within = slice_get_within threads (length lanes) calls at

    next-few : length calls ≤ most_calls
    next-few = omega (arith, few-each threads (length lanes) calls at, forked.limits.few_calls)

    next-calls : All (IsCallOf given.leaves given.jobs) calls
    next-calls =
        All-contains (λ cs. All (IsCallOf given.leaves given.jobs) cs) threads calls forked.calls (place-contains threads (length lanes) calls at)

    -- so there is room for it
    pub can-split : CanSplit old.pass
    can-split =
        let s : old.pass.links.seat.room ≡ base.links.seat.room - split_room * length lanes = ap (λ (p : LinkPass). p.seat.room) forked.pass.links in
        let k : old.pass.links.constants.seat.room ≡ base.links.constants.seat.room - split_room * length lanes =
        ap (λ (p : LinkPass). p.constants.seat.room) forked.pass.links in
        let f : old.pass.forms.seat.room ≡ base.forms.seat.room - split_room * length lanes = ap (λ (p : PassView). p.seat.room) forked.pass.forms in
        let t : old.pass.types.room ≡ base.types.room - split_room * length lanes = ap (λ (s : types.SeatView). s.room) forked.pass.types in
        record {
          serials = omega (arith, s, next-within, forked.room.serials);
          constants = omega (arith, k, next-within, forked.room.constants);
          forms = omega (arith, f, next-within, forked.room.forms);
          holds = omega (arith, t, next-within, forked.room.holds);
        }

    -- one lane more was forked off
    module _ (new : Joined J) (lane : Lane J) (splits : SplitsPass (length lanes) old.pass new.pass lane.pass) (same : lane.calls.now ≡ calls) where
      lane-fresh : IsFreshFor given base (length lanes) calls lane
      lane-fresh = split-fresh base given (length lanes) (length lanes) old.pass new.pass calls lane forked.pass splits same next-calls next-few
          forked.room.few_constants

      forked-push : new.threads ≡ old.threads → new.stop ≡ old.stop → AreForked given base threads new (lanes ++ lane ∷ [])
      forked-push same_threads same_stop =
          let more : length (lanes ++ lane ∷ []) ≡ length lanes + 1 = length-append lanes (lane ∷ []) in
          let first : length (take (length lanes) threads) ≡ length lanes = length-first threads (length lanes) (omega (arith, next-within)) in
          record {
            pass = subst (λ n. IsLeft n base new.pass) (sym more)
                (left-more base (length lanes) (length lanes) old.pass new.pass lane.pass forked.pass splits);
            room = forked.room;
            nothing = (same_threads ∙ forked.nothing.0, same_stop ∙ forked.nothing.1);
            lanes_are = subst (λ ts. AreFresh given base ts (lanes ++ lane ∷ []))
                (sym (ap (λ n. take n threads) more ∙ take-next threads (length lanes) calls at))
                (fresh-push given base (take (length lanes) threads) lanes calls lane forked.lanes_are
                (subst (λ n. IsFreshFor given base n calls lane) (sym first) lane-fresh));
            calls = forked.calls;
            limits = forked.limits;
          }

    -- what a lane's making tells
    module _ {E : Type 0} (P : Type 0) (new : Joined J) where
      pub ready-reported : (r : Result (Lane J) E) → P → IfOk r (λ lane. SplitsPass (length lanes) old.pass new.pass lane.pass) →
          IfOk r (λ lane. lane.calls.now ≡ calls) → IfOk r (λ lane. P × IsReadyLane given base lane)
      ready-reported (Err e) kept splits same = tt
      ready-reported (Ok lane) kept splits same = (kept, (lane-fresh new lane splits same).can_run)

      pub forked-reported : (r : Result (Lane J) E) → P → IfOk r (λ lane. SplitsPass (length lanes) old.pass new.pass lane.pass) →
          IfOk r (λ lane. lane.calls.now ≡ calls) → new.threads ≡ old.threads → new.stop ≡ old.stop →
          IfOk r (λ lane. P × AreForked given base threads new (lanes ++ lane ∷ []))
      forked-reported (Err e) kept splits same same_threads same_stop = tt
      forked-reported (Ok lane) kept splits same same_threads same_stop = (kept, forked-push new lane splits same same_threads same_stop)

  module _ (before after : List (Lane J)) (lane : Lane J) (old new : Joined J) (joined : AreJoinedTo given base threads before after old)
      (within : length after < length before) where
    abbrev forked : Lane J
    forked = slice_index_or before (length after) lane

    next-fresh : (calls : List Call) → slice_get threads (length after) ≡ Some calls → IsFreshFor given base (length after) calls forked
    next-fresh calls at = joined.fresh.each (length after) calls forked at (slice_get-get_or before (length after) lane within)

    -- the lane has run as the thread of its place
    next-ran : (calls : List Call) → slice_get threads (length after) ≡ Some calls → lane.calls ≡ forked.calls →
        HasRun given base forked.pass.links.thread forked.calls.now lane → HasRun given base (length after) lane.calls.now lane
    next-ran calls at same ran =
        subst (λ (cs : List Call). HasRun given base (length after) cs lane) (sym (ap (λ b. b.now) same))
        (subst (λ n. HasRun given base n forked.calls.now lane) (next-fresh calls at).thread_is ran)

    -- so it has made their calls
    next-made : (calls : List Call) → slice_get threads (length after) ≡ Some calls → lane.calls ≡ forked.calls →
        HasMade given (base_of base) forked.pass.links.thread forked.calls.now (end_in lane.ran) →
        HasMade given (base_of base) (length (calls_of after)) lane.calls.now (end_in lane.ran)
    next-made calls at same made =
        subst (λ (cs : List Call). HasMade given (base_of base) (length (calls_of after)) cs (end_in lane.ran)) (sym (ap (λ b. b.now) same))
        (subst (λ n. HasMade given (base_of base) n forked.calls.now (end_in lane.ran))
        ((next-fresh calls at).thread_is ∙ sym (length-map after (λ (l : Lane J). l.calls.now))) made)

    all-made : HasMade given (base_of base) (length (calls_of after)) lane.calls.now (end_in lane.ran) →
        HaveMade given (base_of base) (calls_of (after ++ lane ∷ [])) (ends_of (after ++ lane ∷ []))
    all-made made =
        subst (λ ends. HaveMade given (base_of base) (calls_of (after ++ lane ∷ [])) ends) (sym (map_push (λ (l : Lane J). end_in l.ran) after lane))
        (subst (λ calls. HaveMade given (base_of base) calls (ends_of after ++ end_in lane.ran ∷ [])) (sym (map_push (λ (l : Lane J). l.calls.now) after lane))
        (made-push given (base_of base) (calls_of after) (ends_of after) lane.calls.now (end_in lane.ran) joined.made made))

    -- one lane more was joined
    joined-next : (calls : List Call) → slice_get threads (length after) ≡ Some calls → lane.calls ≡ forked.calls →
        HasRun given base forked.pass.links.thread forked.calls.now lane →
        HasMade given (base_of base) forked.pass.links.thread forked.calls.now (end_in lane.ran) → JoinsLane old lane new →
        AreJoinedTo given base threads before (after ++ lane ∷ []) new
    joined-next calls at same ran made adds =
        let more : length (after ++ lane ∷ []) ≡ length after + 1 = length-append after (lane ∷ []) in
        record {
          fresh = joined.fresh;
          calls = map_push (λ (l : Lane J). l.calls.now) after lane
              ∙ (ap₂ (λ cs c. cs ++ c ∷ []) joined.calls (ap (λ b. b.now) same ∙ (next-fresh calls at).calls_are)
              ∙ sym (ap (λ n. take n threads) more ∙ take-next threads (length after) calls at));
          made = all-made (next-made calls at same made);
          so_far = joined-push given base (length threads) after lane old new joined.so_far (next-ran calls at same ran) adds;
        }

    -- what a lane's joining tells
    pub joined-reported : {A E : Type 0} (P : Type 0) (r : Result A E) → P →
        (lane.calls ≡ forked.calls) × HasRun given base forked.pass.links.thread forked.calls.now lane
        × HasMade given (base_of base) forked.pass.links.thread forked.calls.now (end_in lane.ran) →
        OnOk r (JoinsLane old lane new) → OnOk r (P × AreJoinedTo given base threads before (after ++ lane ∷ []) new)
    joined-reported P (Err e) kept ran adds = tt
    joined-reported P (Ok a) kept ran adds =
        let calls = slice_get-within threads (length after) (omega (arith, within, joined.fresh.count)) in
        (kept, joined-next calls.0 calls.1 ran.0 ran.1 ran.2 adds)

-- the calls of all lanes are those of the threads
pub all-calls : {J : Type 0} (given : Given) (base : Pass J) (threads : List (List Call)) (before after : List (Lane J)) (joined : Joined J) →
    AreJoinedTo given base threads before after joined → length after ≡ length threads → calls_of after ≡ threads
all-calls given base threads before after joined is whole = is.calls ∙ take_all (length after) threads (omega (arith, whole))
