-- How a run is shared out to lanes, whose passes are split off one, the base; and what is known of the passes that are joined after it.
use Rattle.std.specs.Prelude.{◌≡◌, ℕ, ◌+◌, ◌*◌, ◌<◌, ◌≤◌, List, [], ◌∷◌, ◌++◌, length, map, take, Option, None, Some, slice_get}
use Rattle.std.specs.List.{All, flat_map}
use Rattle.mh_values.specs.declared.types.MethodTy.{MethodTy}
use Rattle.mh_edit.specs.declared.key.Key.{Key}
use Rattle.mh_attempt.specs.declared.error.WorkError.{WorkError}
use Rattle.mh_attempt.specs.declared.error.WorkError.TheVariants.{NoMemory, FormsFull, TypesFull}
use Rattle.mh_handle.specs.Joins as form_joins
use Rattle.mh_handle.specs.Passes.{PassView, pass_at as forms_at}
use Rattle.mh_handle.specs.Seats as forms_seat
use Rattle.mh_intern.specs.Seats.{Knows}
use Rattle.mh_intern.specs.Views as types_seat
use Rattle.mh_tickets.specs.Draws.{EachOnce}
use Rattle.mh_tickets.specs.Seats as serials
use Rattle.mh_jobs.specs.Given.{Given}
use Rattle.mh_seats.specs.Room.{limit}
use Rattle.mh_attempt.specs.Asked.{HasAsked, IsOver}
use Rattle.mh_attempt.specs.AskedTypes.{HasNoSlot}
use Rattle.mh_plan.specs.declared.call.Call.{Call}
use Rattle.mh_plan.specs.Limits.{IsWithinLimits}
use Rattle.mh_plan.specs.Calls.{AreCallsOf}
use Rattle.mh_report.specs.Forms.{thread_edits}
use Rattle.mh_report.specs.Types.{thread_types}
use Rattle.mh_report.specs.Results.{Serials, keys_said, results_of, results_said}
use Rattle.mh_runtime.specs.declared.joining.Joined.{Joined}
use Rattle.mh_runtime.specs.declared.lane.Lane.{Lane}
use Rattle.mh_runtime.specs.declared.linker.Linker.{Linker}
use Rattle.mh_runtime.specs.declared.pass.Pass.{Pass}
use Rattle.mh_runtime.specs.declared.stops.Stop.{Stop}
use Rattle.mh_runtime.specs.Asking.{WasAsked, run_edits, run_types}
use Rattle.mh_runtime.specs.Bases.{Base, base_of}
use Rattle.mh_runtime.specs.Joined.{AreDone, AreFormsJoined, AreJoined, AreUsed, HaveDrawnFew, ThreadPasses, edits_of}
use Rattle.mh_runtime.specs.Keys.{plan_keys}
use Rattle.mh_runtime.specs.Lanes.{AreUnlearnt, HasResolved, IsReadyLane, passes_of}
use Rattle.mh_runtime.specs.Linkers.{JoinsPass}
use Rattle.mh_runtime.specs.Linking.{HoldsInstead}
use Rattle.mh_cells.specs.Values.{Keeps}
use Rattle.mh_condy.specs.Nodes as consts_known
use Rattle.mh_condy.specs.Passes as consts
use Rattle.mh_runtime.specs.Attempts.{AsksMore}
use Rattle.mh_runtime.specs.Passes.{HasSerials, pass_at, split_pass, split_room, with_seats}
use Rattle.mh_runtime.specs.Values.{At}
use Rattle.mh_runtime.specs.Workers.{first_asked}
use Rattle.mh_runtime.specs.RunStops.{HaveMade}
use Rattle.mh_runtime.specs.Stops.{answers_in, end_in, stop_after, stop_at, stop_of}

-- ---- before the run

-- a pass with which nothing was done, and whose seats have all the room that there is
pub record IsUnused {J : Type 0} (given : Given) (linker : Linker J) (table : consts.TableView) (pass : Pass J) : Type 0 where
  pub links : pass.links ≡ pass_at linker.sites 0 (length given.jobs) (serials.new_seat linker.sites.serials limit) (first_asked given table)
  pub forms : pass.forms ≡ forms_at linker.forms.now (forms_seat.new_seat linker.forms.now limit)
  pub types : pass.types ≡ types_seat.new_seat linker.types.now limit

-- the seats of a pass have all the room that there is
pub record HasAllRoom {J : Type 0} (pass : Pass J) : Type 0 where
  pub serials : pass.links.seat.room ≡ limit
  pub constants : pass.links.constants.seat.room ≡ limit
  pub forms : pass.forms.seat.room ≡ limit
  pub types : pass.types.room ≡ limit

-- the base has more room than this many splits give away
pub record HasRoomFor (splits : ℕ) (base : Base) : Type 0 where
  pub serials : split_room * splits < base.links.seat.room
  pub constants : split_room * splits < base.links.constants.seat.room
  pub forms : split_room * splits < base.forms.seat.room
  pub holds : split_room * splits < base.types.room
  -- each split has room for all constants
  pub few_constants : length base.links.constants.known ≤ split_room

-- the base after this many passes were split off: it has less room
pub record IsLeft {J : Type 0} (splits : ℕ) (base pass : Pass J) : Type 0 where
  pub links : pass.links ≡ with_seats (serials.with_less_room (split_room * splits) base.links.seat)
      (serials.with_less_room (split_room * splits) base.links.constants.seat) base.links
  pub forms : pass.forms ≡ form_joins.with_seat (forms_seat.with_less_room (split_room * splits) base.forms.seat) base.forms
  pub types : pass.types ≡ types_seat.with_less_room (split_room * splits) base.types

-- a lane for this thread and these calls, which may be run
pub record IsFreshFor {J : Type 0} (given : Given) (base : Pass J) (thread : ℕ) (calls : List Call) (lane : Lane J) : Type 0 where
  pub can_run : IsReadyLane given base lane
  pub thread_is : lane.pass.links.thread ≡ thread
  pub calls_are : lane.calls.now ≡ calls

-- a lane for each thread
pub record AreFresh {J : Type 0} (given : Given) (base : Pass J) (threads : List (List Call)) (lanes : List (Lane J)) : Type 0 where
  pub count : length lanes ≡ length threads
  pub each : (thread : ℕ) (calls : List Call) (lane : Lane J) → slice_get threads thread ≡ Some calls → slice_get lanes thread ≡ Some lane
      → IsFreshFor given base thread calls lane

-- these lanes were forked off the base for the first threads, and nothing was done yet
pub record AreForked {J : Type 0} (given : Given) (base : Pass J) (threads : List (List Call)) (joined : Joined J) (lanes : List (Lane J)) : Type 0 where
  pub pass : IsLeft (length lanes) base joined.pass
  pub room : HasRoomFor (length threads) (base_of base)
  pub nothing : (joined.threads ≡ []) × (joined.stop ≡ None)
  pub lanes_are : AreFresh given base (take (length lanes) threads) lanes
  pub calls : AreCallsOf given.leaves given.jobs threads
  pub limits : IsWithinLimits threads

-- ---- after the run

-- the calls of lanes
abbrev pub calls_of : {J : Type 0} → List (Lane J) → List (List Call)
calls_of lanes = map (λ lane. lane.calls.now) lanes

-- how the threads of lanes ended
abbrev pub ends_of : {J : Type 0} → List (Lane J) → List (Option WorkError)
ends_of lanes = map (λ lane. end_in lane.ran) lanes

-- what a lane has left was added to what those before it have left
pub record JoinsLane {J : Type 0} (old : Joined J) (lane : Lane J) (new : Joined J) : Type 0 where
  pub pass : JoinsPass old.pass lane.pass new.pass
  pub answers : new.threads ≡ old.threads ++ answers_in lane.ran ∷ []
  pub stop_is : new.stop ≡ stop_after old.stop (stop_at lane.pass.links.thread (end_in lane.ran))

-- the recipes of the forms that lanes have asked for, one lane after the other
abbrev pub lanes_edits : {J : Type 0} → Given → List (Lane J) → List (List Key)
lanes_edits given lanes = flat_map (λ lane. run_edits given lane.pass.links.attempts (thread_edits given.leaves lane.calls.now)) lanes

-- the types that lanes have asked for, one lane after the other
abbrev pub lanes_types : {J : Type 0} → Given → List (Lane J) → List MethodTy
lanes_types given lanes = flat_map (λ lane. run_types given lane.pass.links.attempts (thread_types given.leaves lane.calls.now)) lanes

-- what is known if a lane has stopped with this error, and the error is reported
abbrev pub StopsFor : {J : Type 0} → Joined J → WorkError → Type 0
StopsFor joined (FormsFull drawn) = IsOver drawn joined.pass.forms
StopsFor joined (TypesFull bucket) = HasNoSlot bucket joined.pass.types × Knows joined.pass.types
StopsFor joined NoMemory = Unit {0}

-- what is known by whether a lane has stopped, where constants have values that the joined pass has seen
abbrev pub EndsSoFar : {J : Type 0} → Given → PassView → List (Lane J) → Joined J → Option Stop → Type 0
EndsSoFar given base lanes joined None =
    ((before : List (List Key)) → HasAsked before base → HasAsked (before ++ lanes_edits given lanes) joined.pass.forms)
    × ((table : Serials) → HasSerials joined.pass.links.linked table → results_said joined.threads ≡ results_of given table (calls_of lanes))
    × ((table : Serials) → HasSerials joined.pass.links.linked table → keys_said joined.threads ≡ plan_keys given table (calls_of lanes))
EndsSoFar given base lanes joined (Some stop) = Unit {0}

-- the attempts of a lane have gone through the constants that their calls look at
abbrev pub HaveAsked : {J : Type 0} → Given → Pass J → Lane J → Type 0
HaveAsked given base lane = AsksMore given (split_pass lane.pass.links.thread base.links) lane.pass.links

-- and whatever values they have
abbrev pub EndsAnyhow : {J : Type 0} → Given → Pass J → List (Lane J) → Joined J → Option Stop → Type 0
EndsAnyhow given base lanes joined None = AreDone (calls_of lanes) (map passes_of lanes) × All (HaveAsked given base) lanes
EndsAnyhow given base lanes joined (Some stop) = StopsFor joined stop.error

-- what is known of the form numbers that these lanes have drawn, of this many, if the base has asked for the recipes before
pub record KnowsDraws {J : Type 0} (given : Given) (before : List (List Key)) (base : PassView) (count : ℕ) (lanes : List (Lane J)) (joined : Joined J)
    : Type 0 where
  pub few : HaveDrawnFew given before (calls_of lanes) (map passes_of lanes)
  pub room : joined.pass.forms.seat.room + length joined.pass.forms.seat.numbers + split_room * count
      ≡ base.seat.room + length base.seat.numbers + split_room * length lanes

-- passes over the constants were joined to that of a base: what each knows is known, and all that each has attempted, recorded and drawn is there
pub record JoinsConstants (base : Base) (all : List ThreadPasses) (joined : consts.PassView) : Type 0 where
  pub table : joined.table ≡ base.links.constants.table
  pub learnt : consts_known.Keeps base.links.constants.known joined.known
  pub known : All (λ p. consts_known.Keeps p.links.constants.known joined.known) all
  pub attempts : joined.attempts ≡ base.links.constants.attempts ++ flat_map (λ p. p.links.constants.attempts) all
  pub recorded : joined.recorded ≡ base.links.constants.recorded ++ flat_map (λ p. p.links.constants.recorded) all
  pub numbers : joined.seat.numbers ≡ base.links.constants.seat.numbers ++ flat_map (λ p. p.links.constants.seat.numbers) all
  pub each_once : EachOnce base.links.constants.seat.numbers → serials.KnowsAll joined.seat

-- P holds if the error is lack of forms
abbrev pub IfForms : WorkError → Type 0 → Type 0
IfForms (FormsFull drawn) P = P
IfForms (TypesFull bucket) P = Unit {0}
IfForms NoMemory P = Unit {0}

-- P holds if no lane has stopped, or if lack of forms is reported; then no lane lacked memory
abbrev pub IfDrawsKnown : Option Stop → Type 0 → Type 0
IfDrawsKnown None P = P
IfDrawsKnown (Some stop) P = IfForms stop.error P

-- these lanes, of this many, were joined to the base: it has what it had, and what they have
pub record AreJoinedSoFar {J : Type 0} (given : Given) (base : Pass J) (count : ℕ) (lanes : List (Lane J)) (joined : Joined J) : Type 0 where
  pub linker_is : joined.pass.links.linker ≡ base.links.linker
  pub table_is : joined.pass.forms.table ≡ base.forms.table
  pub types_is : joined.pass.types.table ≡ base.types.table
  pub used : AreUsed given (calls_of lanes) (map passes_of lanes)
  pub attempts : joined.pass.links.attempts ≡ base.links.attempts ++ flat_map (λ p. p.links.attempts) (map passes_of lanes)
  pub unlearnt : All (λ p. AreUnlearnt base.links p.links.attempts) (map passes_of lanes)
  pub numbers : joined.pass.links.seat.numbers ≡ base.links.seat.numbers ++ flat_map (λ p. p.links.seat.numbers) (map passes_of lanes)
  pub learnt : HasSerials base.links.linked joined.pass.links.linked
  pub linked : All (λ p. HasSerials p.links.linked joined.pass.links.linked) (map passes_of lanes)
  pub links_room : joined.pass.links.seat.room + length joined.pass.links.seat.numbers + split_room * count
      ≡ base.links.seat.room + length base.links.seat.numbers + split_room * length lanes
  pub links_known : EachOnce base.links.seat.numbers → serials.KnowsAll joined.pass.links.seat
  pub forms_numbers : joined.pass.forms.seat.numbers ≡ base.forms.seat.numbers ++ flat_map (λ p. p.forms.seat.numbers) (map passes_of lanes)
  pub forms_known : EachOnce base.forms.seat.numbers → forms_seat.KnowsAll joined.pass.forms.seat
  pub types_room : joined.pass.types.room + length joined.pass.types.holds + split_room * count
      ≡ base.types.room + length base.types.holds + split_room * length lanes
  pub linkages_kept : Keeps base.links.linkages joined.pass.links.linkages
  pub linkages : All (λ p. Keeps p.links.linkages joined.pass.links.linkages) (map passes_of lanes)
  pub constants : JoinsConstants (base_of base) (map passes_of lanes) joined.pass.links.constants
  pub resolved : All (λ p. HasResolved base.links p.links) (map passes_of lanes)
  pub constants_room : joined.pass.links.constants.seat.room + length joined.pass.links.constants.seat.numbers + split_room * count
      ≡ base.links.constants.seat.room + length base.links.constants.seat.numbers + split_room * length lanes
  pub types_held : At given joined.pass (λ g. HoldsInstead g base.links.recorded joined.pass.links.recorded base.types joined.pass.types)
  pub types_asked : At given joined.pass (λ g. WasAsked (base.types.asked ++ lanes_types g lanes) joined.pass.types)
  pub draws : At given joined.pass (λ g. (before : List (List Key)) → HasAsked before base.forms
      → IfDrawsKnown joined.stop (KnowsDraws g before base.forms count lanes joined))
  pub stop_is : joined.stop ≡ stop_of (ends_of lanes)
  pub ends : EndsAnyhow given base lanes joined joined.stop
  pub ends_at : At given joined.pass (λ g. EndsSoFar g base.forms lanes joined joined.stop)

-- these lanes were joined of those that were forked off the base for the threads
pub record AreJoinedTo {J : Type 0} (given : Given) (base : Pass J) (threads : List (List Call)) (before after : List (Lane J)) (joined : Joined J)
    : Type 0 where
  pub fresh : AreFresh given base threads before
  pub calls : calls_of after ≡ take (length after) threads
  pub made : HaveMade given (base_of base) (calls_of after) (ends_of after)
  pub so_far : AreJoinedSoFar given base (length threads) after joined

-- the lanes of all threads were joined to the base
abbrev pub AreAllJoined : {J : Type 0} → Given → Pass J → List (List Call) → Joined J → Type 0
AreAllJoined {J} given base threads joined =
    (before after : List (Lane J)) × AreJoinedTo given base threads before after joined × (length after ≡ length threads)

-- all lanes have made their calls to their end, and their passes are joined to one with which nothing was done
pub record IsJoinedRun {J : Type 0} (given : Given) (lanes : List (Lane J)) (joined : Joined J) : Type 0 where
  pub used : AreUsed given (calls_of lanes) (map passes_of lanes)
  pub done : AreDone (calls_of lanes) (map passes_of lanes)
  pub links : AreJoined (map passes_of lanes) joined.pass.links
  pub forms : AreFormsJoined (map passes_of lanes) joined.pass.forms
  pub asked : HasAsked (edits_of given (calls_of lanes) (map passes_of lanes)) joined.pass.forms
  pub results : (table : Serials) → HasSerials joined.pass.links.linked table → results_said joined.threads ≡ results_of given table (calls_of lanes)
  pub keys : (table : Serials) → HasSerials joined.pass.links.linked table → keys_said joined.threads ≡ plan_keys given table (calls_of lanes)
