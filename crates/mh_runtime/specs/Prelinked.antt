-- What workers leave together that have linked the call sites of a run, once their passes are joined to the first pass.
use Rattle.std.specs.Prelude.{◌≡◌, ℕ, ◌+◌, ◌*◌, ◌<◌, ◌≤◌, List, [], length, map, All, Option, None, Some, slice_get}
use Rattle.std.specs.List.{flat_map}
use Rattle.mh_values.specs.declared.types.MethodTy.{MethodTy}
use Rattle.mh_edit.specs.declared.key.Key.{Key}
use Rattle.mh_seats.specs.Room.{limit, times}
use Rattle.mh_handle.specs.Passes.{PassView}
use Rattle.mh_handle.specs.Seats as forms_seat
use Rattle.mh_intern.specs.Seats.{Knows}
use Rattle.mh_tickets.specs.Seats as serials
use Rattle.mh_jobs.specs.Given.{Given}
use Rattle.mh_attempt.specs.declared.error.WorkError.{WorkError}
use Rattle.mh_attempt.specs.declared.error.WorkError.TheVariants.{NoMemory, FormsFull, TypesFull}
use Rattle.mh_attempt.specs.Asked.{HasAsked, HasDrawn, IsOver}
use Rattle.mh_attempt.specs.AskedTypes.{HasNoSlot}
use Rattle.mh_plan.specs.Plan.{most_threads}
use Rattle.mh_prelink.specs.Results.{all_taken}
use Rattle.mh_runtime.specs.declared.linker.Linker.{Linker}
use Rattle.mh_runtime.specs.declared.pass.Pass.{Pass}
use Rattle.mh_runtime.specs.declared.prelinking.Prelinked.{Prelinked}
use Rattle.mh_runtime.specs.declared.stops.Stop.{Stop}
use Rattle.mh_runtime.specs.Asking.{LacksRoom, WasAsked, run_edits, run_types}
use Rattle.mh_cells.specs.Values.{Keeps}
use Rattle.mh_condy.specs.Passes as consts
use Rattle.mh_runtime.specs.Attempts.{AreLinked, AsksMore, GoesOnLinking, IsThreadRun}
use Rattle.mh_runtime.specs.Bases.{base_of}
use Rattle.mh_runtime.specs.Joined.{passes_in}
use Rattle.mh_runtime.specs.Joining.{IfDrawsKnown, IsLeft, JoinsConstants}
use Rattle.mh_runtime.specs.Lanes.{HasResolved}
use Rattle.mh_runtime.specs.Linking.{HoldsJust}
use Rattle.mh_runtime.specs.Passes.{HasSerials, LinkPass, most_sites, split_pass, split_room}
use Rattle.mh_runtime.specs.RunStops.{HasWorked}
use Rattle.mh_runtime.specs.Stops.{ending, stops_after}
use Rattle.mh_runtime.specs.Values.{At}
use Rattle.mh_runtime.specs.Workers.{AreSplitFor, Worker, first_of, most_workers}

-- ---- before the work

-- passes were split off the first pass for workers from this number on, of this many, and nothing was done yet
pub record AreSplitOff {J : Type 0} (given : Given) (linker : Linker J) (table : consts.TableView) (first count : ℕ) (passes : List (Pass J))
    (state : Prelinked J) : Type 0 where
  pub leaves : linker.leaves.now ≡ given.leaves
  pub few_threads : first ≤ most_threads
  pub few_workers : count ≤ most_workers
  pub few_sites : length given.jobs ≤ most_sites
  pub few_constants : length given.constants ≤ split_room
  pub left : IsLeft (length passes) (first_of given linker table) state.pass
  pub none : state.stop ≡ None
  pub each : AreSplitFor given linker table first passes

-- ---- one worker

-- it has drawn at most one number for each form that its attempts need
abbrev pub DrawsOwn : {J : Type 0} → Given → Worker J → Type 0
DrawsOwn given w = HasDrawn split_room (run_edits given w.pass.links.attempts []) w.pass.forms

-- it has asked for the forms that its attempts need
abbrev pub AsksOwn : {J : Type 0} → Given → Worker J → Type 0
AsksOwn given w = HasAsked (run_edits given w.pass.links.attempts []) w.pass.forms

-- what is known of it by how it ended; if memory ran out, nothing
abbrev pub EndsWork : {J : Type 0} → Given → Worker J → Option WorkError → Type 0
EndsWork given w None = DrawsOwn given w × AsksOwn given w
EndsWork given w (Some (FormsFull drawn)) = DrawsOwn given w
EndsWork given w (Some (TypesFull bucket)) = DrawsOwn given w
EndsWork given w (Some NoMemory) = Unit {0}

-- and whatever values constants have: it has linked what it took, and its attempts have gone through the constants that their calls look at
abbrev pub EndsTaken : {J : Type 0} → Given → LinkPass → Worker J → Option WorkError → Type 0
EndsTaken given base w None = AreLinked w.pass.links.linked w.taken × AsksMore given base w.pass.links
EndsTaken given base w (Some stop) = Unit {0}

-- a worker of this number, whose pass was split off the first one, has taken numbers of sites and attempted no others
pub record HasTaken {J : Type 0} (given : Given) (linker : Linker J) (table : consts.TableView) (thread : ℕ) (w : Worker J) : Type 0 where
  pub linker_is : w.pass.links.linker ≡ linker.sites
  pub table_is : w.pass.forms.table ≡ linker.forms.now
  pub types_is : w.pass.types.table ≡ linker.types.now
  pub thread_is : w.pass.links.thread ≡ thread
  pub run : IsThreadRun w.taken w.pass.links
  pub whole : w.pass.links.seat.room + length w.pass.links.seat.numbers ≡ split_room
  pub types_whole : w.pass.types.room + length w.pass.types.holds ≡ split_room
  pub linkages : GoesOnLinking (length w.taken) (split_pass thread (first_of given linker table).links) w.pass.links
  pub types_held : At given w.pass (λ g. HoldsJust g w.pass.links.recorded w.pass.types)
  pub types_asked : At given w.pass (λ g. WasAsked (run_types g w.pass.links.attempts []) w.pass.types)
  pub lacks : LacksRoom w.pass.forms w.pass.types (ending w.stop)
  pub worked : HasWorked given (base_of (first_of given linker table)) thread w.stop
  pub resolved : HasResolved (first_of given linker table).links w.pass.links
  pub taken : EndsTaken given (split_pass thread (first_of given linker table).links) w w.stop
  pub ends : At given w.pass (λ g. EndsWork g w w.stop)

-- ---- several

-- a worker of this number has used its pass for the sites whose numbers it took
pub record IsRunOf {J : Type 0} (thread : ℕ) (w : Worker J) : Type 0 where
  pub thread_is : w.pass.links.thread ≡ thread
  pub run : IsThreadRun w.taken w.pass.links

-- so have these, from this number on
abbrev pub AreRunsOf : {J : Type 0} → ℕ → List (Worker J) → Type 0
AreRunsOf {J} first workers = (n : ℕ) (w : Worker J) → slice_get workers n ≡ Some w → IsRunOf (first + n) w

-- the recipes of the forms that workers have asked for, one worker after the other
abbrev pub workers_edits : {J : Type 0} → Given → List (Worker J) → List (List Key)
workers_edits given workers = flat_map (λ w. run_edits given w.pass.links.attempts []) workers

-- the types that they have asked for
abbrev pub workers_types : {J : Type 0} → Given → List (Worker J) → List MethodTy
workers_types given workers = flat_map (λ w. run_types given w.pass.links.attempts []) workers

-- how workers ended
abbrev pub stops_of : {J : Type 0} → List (Worker J) → List (Option WorkError)
stops_of workers = map (λ w. w.stop) workers

-- what is known if a worker has stopped with this error, and the error is reported
abbrev pub StopsWork : {J : Type 0} → Pass J → WorkError → Type 0
StopsWork pass (FormsFull drawn) = IsOver drawn pass.forms
StopsWork pass (TypesFull bucket) = HasNoSlot bucket pass.types × Knows pass.types
StopsWork pass NoMemory = Unit {0}

-- each worker has linked the sites whose numbers it took
abbrev pub HaveLinked : {J : Type 0} → List (Worker J) → Type 0
HaveLinked workers = All (λ w. AreLinked w.pass.links.linked w.taken) workers

-- and its attempts have gone through the constants that their calls look at
abbrev pub HaveAskedAll : {J : Type 0} → Given → LinkPass → List (Worker J) → Type 0
HaveAskedAll given first workers = All (λ w. AsksMore given (split_pass w.pass.links.thread first) w.pass.links) workers

-- what is known by whether a worker has stopped
abbrev pub WorkersEnd : {J : Type 0} → Given → List (Worker J) → Pass J → Option Stop → Type 0
WorkersEnd given workers pass None = HasAsked (workers_edits given workers) pass.forms
WorkersEnd given workers pass (Some stop) = Unit {0}

-- and whatever values constants have
abbrev pub WorkersEndAnyhow : {J : Type 0} → Given → LinkPass → List (Worker J) → Pass J → Option Stop → Type 0
WorkersEndAnyhow given first workers pass None = HaveLinked workers × HaveAskedAll given first workers
WorkersEndAnyhow given first workers pass (Some stop) = StopsWork pass stop.error

-- what is known of the form numbers that these workers have drawn, of this many
pub record KnowsOwnDraws {J : Type 0} (given : Given) (count : ℕ) (workers : List (Worker J)) (forms : PassView) : Type 0 where
  pub few : All (λ w. DrawsOwn given w) workers
  pub room : forms.seat.room + length forms.seat.numbers + split_room * count ≡ limit + split_room * length workers

-- these workers, of this many, were joined to the first pass
pub record AreGathered {J : Type 0} (given : Given) (linker : Linker J) (table : consts.TableView) (first count : ℕ) (workers : List (Worker J))
    (state : Prelinked J) : Type 0 where
  pub linker_is : state.pass.links.linker ≡ linker.sites
  pub table_is : state.pass.forms.table ≡ linker.forms.now
  pub types_is : state.pass.types.table ≡ linker.types.now
  pub used : AreRunsOf first workers
  pub worked : (n : ℕ) (w : Worker J) → slice_get workers n ≡ Some w → HasWorked given (base_of (first_of given linker table)) (first + n) w.stop
  pub attempts : state.pass.links.attempts ≡ flat_map (λ w. w.pass.links.attempts) workers
  pub numbers : state.pass.links.seat.numbers ≡ flat_map (λ w. w.pass.links.seat.numbers) workers
  pub linked : All (λ w. HasSerials w.pass.links.linked state.pass.links.linked) workers
  pub links_room : state.pass.links.seat.room + length state.pass.links.seat.numbers + split_room * count ≡ limit + split_room * length workers
  pub links_left : limit ≤ state.pass.links.seat.room + split_room * count
  pub links_known : serials.KnowsAll state.pass.links.seat
  pub forms_numbers : state.pass.forms.seat.numbers ≡ flat_map (λ w. w.pass.forms.seat.numbers) workers
  pub forms_left : limit ≤ state.pass.forms.seat.room + split_room * count
  pub forms_known : forms_seat.KnowsAll state.pass.forms.seat
  pub types_room : state.pass.types.room + length state.pass.types.holds + split_room * count ≡ limit + split_room * length workers
  pub types_left : limit ≤ state.pass.types.room + split_room * count
  pub linkages : All (λ w. Keeps w.pass.links.linkages state.pass.links.linkages) workers
  pub constants : JoinsConstants (base_of (first_of given linker table)) (map (λ w. passes_in w.pass) workers) state.pass.links.constants
  pub resolved : All (λ w. HasResolved (first_of given linker table).links w.pass.links) workers
  pub constants_room : state.pass.links.constants.seat.room + length state.pass.links.constants.seat.numbers + split_room * count
      ≡ limit + split_room * length workers
  pub constants_left : limit ≤ state.pass.links.constants.seat.room + split_room * count
  pub types_held : At given state.pass (λ g. HoldsJust g state.pass.links.recorded state.pass.types)
  pub types_asked : At given state.pass (λ g. WasAsked (workers_types g workers) state.pass.types)
  pub draws : At given state.pass (λ g. IfDrawsKnown state.stop (KnowsOwnDraws g count workers state.pass.forms))
  pub stop_is : state.stop ≡ stops_after first None (stops_of workers)
  pub ends : WorkersEndAnyhow given (first_of given linker table).links workers state.pass state.stop
  pub ends_at : At given state.pass (λ g. WorkersEnd g workers state.pass state.stop)

-- these workers were joined, of those that have passes
pub record AreGatheredOf {J : Type 0} (given : Given) (linker : Linker J) (table : consts.TableView) (first count : ℕ) (before : List (Pass J))
    (after : List (Worker J))
    (state : Prelinked J) : Type 0 where
  pub leaves : linker.leaves.now ≡ given.leaves
  pub count_is : length before ≡ count
  pub each : AreSplitFor given linker table first before
  pub gathered : AreGathered given linker table first count after state

-- All workers, which have the numbers after those of the threads, were joined. No site was taken twice, and each was taken if none stopped.
pub record IsPrelinked {J : Type 0} (given : Given) (linker : Linker J) (table : consts.TableView) (threads workers : ℕ) (state : Prelinked J) : Type 0 where
  pub all : List (Worker J)
  pub leaves : linker.leaves.now ≡ given.leaves
  pub count : length all ≡ workers
  pub few : workers ≤ most_workers
  pub gathered : AreGathered given linker table threads workers all state
  pub below : All (λ site. site < length given.jobs) (all_taken all)
  pub once : (site : ℕ) → times site (all_taken all) ≤ 1
  pub every : state.stop ≡ None → (site : ℕ) → site < length given.jobs → times site (all_taken all) ≡ 1
