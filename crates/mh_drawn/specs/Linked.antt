-- What call sites are linked to, one attempt at each, in their order, and what the dynamic constants are that they ask.
use Rattle.std.specs.Prelude.{◌≡◌, ◌<◌, ◌≤◌, ℕ, zero, suc, ◌+◌, ◌*◌, ◌^◌, List, [], ◌++◌, length, map, take, All, Some, slice_get}
use Rattle.std.specs.List.{flat_map}
use Rattle.std.specs.Set.{distinct_count}
use Rattle.mh_values.specs.declared.types.MethodTy.{MethodTy}
use Rattle.mh_edit.specs.declared.key.Key.{Key}
use Rattle.mh_seats.specs.Room.{limit}
use Rattle.mh_tickets.specs.Seats.{new_seat}
use Rattle.mh_intern.specs.declared.holding.FullBucket.{FullBucket}
use Rattle.mh_intern.specs.Held.{on_type, times_type}
use Rattle.mh_intern.specs.Interning.{IsFullFor}
use Rattle.mh_intern.specs.Views.{SeatView}
use Rattle.mh_handle.specs.declared.work.Work.{Work}
use Rattle.mh_handle.specs.Form.{most_forms}
use Rattle.mh_handle.specs.Passes.{IsPassOf, PassView}
use Rattle.mh_handle.specs.Recipe.{recipe}
use Rattle.mh_handle.specs.SameRecipes.{same_recipe}
use Rattle.mh_handle.specs.Works.{leaves_of, most_held}
use Rattle.mh_jobs.specs.declared.job.Job.{Job}
use Rattle.mh_jobs.specs.declared.unresolved.StaticArguments.{StaticArguments}
use Rattle.mh_jobs.specs.Given.{Found, Given, under}
use Rattle.mh_jobs.specs.Thrown.{OrThrown}
use Rattle.mh_link.specs.Asking.{asked_by_all, asked_of_call}
use Rattle.mh_link.specs.Constants.{Serials, serial_at, values_of}
use Rattle.mh_link.specs.Named.{run_of}
use Rattle.mh_link.specs.Places.{Has, first_places}
use Rattle.mh_link.specs.Resolved.{arguments_of_site}
use Rattle.mh_link.specs.Sites.{edits_at, linked_at, types_at, with_serials}
use Rattle.mh_condy.specs.Nodes.{Nodes, found_in, node_in, unresolved}
use Rattle.mh_condy.specs.Passes as consts
use Rattle.mh_condy.specs.Recorded.{ConstView, FindingView}
use Rattle.mh_condy.specs.Resolving.{GoesOnResolving}
use Rattle.mh_condy.specs.Runs.{AreResolvable}
use Rattle.mh_condy.specs.Trails.{GoesBeside, trail_of}
use Rattle.mh_attempt.specs.declared.error.WorkError.{WorkError}
use Rattle.mh_attempt.specs.declared.error.WorkError.TheVariants as work
use Rattle.mh_attempt.specs.Asked.{DrawsWithin, HasAsked, HasDrawn, IsOver, attempt_draws}
use Rattle.mh_attempt.specs.AskedTypes.{HasNoSlot}
use Rattle.mh_attempt.specs.Constants.{HasPlaces}
use Rattle.mh_attempt.specs.Linkage.{IsLinkedBy, LinkageView}
use Rattle.mh_drawing.specs.declared.place.Place.{Place}
use Rattle.mh_drawing.specs.declared.site.Site.{Site}

-- the serial of the attempt at a call site: attempts are numbered from 1, in the order of the call sites
abbrev pub serial_of : ℕ → ℕ
serial_of site = site + 1

-- ---- dynamic constants

-- the static arguments of the calls of the first call sites, so many of them
abbrev pub calls_to : Given → ℕ → List (OrThrown StaticArguments)
calls_to given count = map (λ (job : Job). arguments_of_site job.call) (take count given.jobs)

-- the constants that these call sites ask, by the serials of a table: each once, in the order in which they are first asked
abbrev pub asked_to : Given → Serials → ℕ → List ℕ
asked_to given table count = first_places [] (asked_by_all (run_of given) table (calls_to given count))

-- The table has the serials of the constants after attempts at this many call sites. Each constant that these ask is attempted once, in the order in which they
-- are first asked, and its serial is the number of its attempt, from 1. No other constant has a serial.
pub record AreNumbered (given : Given) (count : ℕ) (table : Serials) : Type 0 where
  pub entries : length table ≡ length given.constants
  pub numbered : (place c : ℕ) → slice_get (asked_to given table count) place ≡ Some c → serial_at table c ≡ Some (place + 1)
  pub only : (c serial : ℕ) → serial_at table c ≡ Some serial → Has (asked_to given table count) c

-- ---- call sites

-- The call site has this number, and stands at the place of this number. What is linked is what the attempt with its serial links: a handle that stands for the
-- target, or the same error.
pub record IsAnswered (given : Given) (places : List Place) (number : ℕ) (site : Site) : Type 0 where
  pub number_is : site.number ≡ number
  pub place_is : slice_get places number ≡ Some site.place.now
  pub serial_is : site.serial ≡ serial_of number
  pub right : IsLinkedBy given.leaves site.linked.now (linked_at given number (serial_of number))

-- there is a call site for each place, and each is answered
abbrev pub AreAnswered : Given → List Place → List Site → Type 0
AreAnswered given places sites =
    (length sites ≡ length places) × ((number : ℕ) (site : Site) → slice_get sites number ≡ Some site → IsAnswered given places number site)

-- ---- what attempts ask for

-- the recipes that the attempts at the first call sites make, at this many of them
abbrev pub edits_to : Given → ℕ → List (List Key)
edits_to given zero = []
edits_to given (suc site) = edits_to given site ++ edits_at (recipe given.leaves) given site (serial_of site)

-- the types of the nodes that they make
abbrev pub types_to : Given → ℕ → List MethodTy
types_to given zero = []
types_to given (suc site) = types_to given site ++ types_at given site (serial_of site)

-- this holds of some of the first call sites, where constants are what they are by the serials of the attempts that these ask for
abbrev pub OfFirstSites : Given → (Given → ℕ → Type 0) → Type 0
OfFirstSites given P = (count : ℕ) × (table : Serials) × (count ≤ length given.jobs) × AreNumbered given count table × P (with_serials table given) count

-- the first call sites, some of them, need more forms than there are
abbrev pub NeedsManyForms : Given → Type 0
NeedsManyForms given = OfFirstSites given (λ g count. most_forms < distinct_count same_recipe (edits_to g count))

-- a bucket is full, and these are types that it has, and one more of it that it lacks
abbrev pub FillBucket : List MethodTy → Type 0
FillBucket types =
    (t : MethodTy) × (full : FullBucket) × IsFullFor t full × (1 ≤ times_type t types)
    × ((u : MethodTy) → 0 < on_type u full.entries → 1 ≤ times_type u types)

-- the first call sites, some of them, need more types of a bucket than it has slots
abbrev pub NeedsManyTypes : Given → Type 0
NeedsManyTypes given = OfFirstSites given (λ g count. FillBucket (types_to g count))

-- ---- what is known of constants

-- the dynamic constants of a run can be resolved, and each constant that a job of a call site has is one of the run's
pub record AreConstantsOf (given : Given) : Type 0 where
  pub are : AreResolvable (run_of given)
  pub named : (site : ℕ) (job : Job) → slice_get given.jobs site ≡ Some job → HasPlaces given job

-- each constant that is known has its recorded value
abbrev pub GivesNodes : Found → Nodes → Type 0
GivesNodes known nodes = (c : ℕ) (node : ConstView) → node_in nodes c ≡ Some node → known c ≡ Some node.value

-- this holds of what a run is given under all values that constants may have by what is known of them
abbrev pub AtNodes : Given → Nodes → (Given → Type 0) → Type 0
AtNodes given nodes P = (known : Found) → GivesNodes known nodes → P (under known given)

-- a pass over the constants of a run that has learnt of none, with all the room
abbrev pub unused : Given → consts.TableView → consts.PassView
unused given table = consts.pass_at table 0 (length given.constants) (new_seat table.serials limit)

-- from such a pass on, the constants that this many call sites ask were gone through, one call site after the other
pub record HasResolved (given : Given) (count : ℕ) (constants : consts.PassView) : Type 0 where
  pub on : GoesOnResolving (unused given constants.table) constants
  pub goes : GoesBeside (run_of given) (flat_map (asked_of_call (found_in constants.known)) (calls_to given count)) (trail_of (unused given constants.table))
      (trail_of constants)

-- ---- steps

-- the seat was asked for no types but these
abbrev pub WasAsked : List MethodTy → SeatView → Type 0
WasAsked types seat = (t : MethodTy) → times_type t types ≡ 0 → times_type t seat.asked ≡ 0

-- after attempts at this many call sites: what room is left for numbers of forms and for types
pub record HasRoomAfter (count : ℕ) (pass : PassView) (seat : SeatView) : Type 0 where
  pub numbers : 2 ^ 62 ≤ pass.seat.room + attempt_draws * count
  pub holds : 2 ^ 62 ≤ seat.room + most_held * (attempt_draws * count)
  pub whole : seat.room + length seat.holds ≡ 2 ^ 62

-- what all of these attempts have asked for, if they were made to their end
pub record HasAskedFor (given : Given) (count : ℕ) (pass : PassView) (seat : SeatView) : Type 0 where
  pub asked : HasAsked (edits_to given count) pass
  pub types : WasAsked (types_to given count) seat

-- all of these attempts were made to their end
pub record HasLinked (given : Given) (count : ℕ) (pass : PassView) (seat : SeatView) (constants : consts.PassView) : Type 0 where
  pub room : HasRoomAfter count pass seat
  pub within : DrawsWithin (2 ^ 62) pass
  pub asked_for : AtNodes given constants.known (λ g. HasAskedFor g count pass seat)
  pub resolved : HasResolved given count constants
  -- there is room for as many serials of constants as there are constants that are not known
  pub serials : unresolved constants.known ≤ constants.seat.room

-- the last of these attempts stopped: no number was left for a form, or no slot for a type
abbrev pub HasStopped : Given → ℕ → PassView → SeatView → WorkError → Type 0
HasStopped given count pass seat work.NoMemory = Unit {0}
HasStopped given count pass seat (work.FormsFull drawn) =
    HasRoomAfter count pass seat × HasDrawn (2 ^ 62) (edits_to given count) pass × IsOver drawn pass
HasStopped given count pass seat (work.TypesFull bucket) =
    HasRoomAfter count pass seat × WasAsked (types_to given count) seat × HasNoSlot bucket seat

-- so it is under all values that constants may have by what is known of them
abbrev pub HasStoppedAt : Given → ℕ → PassView → SeatView → consts.PassView → WorkError → Type 0
HasStoppedAt given count pass seat constants error = HasResolved given count constants × AtNodes given constants.known (λ g. HasStopped g count pass seat error)

-- the last of these attempts stopped, once it had gone through the constants that its call site asks; if memory ran out, nothing is known
abbrev pub StopsAttempt : Given → ℕ → PassView → SeatView → consts.PassView → WorkError → Type 0
StopsAttempt given count pass seat constants work.NoMemory = Unit {0}
StopsAttempt given count pass seat constants (work.FormsFull drawn) = HasStoppedAt given count pass seat constants (work.FormsFull drawn)
StopsAttempt given count pass seat constants (work.TypesFull bucket) = HasStoppedAt given count pass seat constants (work.TypesFull bucket)

-- one of the attempts stopped
abbrev pub StopsAttempts : Given → PassView → SeatView → consts.PassView → WorkError → Type 0
StopsAttempts given pass seat constants error = (count : ℕ) × (count ≤ length given.jobs) × StopsAttempt given count pass seat constants error

-- one of the attempts stopped, where constants are what they are by the serials of their attempts
abbrev pub StopsLinking : Given → PassView → SeatView → WorkError → Type 0
StopsLinking given pass seat work.NoMemory = Unit {0}
StopsLinking given pass seat (work.FormsFull drawn) = OfFirstSites given (λ g count. HasStopped g count pass seat (work.FormsFull drawn))
StopsLinking given pass seat (work.TypesFull bucket) = OfFirstSites given (λ g count. HasStopped g count pass seat (work.TypesFull bucket))

-- the work has the run's leaves, and its pass and its seat are of its tables
pub record IsOf (given : Given) (w : Work) : Type 0 where
  pub leaves : leaves_of w ≡ given.leaves
  pub forms : IsPassOf w.forms.now w.pass.now
  pub types : w.seat.now.table ≡ w.types.now

-- the work has the same tables, and still has the pass and the seat that were lent to it
pub record StaysLent (old new : Work) : Type 0 where
  pub types : new.types ≡ old.types
  pub lent : new.seat.ghost_name ≡ old.seat.ghost_name
  pub forms : new.forms ≡ old.forms
  pub borrow : new.pass.ghost_name ≡ old.pass.ghost_name

-- ---- linkages

-- constants have these values by what an attempt has found of one
abbrev pub Gives : Found → FindingView → Type 0
Gives known f = known f.constant ≡ Some f.value

-- the linkage is that of the call site of this number, and constants have the values that its attempt has found of them
pub record IsLinkageOf (known : Found) (number : ℕ) (linkage : LinkageView) : Type 0 where
  pub site : linkage.job.site ≡ number
  pub serial : linkage.serial ≡ serial_of number
  pub found : All (Gives known) linkage.under

-- there are this many linkages, each of the call site with its number
abbrev pub AreLinkages : Found → ℕ → List LinkageView → Type 0
AreLinkages known count linkages =
    (length linkages ≡ count) × ((number : ℕ) (linkage : LinkageView) → slice_get linkages number ≡ Some linkage → IsLinkageOf known number linkage)

-- All call sites were linked. The linkages are those of all of them, and the forms are those that they asked for, where constants are what they are by the
-- serials of their attempts.
pub record IsLinked (given : Given) (pass : PassView) (linkages : List LinkageView) : Type 0 where
  pub table : Serials
  pub numbered : AreNumbered given (length given.jobs) table
  pub asked : HasAsked (edits_to (with_serials table given) (length given.jobs)) pass
  pub each : AreLinkages (values_of (run_of given) table) (length given.jobs) linkages
