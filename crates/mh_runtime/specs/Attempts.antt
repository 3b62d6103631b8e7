-- The attempts of one thread: the first call that names a site attempts it, unless the pass has learnt a linkage of that site by then.
use Rattle.std.specs.Prelude.{◌≡◌, ◌≢◌, ℕ, ◌+◌, ◌<◌, ◌≤◌, ◌==◌, List, [], ◌++◌, length, map, filter, All, AllPairs, Contains, IsSome, Some, slice_get}
use Rattle.std.specs.List.{flat_map, list_any}
use Rattle.std.specs.Option.{option_map_or}
use Rattle.mh_cells.specs.Values.{Keeps}
use Rattle.mh_condy.specs.Nodes.{found_in, unresolved}
use Rattle.mh_condy.specs.Resolving.{GoesOnResolving}
use Rattle.mh_condy.specs.Trails.{GoesBeside, trail_of}
use Rattle.mh_jobs.specs.Given.{Found, Given}
use Rattle.mh_link.specs.Asking.{asked_at}
use Rattle.mh_link.specs.Named.{run_of}
use Rattle.mh_plan.specs.Naming.{first_places}
use Rattle.mh_report.specs.declared.attempt.Attempt.{Attempt}
use Rattle.mh_report.specs.Results.{Serials, serial_at}
use Rattle.mh_runtime.specs.Passes.{HasSerials, LinkPass}

-- each of these sites has a serial
abbrev pub AreLinked : Serials → List ℕ → Type 0
AreLinked linked sites = All (λ site. IsSome (serial_at linked site)) sites

-- the pass has attempted this site with this serial, and has recorded the attempt
abbrev pub HasRecorded : LinkPass → ℕ → ℕ → Type 0
HasRecorded pass site serial = (a : Attempt) × Contains pass.recorded a × Contains pass.attempts a × (a.serial ≡ serial) × (a.site ≡ site)

-- each serial is that of an attempt of its site that the pass has recorded
abbrev pub AreRecorded : LinkPass → Serials → Type 0
AreRecorded pass table = (site serial : ℕ) → serial_at table site ≡ Some serial → HasRecorded pass site serial

-- the sites of attempts, in order
abbrev pub sites_of : List Attempt → List ℕ
sites_of attempts = map (λ a. a.site) attempts

-- one thread has used the pass, whose calls name these sites: it has attempted no site twice, and sites in the order in which its calls first name them
pub record IsThreadRun (sites : List ℕ) (pass : LinkPass) : Type 0 where
  -- the attempts have the serials that were drawn, which rise
  pub numbered : map (λ a. a.serial) pass.attempts ≡ pass.seat.numbers
  pub rising : AllPairs (λ a b. a.serial < b.serial) pass.attempts
  pub own : All (λ a. a.thread ≡ pass.thread) pass.attempts
  pub apart : AllPairs (λ a b. a.site ≢ b.site) pass.attempts
  pub reached : All (λ a. Contains sites a.site) pass.attempts
  pub in_order : sites_of pass.attempts ≡ filter (λ k. list_any (λ s. s == k) (sites_of pass.attempts)) (first_places [] sites)

-- calls that name these sites were made, if those before were made to their end
abbrev pub AttemptsMore : List ℕ → LinkPass → LinkPass → Type 0
AttemptsMore more old new = (sites : List ℕ) → AreLinked old.linked sites → IsThreadRun sites old → IsThreadRun (sites ++ more) new

-- the pass stays with its linker and its thread, what it has linked stays so, and at most this many serials were drawn
pub record GoesOnLinking (serials : ℕ) (old new : LinkPass) : Type 0 where
  pub linker : new.linker ≡ old.linker
  pub thread : new.thread ≡ old.thread
  pub linked : HasSerials old.linked new.linked
  pub room : old.seat.room ≤ new.seat.room + serials
  pub whole : new.seat.room + length new.seat.numbers ≡ old.seat.room + length old.seat.numbers
  pub linkages : Keeps old.linkages new.linkages
  -- constants were resolved, each with a serial that was drawn for it
  pub constants : GoesOnResolving old.constants new.constants

-- ---- dynamic constants

-- the constants that the calls of attempts look at themselves, where constants are what they are known to be
abbrev pub looked_at : Given → Found → List Attempt → List ℕ
looked_at given known attempts = flat_map (λ a. option_map_or (asked_at known) (slice_get given.jobs a.site) []) attempts

-- the attempts that came have gone through the constants that their calls look at, one after the other
pub record AsksMore (given : Given) (old new : LinkPass) : Type 0 where
  pub more : List Attempt
  pub are : new.attempts ≡ old.attempts ++ more
  pub goes : GoesBeside (run_of given) (looked_at given (found_in new.constants.known) more) (trail_of old.constants) (trail_of new.constants)

-- at most as many serials of constants were drawn as there were constants that the pass had not learnt
abbrev pub DrawsOnce : LinkPass → LinkPass → Type 0
DrawsOnce old new = old.constants.seat.room ≤ unresolved old.constants.known + new.constants.seat.room

-- constants were resolved only where a site was attempted
abbrev pub ResolvesForAttempts : LinkPass → LinkPass → Type 0
ResolvesForAttempts old new = new.attempts ≡ old.attempts → new.constants ≡ old.constants

-- there is room for as many serials of constants as there are constants that the pass has not learnt
abbrev pub HasRoomForConstants : LinkPass → Type 0
HasRoomForConstants links = unresolved links.constants.known ≤ links.constants.seat.room
