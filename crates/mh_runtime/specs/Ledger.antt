-- By which attempt each site of a run is linked.
use Rattle.std.specs.Prelude.{◌≡◌, ◌≢◌, ℕ, ◌+◌, ◌<◌, ◌≤◌, ◌==◌, ◌↔◌, List, [], Option, Some, IsSome, length, map, filter, slice_get, All, Contains, AllPairs}
use Rattle.std.specs.List.{flat_map, range_with_len, list_any}
use Rattle.mh_plan.specs.Naming.{Naming, first_places}
use Rattle.mh_report.specs.declared.attempt.Attempt.{Attempt}
use Rattle.mh_report.specs.Results.{Serials, serial_at}

-- some thread's calls name the site
abbrev pub IsNamed : Naming → ℕ → Type 0
IsNamed naming site = (thread : ℕ) × (sites : List ℕ) × (slice_get naming thread ≡ Some sites) × Contains sites site

-- the thread of an attempt has a call that names its site
abbrev pub IsReached : Naming → Attempt → Type 0
IsReached naming a = (sites : List ℕ) × (slice_get naming a.thread ≡ Some sites) × Contains sites a.site

-- the sites of one thread's attempts, in order
abbrev pub attempted_by : ℕ → List Attempt → List ℕ
attempted_by thread attempts = map (λ a. a.site) (filter (λ a. a.thread == thread) attempts)

-- a table with the serial of the attempt by which each site is linked, over all attempts of a run
pub record Ledger (naming : Naming) (sites : ℕ) (table : Serials) (attempts : List Attempt) : Type 0 where
  -- there is one entry for each site, and the serials are 1 to the number of attempts, in order
  pub entries : length table ≡ sites
  pub serials : map (λ a. a.serial) attempts ≡ range_with_len 1 (length attempts)
  -- a site has a serial if and only if some call names it
  pub named : (site : ℕ) (entry : Option ℕ) → slice_get table site ≡ Some entry → (IsSome entry ↔ IsNamed naming site)
  -- the attempt of that serial is one of that site
  pub own : (site serial : ℕ) → slice_get table site ≡ Some (Some serial)
      → (a : Attempt) × Contains attempts a × (a.serial ≡ serial) × (a.site ≡ site)
  -- no thread attempts a site twice, and each attempt is of a site that its thread names
  pub once : AllPairs (λ a b. a.thread ≡ b.thread → a.site ≢ b.site) attempts
  pub reached : (a : Attempt) → Contains attempts a → IsReached naming a
  -- each thread attempts sites in the order in which its calls first name them
  pub in_order : (thread : ℕ) (sites : List ℕ) → slice_get naming thread ≡ Some sites
      → attempted_by thread attempts ≡ filter (λ k. list_any (λ s. s == k) (attempted_by thread attempts)) (first_places [] sites)

-- ---- with workers

-- the workers of a run have the numbers after those of its threads
abbrev pub IsOfWorker : ℕ → ℕ → ℕ → Type 0
IsOfWorker threads workers number = (threads ≤ number) × (number < threads + workers)

-- the same over all attempts of a run whose sites were all linked by workers before its calls, whichever sites these name
pub record PrelinkedLedger (threads workers sites : ℕ) (table : Serials) (attempts : List Attempt) : Type 0 where
  -- there is one entry for each site, and the serials are 1 to the number of attempts, in order
  pub entries : length table ≡ sites
  pub serials : map (λ a. a.serial) attempts ≡ range_with_len 1 (length attempts)
  -- each site has a serial
  pub linked : (site : ℕ) → site < sites → IsSome (serial_at table site)
  -- the attempt of that serial is one of that site
  pub own : (site serial : ℕ) → slice_get table site ≡ Some (Some serial)
      → (a : Attempt) × Contains attempts a × (a.serial ≡ serial) × (a.site ≡ site)
  -- each site is attempted, no site twice, and each attempt is one of a site and made by a worker
  pub covered : (site : ℕ) → site < sites → (a : Attempt) × Contains attempts a × (a.site ≡ site)
  pub once : AllPairs (λ a b. a.site ≢ b.site) attempts
  pub by_workers : All (λ a. (a.site < sites) × IsOfWorker threads workers a.thread) attempts

-- ---- dynamic constants

-- the constants that each site asks, by its number
abbrev pub Asks : Type 0
Asks = ℕ → List ℕ

-- the site of some attempt asks the constant
abbrev pub IsAsked : Asks → List Attempt → ℕ → Type 0
IsAsked asks attempts c = (a : Attempt) × Contains attempts a × Contains (asks a.site) c

-- the thread of an attempt at a constant has an attempt whose site asks that constant
abbrev pub IsAskedBy : Asks → List Attempt → Attempt → Type 0
IsAskedBy asks attempts b = (a : Attempt) × Contains attempts a × (a.thread ≡ b.thread) × Contains (asks a.site) b.site

-- A table with the serial of the attempt by which each constant is resolved, over all attempts at constants, which have the constant's number as their site.
-- These are the constants that sites ask, and the attempts to link sites.
pub record ConstLedger (constants : ℕ) (asks : Asks) (attempts : List Attempt) (table : Serials) (resolving : List Attempt) : Type 0 where
  -- there is one entry for each constant, and the serials are 1 to the number of attempts, in order
  pub constant_entries : length table ≡ constants
  pub constant_serials : map (λ b. b.serial) resolving ≡ range_with_len 1 (length resolving)
  -- a constant has a serial exactly where the site of some attempt asks it
  pub asked : (c : ℕ) (entry : Option ℕ) → slice_get table c ≡ Some entry → (IsSome entry ↔ IsAsked asks attempts c)
  -- the attempt of that serial is one of that constant
  pub made : (c serial : ℕ) → slice_get table c ≡ Some (Some serial)
      → (b : Attempt) × Contains resolving b × (b.serial ≡ serial) × (b.site ≡ c)
  -- no thread attempts a constant twice, and each attempt is one of a constant that a site asks which its thread attempts
  pub constants_once : AllPairs (λ a b. a.thread ≡ b.thread → a.site ≢ b.site) resolving
  pub constants_reached : (b : Attempt) → Contains resolving b → IsAskedBy asks attempts b

-- one thread attempts constants in the order in which the sites that it attempts first ask them
abbrev pub AreInAskedOrder : Asks → List Attempt → List Attempt → Type 0
AreInAskedOrder asks attempts resolving = map (λ b. b.site) resolving ≡ first_places [] (flat_map (λ a. asks a.site) attempts)
