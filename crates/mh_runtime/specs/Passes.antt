-- What contracts see of a linker, which threads share, and of a pass, which each thread has of its own.
use Rattle.std.specs.Prelude.{◌≡◌, ℕ, ◌^◌, ◌<◌, ◌≤◌, ◌⊎◌, List, [], ◌∷◌, ◌++◌, length, map, replicate, All, Result, Ok, Err, Option, None, Some, option_map, slice_get, Contains}
use denote.Ref.{Bor}
use Rattle.mh_setonce.specs.declared.put.Put.{Put}
use Rattle.mh_setonce.specs.declared.put.Put.TheVariants.{Mine, Theirs}
use Rattle.mh_cells.specs.Values.{JoinedOnly, Keeps, KnownView, value_at}
use Rattle.mh_tickets.specs.Seats.{Draws, SeatView, TicketsId, new_seat}
use Rattle.mh_script.specs.declared.script.Script.{Script}
use Rattle.mh_jobs.specs.declared.job.Job.{Job}
use Rattle.mh_jobs.specs.Given.{Given, AreJobs}
use Rattle.mh_condy.specs.Nodes.{Knows, Nodes}
use Rattle.mh_condy.specs.Nodes as consts_known
use Rattle.mh_condy.specs.Passes as consts
use Rattle.mh_attempt.specs.Constants.{HasPlaces}
use Rattle.mh_attempt.specs.Linkage.{HasFound, LinkageView}
use Rattle.mh_report.specs.declared.attempt.Attempt.{Attempt}
use Rattle.mh_report.specs.Results.{Serials, serial_at}

-- how many call sites a run may have
abbrev pub most_sites : ℕ
most_sites = 4096

-- ---- linkers

-- the names of the cells of the call sites, one for each, and the counter of the serials of attempts
pub record LinkerView : Type 0 where
  pub cells : List ℕ
  pub serials : TicketsId

-- each constant that a job of the run has is one of the run's
abbrev pub NameConstants : Given → Type 0
NameConstants given = (site : ℕ) (job : Job) → slice_get given.jobs site ≡ Some job → HasPlaces given job

-- what a linker has: the jobs and the scripts of the run, and a cell for each site
pub record IsLinker (given : Given) (jobs : List Job) (scripts : List Script) (linker : LinkerView) : Type 0 where
  pub jobs_are : jobs ≡ given.jobs
  pub scripts_are : scripts ≡ given.scripts
  pub are_jobs : AreJobs given
  pub constants : NameConstants given
  pub cells : length linker.cells ≡ length given.jobs
  pub few : length given.jobs ≤ most_sites

-- ---- passes

-- a pass: its linker, its thread, the serial of the linkage that it has learnt of each site, the attempts made with it, those of them that it has recorded,
-- the seat through which it draws serials, the linkages that it has learnt, and what it knows of the dynamic constants
pub record LinkPass : Type 0 where
  pub linker : LinkerView
  pub thread : ℕ
  pub linked : Serials
  pub attempts : List Attempt
  pub recorded : List Attempt
  pub seat : SeatView
  pub linkages : List (Option LinkageView)
  pub constants : consts.PassView

-- the site of a linkage
abbrev pub site_of : LinkageView → ℕ
site_of l = l.job.site

-- the serial of the attempt that made a linkage
abbrev pub serial_of : LinkageView → ℕ
serial_of l = l.serial

-- the serial of the linkage of each site, if it was learnt
abbrev pub linked_by : KnownView LinkageView → Serials
linked_by known = map (option_map serial_of) known.values

-- the attempt is one of these, and its linkage is that of its site
abbrev pub IsRecorded : Serials → List Attempt → Attempt → Type 0
IsRecorded linked attempts a = Contains attempts a × (serial_at linked a.site ≡ Some a.serial)

-- what the attempt of a recorded linkage has found of constants is known
pub record HasFoundKnown (known : Nodes) (linkages : List (Option LinkageView)) (a : Attempt) : Type 0 where
  pub linkage : LinkageView
  pub at : value_at linkages a.site ≡ Some linkage
  pub serial : linkage.serial ≡ a.serial
  pub knows : All (Knows known) linkage.under

-- it is a linkage of the run's at its site, and its attempt has found something of each constant that its job looks at
pub record IsLinkageAt (given : Given) (site : ℕ) (l : LinkageView) : Type 0 where
  pub own : l.job.site ≡ site
  pub named : slice_get given.jobs site ≡ Some l.job
  pub found : HasFound l

-- so is each linkage that was learnt
abbrev pub AreLinkages : Given → List (Option LinkageView) → Type 0
AreLinkages given linkages = (site : ℕ) (l : LinkageView) → value_at linkages site ≡ Some l → IsLinkageAt given site l

-- what a pass keeps: its attempts are of sites of the run, those that it has recorded are linked, and it knows what these have found of constants
pub record IsLinkPass (given : Given) (known : KnownView LinkageView) (attempts recorded : List Attempt) (constants : consts.PassView) : Type 0 where
  pub within : All (λ a. a.site < length given.jobs) attempts
  pub recorded_are : All (IsRecorded (linked_by known) attempts) recorded
  pub found_are : All (HasFoundKnown constants.known known.values) recorded

-- a pass that has learnt of no site, with a seat, and with a pass over the constants
abbrev pub pass_at : LinkerView → ℕ → ℕ → SeatView → consts.PassView → LinkPass
pass_at linker thread sites seat constants = record {
  linker = linker;
  thread = thread;
  linked = replicate sites None;
  attempts = [];
  recorded = [];
  seat = seat;
  linkages = replicate sites None;
  constants = constants;
}

-- how many serials a pass may draw that was split off
abbrev pub split_room : ℕ
split_room = 2 ^ 32

-- the pass that is split off for a thread: it has learnt of the same sites, and has attempted none
abbrev pub split_pass : ℕ → LinkPass → LinkPass
split_pass thread pass = record {
  linker = pass.linker;
  thread = thread;
  linked = pass.linked;
  attempts = [];
  recorded = [];
  seat = new_seat pass.linker.serials split_room;
  linkages = pass.linkages;
  constants = consts.split_pass thread pass.constants;
}

-- the pass with another seat
abbrev pub with_seat : SeatView → LinkPass → LinkPass
with_seat seat pass = record pass { seat = seat }

-- the pass with other seats, of serials and of serials of constants
abbrev pub with_seats : SeatView → SeatView → LinkPass → LinkPass
with_seats seat constants pass = record pass { seat = seat; constants = consts.with_seat constants pass.constants }

-- ---- steps

-- the table has each of these serials at its site
abbrev pub HasSerials : Serials → Serials → Type 0
HasSerials linked table = (site serial : ℕ) → serial_at linked site ≡ Some serial → serial_at table site ≡ Some serial

-- this is the linkage of the site
abbrev pub IsLinkageOf : Serials → ℕ → LinkageView → Type 0
IsLinkageOf linked site l = (l.job.site ≡ site) × (serial_at linked site ≡ Some l.serial)

-- this is the linkage of the site, if there is one
abbrev pub FindsLinkage : Serials → ℕ → Option (Bor LinkageView) → Type 0
FindsLinkage linked site None = serial_at linked site ≡ None
FindsLinkage linked site (Some l) = IsLinkageOf linked site l.now

-- this is the linkage of the site that is learnt, if there is one
abbrev pub FindsValue : List (Option LinkageView) → ℕ → Option (Bor LinkageView) → Type 0
FindsValue linkages site None = Unit {0}
FindsValue linkages site (Some l) = value_at linkages site ≡ Some l.now

-- the linkage that a put answers is the one that is learnt of the site
abbrev pub PutsValue : List (Option LinkageView) → ℕ → Result (Put LinkageView) LinkageView → Type 0
PutsValue linkages site (Ok (Mine l)) = value_at linkages site ≡ Some l.now
PutsValue linkages site (Ok (Theirs l back)) = value_at linkages site ≡ Some l.now
PutsValue linkages site (Err back) = Unit {0}

-- what is learnt of a site after a put of a linkage: ours, or another one; ours is handed back then, and if memory ran out
abbrev pub PutsLinkage : Serials → LinkageView → Result (Put LinkageView) LinkageView → Type 0
PutsLinkage linked ours (Ok (Mine l)) = (l.now ≡ ours) × IsLinkageOf linked ours.job.site l.now
PutsLinkage linked ours (Ok (Theirs l back)) = (back ≡ ours) × IsLinkageOf linked ours.job.site l.now
PutsLinkage linked ours (Err back) = back ≡ ours

-- the pass has learnt more of its linker's sites, and is as it was otherwise, except what it has recorded
pub record LearnsSites (old new : LinkPass) : Type 0 where
  pub linker : new.linker ≡ old.linker
  pub thread : new.thread ≡ old.thread
  pub linked : HasSerials old.linked new.linked
  pub attempts : new.attempts ≡ old.attempts
  pub seat : new.seat ≡ old.seat
  pub linkages : Keeps old.linkages new.linkages
  pub constants : new.constants ≡ old.constants

-- the attempt of a thread that made a linkage
abbrev pub attempt_of : ℕ → LinkageView → Attempt
attempt_of thread l = record { thread = thread; site = l.job.site; serial = l.serial }

-- the pass has begun an attempt of a site with a serial that was drawn now
abbrev pub BeginsAttempt : ℕ → ℕ → LinkPass → LinkPass → Type 0
BeginsAttempt site serial old new =
    Draws serial old.seat new.seat
    × (new ≡ record old { attempts = old.attempts ++ record { thread = old.thread; site = site; serial = serial } ∷ []; seat = new.seat })

-- the pass has recorded nothing more, since this linkage was recorded before; or it has recorded the attempt that made ours, which is this linkage then
abbrev pub RecordsOurs : LinkageView → LinkageView → LinkPass → LinkPass → Type 0
RecordsOurs ours l old new = (new.recorded ≡ old.recorded) ⊎ ((l ≡ ours) × (new.recorded ≡ old.recorded ++ attempt_of old.thread ours ∷ []))

-- the pass has recorded nothing more, or the attempt that made this linkage, which is the latest that it has made
abbrev pub RecordsLatest : LinkageView → LinkPass → LinkPass → Type 0
RecordsLatest l old new =
    (new.recorded ≡ old.recorded)
    ⊎ ((new.attempts ≡ old.attempts ++ attempt_of old.thread l ∷ []) × (new.recorded ≡ old.recorded ++ attempt_of old.thread l ∷ []))

-- the attempts that came are of sites that the pass had not learnt
abbrev pub AttemptsUnlearnt : LinkPass → LinkPass → Type 0
AttemptsUnlearnt old new = (more : List Attempt) × (new.attempts ≡ old.attempts ++ more) × All (λ a. serial_at old.linked a.site ≡ None) more

-- the pass has what it had, and its seats may have more; it may know more of constants
pub record KeepsSites (old new : LinkPass) : Type 0 where
  pub is : new ≡ record old { seat = new.seat; constants = new.constants }
  pub table : new.constants.table ≡ old.constants.table
  pub known : consts_known.Keeps old.constants.known new.constants.known

-- the pass has what it had and what the other one had
pub record HasBoth (old other new : LinkPass) : Type 0 where
  pub mine : HasSerials old.linked new.linked
  pub theirs : HasSerials other.linked new.linked
  pub attempts : new.attempts ≡ old.attempts ++ other.attempts
  pub recorded : new.recorded ≡ old.recorded ++ other.recorded
  pub my_linkages : Keeps old.linkages new.linkages
  pub their_linkages : Keeps other.linkages new.linkages
  pub only : JoinedOnly old.linkages other.linkages new.linkages
  pub constants : consts.HasBoth old.constants other.constants new.constants
  pub constants_table : new.constants.table ≡ old.constants.table
  pub constants_thread : new.constants.thread ≡ old.constants.thread
