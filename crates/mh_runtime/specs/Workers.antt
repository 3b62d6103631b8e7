-- How workers link call sites before the calls of a plan: each has a pass of its own, split off the first pass of the run.
use Rattle.std.specs.Prelude.{◌≡◌, ℕ, ◌+◌, List, [], ◌∷◌, length, IsSome, Option, Some, OnOk, slice_get}
use Rattle.mh_seats.specs.Room.{limit}
use Rattle.mh_handle.specs.Joins as form_joins
use Rattle.mh_handle.specs.Passes.{pass_at as forms_at}
use Rattle.mh_handle.specs.Seats as forms_seat
use Rattle.mh_intern.specs.Views as types_seat
use Rattle.mh_tickets.specs.Seats as serials
use Rattle.mh_condy.specs.Passes as consts
use Rattle.mh_jobs.specs.Given.{Given}
use Rattle.mh_attempt.specs.declared.error.WorkError.{WorkError}
use Rattle.mh_prelink.specs.declared.worked.Worked.{Worked}
use Rattle.mh_report.specs.Results.{serial_at}
use Rattle.mh_runtime.specs.declared.linker.Linker.{Linker}
use Rattle.mh_runtime.specs.declared.pass.Pass.{Pass}
use Rattle.mh_runtime.specs.Asking.{LacksRoom, RunsOn, RunsOnTypes}
use Rattle.mh_runtime.specs.Attempts.{AreLinked, AsksMore, AttemptsMore, DrawsOnce, HasRoomForConstants, ResolvesForAttempts}
use Rattle.mh_runtime.specs.Linkers.{GoesOnCalling, HasRoom, IsOf}
use Rattle.mh_runtime.specs.Linking.{HoldsRecorded, StaysWhole}
use Rattle.mh_runtime.specs.Passes.{AttemptsUnlearnt, pass_at, split_pass, split_room}
use Rattle.mh_runtime.specs.Stops.{ending}
use Rattle.mh_runtime.specs.Values.{At}

-- ---- what a worker does

-- sites were linked with a pass, one after the other, up to one that stopped the worker: what calls of these sites leave of it
pub record LinksSites {J : Type 0} (given : Given) (sites : List ℕ) (stop : Option WorkError) (old new : Pass J) : Type 0 where
  pub goes_on : GoesOnCalling (length sites) old new
  pub linked : OnOk (ending stop) (AreLinked new.links.linked sites)
  pub attempts : AttemptsMore sites old.links new.links
  pub unlearnt : AttemptsUnlearnt old.links new.links
  pub asks : OnOk (ending stop) (AsksMore given old.links new.links)
  pub drawn : DrawsOnce old.links new.links
  pub quiet : ResolvesForAttempts old.links new.links
  pub seat : StaysWhole old.types new.types
  pub types : At given new (λ g. HoldsRecorded g old.links.recorded new.links.recorded old.types new.types)
  pub lacks : LacksRoom new.forms new.types (ending stop)
  pub runs : At given new (λ g. RunsOn g old.links.attempts new.links.attempts [] old.forms new.forms (ending stop))
  pub asked : At given new (λ g. RunsOnTypes g old.links.attempts new.links.attempts [] old.types new.types (ending stop))

-- one step of a worker: it has linked this site, or has stopped at it
abbrev pub LinksSite : {J : Type 0} → Given → Pass J → ℕ → Option WorkError → Pass J → Type 0
LinksSite given old site stop new = LinksSites given (site ∷ []) stop old new

-- the pass has learnt a linkage of the site
abbrev pub KnowsSite : {J : Type 0} → Pass J → ℕ → Type 0
KnowsSite pass site = IsSome (serial_at pass.links.linked site)

-- the pass is over this linker, and has room for this many sites
abbrev pub HasRoomOf : {J : Type 0} → Given → Linker J → Pass J → ℕ → Type 0
HasRoomOf given linker pass sites = IsOf given linker pass × HasRoom sites pass × HasRoomForConstants pass.links

-- ---- workers

-- how many workers a run may have
abbrev pub most_workers : ℕ
most_workers = 16

-- a worker of a run, as it ended
abbrev pub Worker : Type 0 → Type 0
Worker J = Worked (Pass J) WorkError

-- the first pass over the constants of a run, with which nothing was done
abbrev pub first_asked : Given → consts.TableView → consts.PassView
first_asked given table = consts.pass_at table 0 (length given.constants) (serials.new_seat table.serials limit)

-- the first pass of a run, with which nothing was done
abbrev pub first_of : {J : Type 0} → Given → Linker J → consts.TableView → Pass J
first_of given linker table = record {
  links = pass_at linker.sites 0 (length given.jobs) (serials.new_seat linker.sites.serials limit) (first_asked given table);
  forms = forms_at linker.forms.now (forms_seat.new_seat linker.forms.now limit);
  types = types_seat.new_seat linker.types.now limit;
}

-- the pass was split off the first one, for a worker of this number
pub record IsSplitFor {J : Type 0} (given : Given) (linker : Linker J) (table : consts.TableView) (thread : ℕ) (pass : Pass J) : Type 0 where
  pub links : pass.links ≡ split_pass thread (first_of given linker table).links
  pub forms_are : pass.forms ≡ form_joins.split_pass (first_of given linker table).forms
  pub types_are : pass.types ≡ types_seat.new_seat linker.types.now split_room

-- so were these, for workers from this number on
abbrev pub AreSplitFor : {J : Type 0} → Given → Linker J → consts.TableView → ℕ → List (Pass J) → Type 0
AreSplitFor {J} given linker table first passes =
    (w : ℕ) (pass : Pass J) → slice_get passes w ≡ Some pass → IsSplitFor given linker table (first + w) pass
