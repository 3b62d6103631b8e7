-- What the calls of a linker need of a thread's pass, and what they leave of it.
use Rattle.std.specs.Prelude.{◌≡◌, ℕ, ◌+◌, ◌*◌, ◌<◌, ◌≤◌, List, [], ◌∷◌, ◌++◌, length, None, Some, Result, IfOk, IsSome, OnErr, OnOk}
use Rattle.std.specs.List.{flat_map}
use denote.Ref.{Bor}
use Rattle.mh_handle.specs.declared.answer.Answer.{Answer}
use Rattle.mh_handle.specs.declared.work.Work.{Work}
use Rattle.mh_handle.specs.Answers.{IsAnswer}
use Rattle.mh_handle.specs.Joins as form_joins
use Rattle.mh_handle.specs.Passes as form_pass
use Rattle.mh_handle.specs.Passes.{IsPassOf, StaysLearnt}
use Rattle.mh_handle.specs.Seats as forms_seat
use Rattle.mh_handle.specs.Works.{IsReady, leaves_of, most_held}
use Rattle.mh_intern.specs.Seats.{Knows}
use Rattle.mh_intern.specs.Views as types_seat
use Rattle.mh_intern.specs.Views.{SeatView}
use Rattle.mh_tickets.specs.Seats as serials_seat
use Rattle.mh_seats.specs.Room.{limit}
use Rattle.mh_jobs.specs.Given.{Given}
use Rattle.mh_attempt.specs.declared.error.WorkError.{WorkError}
use Rattle.mh_attempt.specs.Linkage.{LinkageView}
use Rattle.mh_plan.specs.declared.call.Call.{Call}
use Rattle.mh_plan.specs.Naming.{sites_named}
use Rattle.mh_report.specs.declared.attempt.Attempt.{Attempt}
use Rattle.mh_report.specs.Forms.{call_edits, thread_edits}
use Rattle.mh_report.specs.Results.{Serials, result_of, serial_at}
use Rattle.mh_report.specs.Types.{call_types, thread_types}
use Rattle.mh_runtime.specs.declared.linker.Linker.{Linker}
use Rattle.mh_runtime.specs.declared.pass.Pass.{Pass}
use Rattle.mh_runtime.specs.declared.stops.ThreadRun.{ThreadRun}
use Rattle.mh_runtime.specs.declared.tables.Seats.{Seats}
use Rattle.mh_runtime.specs.declared.tables.Tables.{Tables}
use Rattle.mh_runtime.specs.Asking.{LacksRoom, RunsOn, RunsOnTypes, call_draws}
use Rattle.mh_runtime.specs.Attempts.{AreLinked, AsksMore, AttemptsMore, DrawsOnce, GoesOnLinking, HasRoomForConstants, ResolvesForAttempts}
use Rattle.mh_runtime.specs.Keys.{keys_of}
use Rattle.mh_runtime.specs.Lanes.{HasAnswered}
use Rattle.mh_runtime.specs.Linking.{HoldsRecorded, StaysWhole}
use Rattle.mh_runtime.specs.Passes.{AttemptsUnlearnt, HasBoth, HasSerials, IsLinkageOf, LearnsSites, LinkPass, LinkerView, RecordsLatest, pass_at, split_pass, split_room, with_seats}
use Rattle.mh_runtime.specs.Stops.{EndAt, answered, begun, ending}
use Rattle.mh_runtime.specs.Values.{At}
use Rattle.mh_cells.specs.Values.{Keeps, value_at}
use Rattle.mh_condy.specs.Nodes as consts
use Rattle.mh_condy.specs.Passes.{PassView}

-- ---- what is needed

-- the seats are of the linker's tables
pub record AreSeats {J : Type 0} (linker : Linker J) (seats : Seats) : Type 0 where
  pub types : seats.types.table ≡ linker.types.now
  pub forms : seats.forms.table ≡ linker.forms.now
  pub serials : seats.serials.tickets ≡ linker.sites.serials

-- the seats are of these tables and have all the room: nothing was drawn or asked for
pub record HaveAll (tables : Tables) (seats : Seats) : Type 0 where
  pub types_are : seats.types ≡ types_seat.new_seat tables.types limit
  pub forms_are : seats.forms ≡ forms_seat.new_seat tables.forms limit
  pub serials_are : seats.serials ≡ serials_seat.new_seat tables.serials limit

-- the leaves are those of the run, and the pass is one over this linker, its forms and its types
pub record IsOf {J : Type 0} (given : Given) (linker : Linker J) (pass : Pass J) : Type 0 where
  pub leaves : linker.leaves.now ≡ given.leaves
  pub links : pass.links.linker ≡ linker.sites
  pub forms : IsPassOf linker.forms.now pass.forms
  pub types : pass.types.table ≡ linker.types.now

-- There is room for this many calls. Each may draw a serial and the form numbers of an attempt, and for each of these numbers the types of a handle may be
-- held.
pub record HasRoom {J : Type 0} (calls : ℕ) (pass : Pass J) : Type 0 where
  pub serials : calls ≤ pass.links.seat.room
  pub forms : call_draws * calls ≤ pass.forms.seat.room
  pub holds : most_held * (call_draws * calls) ≤ pass.types.room

-- the pass has the room that a split gives away, and more
pub record CanSplit {J : Type 0} (pass : Pass J) : Type 0 where
  pub serials : split_room < pass.links.seat.room
  pub constants : split_room < pass.links.constants.seat.room
  pub forms : split_room < pass.forms.seat.room
  pub holds : split_room < pass.types.room

-- so much room is gone
pub record HasLessRoom {J : Type 0} (old new : Pass J) : Type 0 where
  pub serials : new.links.seat.room + split_room ≡ old.links.seat.room
  pub constants : new.links.constants.seat.room + split_room ≡ old.links.constants.seat.room
  pub forms : new.forms.seat.room + split_room ≡ old.forms.seat.room
  pub holds : new.types.room + split_room ≡ old.types.room

-- ---- works

-- a thread's pass, of what it knows of the sites and what its work borrows: the pass over the forms and the seat of types
abbrev pub pass_in : {J : Type 0} → LinkPass → Work → Pass J
pass_in links w = record { links = links; forms = w.pass.now; types = w.seat.now }

-- a work with the run's leaves and a pass over the sites of this linker, which have room for this many calls
pub record IsReadyFor (given : Given) (linker : LinkerView) (calls : ℕ) (links : LinkPass) (w : Work) : Type 0 where
  pub leaves : leaves_of w ≡ given.leaves
  pub linker_is : links.linker ≡ linker
  pub ready : IsReady w (call_draws * calls)
  pub serials : calls ≤ links.seat.room
  pub constants : HasRoomForConstants links

-- ---- passes

-- the first pass: it has learnt of no site, and has these seats and this pass over the constants
pub record BeginsPass {J : Type 0} (sites : ℕ) (linker : Linker J) (seats : Seats) (asked : PassView) (pass : Pass J) : Type 0 where
  pub links : pass.links ≡ pass_at linker.sites 0 sites seats.serials asked
  pub forms : pass.forms ≡ form_pass.pass_at linker.forms.now seats.forms
  pub types_are : pass.types ≡ seats.types

-- this pass was split off for a thread, and so much room is gone
pub record SplitsPass {J : Type 0} (thread : ℕ) (old new other : Pass J) : Type 0 where
  pub links : other.links ≡ split_pass thread old.links
  pub links_left : new.links ≡ with_seats (serials_seat.with_less_room split_room old.links.seat)
      (serials_seat.with_less_room split_room old.links.constants.seat) old.links
  pub forms : other.forms ≡ form_joins.split_pass old.forms
  pub forms_left : new.forms ≡ form_joins.with_seat (forms_seat.with_less_room form_joins.split_room old.forms.seat) old.forms
  pub types : other.types ≡ types_seat.new_seat old.types.table split_room
  pub types_left : new.types ≡ types_seat.with_less_room split_room old.types

-- the pass has what it had and what the other one had
pub record JoinsPass {J : Type 0} (old other new : Pass J) : Type 0 where
  pub linker : new.links.linker ≡ old.links.linker
  pub thread : new.links.thread ≡ old.links.thread
  pub links : HasBoth old.links other.links new.links
  pub links_seat : new.links.seat ≡ serials_seat.joined_seats old.links.seat other.links.seat
  pub links_known : serials_seat.KnowsAll new.links.seat
  pub constants_seat : new.links.constants.seat ≡ serials_seat.joined_seats old.links.constants.seat other.links.constants.seat
  pub constants_known : serials_seat.KnowsAll new.links.constants.seat
  pub table : new.forms.table ≡ old.forms.table
  pub forms : form_joins.KnowsBoth old.forms other.forms new.forms
  pub forms_seat_is : new.forms.seat ≡ forms_seat.joined_seats old.forms.seat other.forms.seat
  pub forms_known : forms_seat.KnowsAll new.forms.seat
  pub types : new.types ≡ types_seat.joined_seats old.types other.types
  pub types_known : Knows new.types

-- the pass has what it had learnt, attempted and recorded, whatever else it has
pub record KeepsPass {J : Type 0} (old new : Pass J) : Type 0 where
  pub thread : new.links.thread ≡ old.links.thread
  pub linked : HasSerials old.links.linked new.links.linked
  pub attempts : (more : List Attempt) × (new.links.attempts ≡ old.links.attempts ++ more)
  pub recorded : (more : List Attempt) × (new.links.recorded ≡ old.links.recorded ++ more)
  pub linkages : Keeps old.links.linkages new.links.linkages
  pub constants : consts.Keeps old.links.constants.known new.links.constants.known
  pub forms : StaysLearnt old.forms new.forms

-- ---- calls

-- The pass stays with its linker, its tables and its thread, and what it has learnt stays. At most the room for this many calls is used up.
pub record GoesOnCalling {J : Type 0} (calls : ℕ) (old new : Pass J) : Type 0 where
  pub links : GoesOnLinking calls old.links new.links
  pub table : new.forms.table ≡ old.forms.table
  pub learnt : StaysLearnt old.forms new.forms
  pub room : old.forms.seat.room ≤ new.forms.seat.room + call_draws * calls
  pub seat : new.types.table ≡ old.types.table
  pub holds : old.types.room ≤ new.types.room + most_held * (call_draws * calls)

-- A pass that had learnt a linkage of the site is as it was. No attempt was made or recorded, no serial or form number was drawn, and no type was asked for or
-- held.
pub record LeavesPass {J : Type 0} (old new : Pass J) : Type 0 where
  pub learns : LearnsSites old.links new.links
  pub recorded : new.links.recorded ≡ old.links.recorded
  pub forms : new.forms ≡ old.forms
  pub types : new.types ≡ old.types

-- a site was resolved, or why it was not
pub record Resolves {J : Type 0} (given : Given) (site : ℕ) (old new : Pass J) (result : Result (Bor LinkageView) WorkError) : Type 0 where
  pub goes_on : GoesOnCalling 1 old new
  -- the answer is the linkage that the pass has learnt of the site then
  pub linked : IfOk result (λ l. IsLinkageOf new.links.linked site l.now)
  pub value : IfOk result (λ l. value_at new.links.linkages site ≡ Some l.now)
  -- a site that the pass had learnt is answered, and changes nothing
  pub resolved : OnErr result (serial_at old.links.linked site ≡ None)
  pub learnt : IsSome (serial_at old.links.linked site) → LeavesPass old new
  -- an attempt is made only of a site that was not learnt; if its linkage was recorded, it is the pass's latest; an error records nothing
  pub attempts : AttemptsMore (site ∷ []) old.links new.links
  pub unlearnt : AttemptsUnlearnt old.links new.links
  pub latest : IfOk result (λ l. RecordsLatest l.now old.links new.links)
  pub failed : OnErr result (new.links.recorded ≡ old.links.recorded)
  -- the constants that an attempt's call looks at were gone through, and none was attempted twice
  pub asks : OnOk result (AsksMore given old.links new.links)
  pub drawn : DrawsOnce old.links new.links
  pub quiet : ResolvesForAttempts old.links new.links
  -- the seat holds what recorded linkages hold, and as much else as before
  pub seat : StaysWhole old.types new.types
  pub types : At given new (λ g. HoldsRecorded g old.links.recorded new.links.recorded old.types new.types)
  -- which forms and which types were asked for
  pub lacks : LacksRoom new.forms new.types result
  pub runs : At given new (λ g. RunsOn g old.links.attempts new.links.attempts [] old.forms new.forms result)
  pub asked : At given new (λ g. RunsOnTypes g old.links.attempts new.links.attempts [] old.types new.types result)

-- a call was made, or why it was not
pub record MakesCall {J : Type 0} (given : Given) (call : Call) (old new : Pass J) (result : Result Answer WorkError) : Type 0 where
  pub goes_on : GoesOnCalling 1 old new
  -- the answer is right under each table that has the serials of what the pass has learnt, where constants have values that the pass has seen
  pub answer : At given new (λ g. (table : Serials) → HasSerials new.links.linked table → IfOk result
      (IsAnswer (result_of g table call) (keys_of g table call)))
  pub linked : OnOk result (AreLinked new.links.linked (sites_named call))
  pub attempts : AttemptsMore (sites_named call) old.links new.links
  pub unlearnt : AttemptsUnlearnt old.links new.links
  pub asks : OnOk result (AsksMore given old.links new.links)
  pub drawn : DrawsOnce old.links new.links
  pub quiet : ResolvesForAttempts old.links new.links
  pub seat : StaysWhole old.types new.types
  pub types : At given new (λ g. HoldsRecorded g old.links.recorded new.links.recorded old.types new.types)
  pub lacks : LacksRoom new.forms new.types result
  pub runs : At given new (λ g. RunsOn g old.links.attempts new.links.attempts (call_edits given.leaves call) old.forms new.forms result)
  pub asked : At given new (λ g. RunsOnTypes g old.links.attempts new.links.attempts (call_types given.leaves call) old.types new.types result)

-- the calls of a thread were made, up to one that stopped it
pub record RunsThread {J : Type 0} (given : Given) (calls : List Call) (old new : Pass J) (run : ThreadRun) : Type 0 where
  pub goes_on : GoesOnCalling (length calls) old new
  pub ended : EndAt calls run.answers run.stop
  pub answers : At given new (λ g. HasAnswered g (answered run.answers calls) new.links run.answers)
  pub linked : AreLinked new.links.linked (flat_map sites_named (answered run.answers calls))
  pub attempts : AttemptsMore (flat_map sites_named (begun run.answers calls)) old.links new.links
  pub unlearnt : AttemptsUnlearnt old.links new.links
  pub asks : OnOk (ending run.stop) (AsksMore given old.links new.links)
  pub drawn : DrawsOnce old.links new.links
  pub quiet : ResolvesForAttempts old.links new.links
  pub seat : StaysWhole old.types new.types
  pub types : At given new (λ g. HoldsRecorded g old.links.recorded new.links.recorded old.types new.types)
  pub lacks : LacksRoom new.forms new.types (ending run.stop)
  pub runs : At given new (λ g. RunsOn g old.links.attempts new.links.attempts (thread_edits given.leaves (begun run.answers calls)) old.forms new.forms
      (ending run.stop))
  pub asked : At given new (λ g. RunsOnTypes g old.links.attempts new.links.attempts (thread_types given.leaves (begun run.answers calls)) old.types
      new.types (ending run.stop))
