-- What a run reports.
use Rattle.std.specs.Prelude.{◌≡◌, ◌⊎◌, ℕ, zero, suc, ◌+◌, List, [], ◌∷◌, length, map, All, Contains, Option, None, Some, option_map}
use Rattle.std.specs.List.Sorted.{IsNonDecreasingBy, IsPermutation}
use Rattle.mh_jobs.specs.Given.{Given}
use Rattle.mh_cells.specs.Values.{value_at}
use Rattle.mh_handle.specs.declared.answer.Answer.{Answer}
use Rattle.mh_link.specs.Sites.{asks_at, with_serials}
use Rattle.mh_condy.specs.declared.pass.ConstAttempt.{ConstAttempt}
use Rattle.mh_condy.specs.Nodes.{Knows, Nodes}
use Rattle.mh_condy.specs.Passes.{IsPass, PassView}
use Rattle.mh_condy.specs.Trails.{HasPutAll, trail_of}
use Rattle.mh_link.specs.Named.{run_of}
use Rattle.mh_condy.specs.Recorded.{ConstView}
use Rattle.mh_attempt.specs.Linkage.{LinkageView}
use Rattle.mh_plan.specs.declared.call.Call.{Call}
use Rattle.mh_plan.specs.Naming.{naming_of}
use Rattle.mh_report.specs.declared.attempt.Attempt.{Attempt}
use Rattle.mh_report.specs.declared.table.ConstRow.{ConstRow}
use Rattle.mh_report.specs.declared.table.Recorded.{Recorded}
use Rattle.mh_report.specs.Forms.{forms}
use Rattle.mh_report.specs.Recorded.{recorded, row_serials, rows, serials_of, types}
use Rattle.mh_report.specs.Recorded as plan_types
use Rattle.mh_intern.specs.Seats.{distinct_types}
use Rattle.mh_intern.specs.Views.{SeatView, TypesId}
use Rattle.mh_seats.specs.Room.{limit}
use Rattle.mh_report.specs.Results.{Serials, results_of, results_said, keys_said, serial_at}
use Rattle.mh_runtime.specs.declared.input.RunInput.{RunInput}
use Rattle.mh_runtime.specs.declared.joining.Joined.{Joined}
use Rattle.mh_runtime.specs.declared.running.Linked.{Linked}
use Rattle.mh_runtime.specs.declared.running.RunReport.{RunReport}
use Rattle.mh_runtime.specs.declared.stops.Stop.{Stop}
use Rattle.mh_runtime.specs.Attempts.{AreRecorded}
use Rattle.mh_runtime.specs.Input.{given_by}
use Rattle.mh_runtime.specs.Keys.{plan_keys}
use Rattle.mh_runtime.specs.Ledger.{AreInAskedOrder, Asks, ConstLedger, Ledger, PrelinkedLedger}
use Rattle.mh_runtime.specs.Passes.{IsRecorded, LinkPass}
use Rattle.mh_runtime.specs.Stops.{outside}
use Rattle.mh_runtime.specs.Values.{At}

-- the ledger of a run of a plan with this many workers
abbrev pub LedgerBy : ℕ → List (List Call) → ℕ → Serials → List Attempt → Type 0
LedgerBy zero plan sites table attempts = Ledger (naming_of plan) sites table attempts
LedgerBy (suc more) plan sites table attempts = PrelinkedLedger (length plan) (suc more) sites table attempts

-- where a plan has one thread and no workers, that thread attempts constants in the order in which the sites that it attempts first ask them
abbrev pub OrderBy : ℕ → List (List Call) → Asks → List Attempt → List Attempt → Type 0
OrderBy zero (calls ∷ []) asks attempts resolving = AreInAskedOrder asks attempts resolving
OrderBy workers plan asks attempts resolving = Unit {0}

-- the ledger of the dynamic constants of a run of a plan with so many workers, by the serials of the table itself
pub record ConstLedgerBy (given : Given) (workers : ℕ) (plan : List (List Call)) (attempts : List Attempt) (table : Serials) (resolving : List Attempt)
    : Type 0 where
  pub ledger : ConstLedger (length given.constants) (asks_at given table) attempts table resolving
  pub in_order : OrderBy workers plan (asks_at given table) attempts resolving

-- what a run was given, where constants are what they are by the serials that it reports
abbrev pub given_in : RunInput → RunReport → Given
given_in input run = with_serials (row_serials run.constants) (given_by input)

-- what is recorded at sites, the results and the keys of calls, and the count of forms are what the serials of the table and these attempts say
pub record SaysOf (given : Given) (plan : List (List Call)) (table : List (Option Recorded)) (threads : List (List Answer)) (attempts : List Attempt)
    (count : ℕ) : Type 0 where
  pub table_is : table ≡ recorded given (serials_of table)
  pub results : results_said threads ≡ results_of given (serials_of table) plan
  pub keys : keys_said threads ≡ plan_keys given (serials_of table) plan
  pub forms_are : count ≡ forms given plan attempts

-- The report is that of a run of a plan with this many workers. Its attempts are a run's, its table has what they recorded, and all else is what that table and
-- these attempts say, where constants are what they are by their serials
pub record IsReport (given : Given) (workers : ℕ) (plan : List (List Call)) (run : RunReport) : Type 0 where
  pub ledger : LedgerBy workers plan (length given.jobs) (serials_of run.table) run.attempts
  pub constants : ConstLedgerBy given workers plan run.attempts (row_serials run.constants) run.constant_attempts
  pub rows_are : run.constants ≡ rows given (row_serials run.constants)
  pub says : SaysOf (with_serials (row_serials run.constants) given) plan run.table run.threads run.attempts run.forms
  pub types_are : run.types ≡ types (with_serials (row_serials run.constants) given) (serials_of run.table)

-- the run before its types are counted: all that the report says except them, and a seat that holds what is recorded, while nothing else of the table is held
pub record IsLinkedRun (given : Given) (workers : ℕ) (plan : List (List Call)) (types : TypesId) (run : Linked) (seat : SeatView) : Type 0 where
  pub ledger : LedgerBy workers plan (length given.jobs) (serials_of run.table) run.attempts
  pub constants : ConstLedgerBy given workers plan run.attempts (row_serials run.constants) run.constant_attempts
  pub rows_are : run.constants ≡ rows given (row_serials run.constants)
  pub says : SaysOf (with_serials (row_serials run.constants) given) plan run.table run.threads run.attempts run.forms
  pub seat_is : seat.table ≡ types
  pub whole : seat.room + length seat.holds ≡ limit
  pub held : distinct_types seat.holds ≡ plan_types.types (with_serials (row_serials run.constants) given) (serials_of run.table)

-- an attempt at a constant, as it is reported
abbrev pub as_attempt : ConstAttempt → Attempt
as_attempt b = record { thread = b.thread; site = b.constant; serial = b.serial }

-- a recorded constant, as it is reported
abbrev pub row_in : ConstView → ConstRow
row_in node = record { serial = node.serial; value = node.value }

-- what is known of each constant, as it is reported
abbrev pub rows_in : Nodes → List (Option ConstRow)
rows_in known = map (option_map row_in) known

-- each serial is that of an attempt at its constant that the pass has recorded
abbrev pub AreMakers : PassView → Serials → Type 0
AreMakers pass table = (c serial : ℕ) → serial_at table c ≡ Some serial
    → (a : ConstAttempt) × Contains pass.recorded a × (a.constant ≡ c) × (a.serial ≡ serial)

-- what the attempt of each linkage that is learnt has found of constants is known
abbrev pub AreAllFound : LinkPass → Type 0
AreAllFound links = (site : ℕ) (l : LinkageView) → value_at links.linkages site ≡ Some l → All (Knows links.constants.known) l.under

-- each constant and each linkage that a pass has learnt was recorded by an attempt that it has recorded; so it knows all that they rest on
pub record IsSettled (given : Given) (links : LinkPass) : Type 0 where
  pub is : IsPass (run_of given) links.constants
  pub put : HasPutAll (trail_of links.constants)
  pub found : AreAllFound links

-- what the joined passes of a run say of it
pub record TellsRun {J : Type 0} (given : Given) (joined : Joined J) (run : Linked) : Type 0 where
  pub threads : run.threads ≡ joined.threads
  pub table : At given joined.pass (λ g. run.table ≡ recorded g joined.pass.links.linked)
  pub constants : run.constants ≡ rows_in joined.pass.links.constants.known
  pub settled : IsSettled given joined.pass.links
  pub entries : length joined.pass.links.linked ≡ length given.jobs
  pub own : AreRecorded joined.pass.links joined.pass.links.linked
  pub linked_are : All (IsRecorded joined.pass.links.linked joined.pass.links.attempts) joined.pass.links.recorded
  pub resolving_same : IsPermutation (map as_attempt joined.pass.links.constants.attempts) run.constant_attempts
  pub resolving_rising : IsNonDecreasingBy (λ (b : Attempt). b.serial) run.constant_attempts
  pub forms_are : run.forms ≡ length joined.pass.forms.asked
  pub same : IsPermutation joined.pass.links.attempts run.attempts
  pub rising : IsNonDecreasingBy (λ (a : Attempt). a.serial) run.attempts

-- the run is what its joined passes say, if no thread has stopped, and the seat is theirs
pub record ReportsJoined {J : Type 0} (given : Given) (joined : Joined J) (run : Linked) (seat : SeatView) : Type 0 where
  pub none : joined.stop ≡ None
  pub tells : TellsRun given joined run
  pub seat_is : seat ≡ joined.pass.types

-- the stop is that for lack of memory outside the threads, or the one that is reported of them, and then all that the joined pass has learnt was recorded
abbrev pub StopsJoined : {J : Type 0} → Given → Joined J → Stop → Type 0
StopsJoined given joined stop = (stop ≡ outside) ⊎ ((joined.stop ≡ Some stop) × IsSettled given joined.pass.links)
