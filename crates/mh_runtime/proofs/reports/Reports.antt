-- The report of a run, from what its parts tell.
use Rattle.std.proofs.Common.{◌≡◌, refl, sym, ◌∙◌, ap, ap₂, subst, ℕ, zero, suc, ◌*◌, ◌<◌, ◌≤◌, false, List, [], ◌∷◌, append-nil, length, map, get_or, None, Some, Err, arith}
use Rattle.std.specs.Prelude.{Contains, replicate, slice_get}
use Rattle.std.specs.List.{All, flat_map}
use Rattle.std.proofs.lemmas.List.{length-map}
use Rattle.std.proofs.lemmas.List.Elements.{All-contains, All-map}
use Rattle.mh_intern.specs.Views.{SeatView}
use Rattle.mh_handle.specs.Form.{most_forms}
use Rattle.mh_jobs.specs.Given.{Found, Given}
use Rattle.mh_link.specs.Constants.{values_of}
use Rattle.mh_link.specs.Named.{AreConstJobs, run_of}
use Rattle.mh_link.specs.Sites.{asks_at, with_serials}
use Rattle.mh_condy.specs.Nodes.{AreNodes, Nodes, is_known, serials_in}
use Rattle.mh_condy.specs.Passes.{TableView}
use Rattle.mh_condy.proofs.Ends.{all-put}
use Rattle.mh_attempt.specs.declared.error.WorkError.{WorkError}
use Rattle.mh_attempt.specs.declared.error.WorkError.TheVariants.{NoMemory, FormsFull, TypesFull}
use Rattle.mh_attempt.specs.Asked.{HasAsked}
use Rattle.mh_report.specs.declared.attempt.Attempt.{Attempt}
use Rattle.mh_plan.specs.declared.call.Call.{Call}
use Rattle.mh_report.specs.Forms.{draws_needed}
use Rattle.mh_report.specs.Recorded.{recorded, row_serials, rows, serials_of, types}
use Rattle.mh_report.specs.Results.{Serials, keys_said, results_of, results_said, serial_at}
use Rattle.mh_report.specs.Types.{Overfill, all_types}
use Rattle.mh_runtime.specs.declared.joining.Joined.{Joined}
use Rattle.mh_runtime.specs.declared.lane.Lane.{Lane}
use Rattle.mh_runtime.specs.declared.linker.Linker.{Linker}
use Rattle.mh_runtime.specs.declared.pass.Pass.{Pass}
use Rattle.mh_runtime.specs.declared.running.Linked.{Linked}
use Rattle.mh_runtime.specs.declared.stops.Stop.{Stop}
use Rattle.mh_runtime.specs.Asking.{IfFull, IfTypesFull}
use Rattle.mh_runtime.specs.Attempts.{AsksMore}
use Rattle.mh_runtime.specs.Bases.{base_of}
use Rattle.mh_runtime.specs.Joined.{AreDone, AreInOrder, AreUsed, ThreadPasses, edits_of}
use Rattle.mh_runtime.specs.Joining.{AreAllJoined, AreJoinedSoFar, EndsAnyhow, IsJoinedRun, IsUnused, calls_of, ends_of}
use Rattle.mh_runtime.specs.Keys.{plan_keys}
use Rattle.mh_runtime.specs.Lanes.{passes_of}
use Rattle.mh_runtime.specs.Ledger.{AreInAskedOrder, Asks}
use Rattle.mh_runtime.specs.Passes.{IsRecorded, LinkPass, split_pass}
use Rattle.mh_runtime.specs.Report.{ConstLedgerBy, IsLinkedRun, IsSettled, OrderBy, SaysOf, TellsRun}
use Rattle.mh_runtime.specs.RunStops.{HaveMade, IsStopOfThreads}
use Rattle.mh_runtime.specs.Stops.{error_of, stop_of}
use Rattle.mh_runtime.specs.Values.{Agrees}
use Rattle.mh_runtime.proofs.constants.ConstantLedger.{AreOrderedBy, constant-ledger, order}
use Rattle.mh_runtime.proofs.constants.ConstantOrder.{asked-order}
use Rattle.mh_runtime.proofs.forms.Counted.{forms-asked}
use Rattle.mh_runtime.proofs.lanes.ForkedLanes.{all-calls}
use Rattle.mh_runtime.proofs.types.HeldTypes.{held-types}
use Rattle.mh_runtime.proofs.constants.JoinedValues.{agrees-joined, rows-known, rows-serials}
use Rattle.mh_runtime.proofs.reports.LowestStops.{reported-lowest}
use Rattle.mh_runtime.proofs.constants.MadeConstants.{AreMade, known-few}
use Rattle.mh_runtime.proofs.ledger.Numbers.{sorted-in_order}
use Rattle.mh_runtime.proofs.ledger.Ordered.{serials-rise}
use Rattle.mh_runtime.proofs.constants.OrderedPasses.{ordered-by}
use Rattle.mh_runtime.proofs.ledger.Owners.{thread-of}
use Rattle.mh_runtime.proofs.ledger.RecordedSites.{serials-recorded}
use Rattle.mh_runtime.proofs.ledger.RunLedger.{run-ledger}
use Rattle.mh_runtime.proofs.constants.SerialTables.{AreWithin, IsAmongTables, among-tables}
use Rattle.mh_runtime.proofs.sites.ThreadSteps.{serials-self}
use Rattle.mh_runtime.proofs.lanes.WholeJoin.{constants-made, constants-recorded, joined-all, joined-full, joined-no-slot, joined-stop, types-just, types-whole}

-- ---- lists

-- nothing is known at first
pub none-known : (n c : ℕ) → is_known (replicate n None) c ≡ false
none-known zero c = refl
none-known (suc n) zero = refl
none-known (suc n) (suc c) = none-known n c

-- a list of one item
one-item : {X : Type 0} (xs : List X) → length xs ≡ 1 → (x : X) × (xs ≡ x ∷ [])
one-item [] one = absurd (omega (arith, one))
one-item (x ∷ []) one = (x, refl)
one-item (x ∷ y ∷ xs) one = absurd (omega (arith, one))

-- constants are attempted in order by a plan's only thread
pub order-by : (plan : List (List Call)) (asks : Asks) (attempts resolving : List Attempt) →
    ((calls : List Call) → plan ≡ calls ∷ [] → AreInAskedOrder asks attempts resolving) → OrderBy zero plan asks attempts resolving
order-by [] asks attempts resolving one = tt
order-by (calls ∷ []) asks attempts resolving one = one calls refl
order-by (calls ∷ more ∷ plan) asks attempts resolving one = tt

-- ---- values

-- what constants are by the serials of a settled pass
abbrev pub values_in : Given → LinkPass → Found
values_in given links = values_of (run_of given) (serials_in links.constants.known)

pub settled-agrees : (given : Given) (links : LinkPass) → AreConstJobs (run_of given) → IsSettled given links → Agrees (values_in given links) links
settled-agrees given links named settled = agrees-joined given links named settled.is settled.put settled.found

pub settled-nodes : (given : Given) (links : LinkPass) → IsSettled given links → AreNodes (run_of given) links.constants.known
settled-nodes given links settled = all-put (run_of given) links.constants settled.is settled.put

-- and one of the tables that so many threads can have, of which there is one at least
pub settled-tables : (given : Given) (links first : LinkPass) (all : List LinkPass) (threads : ℕ) → AreConstJobs (run_of given) → IsSettled given links →
    AreMade given first all links.constants → length all ≡ threads → 1 ≤ threads → IsAmongTables given threads (values_in given links)
settled-tables given links first all threads named settled made count some =
    among-tables given named links.constants.known (settled-nodes given links settled) settled.is.known.count threads some
    (subst (λ n. AreWithin (n * length given.constants) (serials_in links.constants.known)) count
    (known-few given first all links.constants made settled.is settled.put))

module _ {J : Type 0} (given : Given) (linker : Linker J) (table : TableView) (base : Pass J) (unused : IsUnused given linker table base)
    (named : AreConstJobs (run_of given)) (plan : List (List Call)) (joined : Joined J) (all : AreAllJoined given base plan joined)
    (settled : IsSettled given joined.pass.links) where
  abbrev lanes : List (Lane J)
  lanes = all.1

  abbrev all_links : List LinkPass
  all_links = map (λ (p : ThreadPasses). p.links) (map passes_of lanes)

  abbrev known : Nodes
  known = joined.pass.links.constants.known

  abbrev values : Found
  values = values_in given joined.pass.links

  -- where constants are what they are by the serials of the run
  abbrev g : Given
  g = with_serials (serials_in known) given

  calls_are : calls_of lanes ≡ plan
  calls_are = all-calls given base plan all.0 lanes joined all.2 all.3

  so_far : AreJoinedSoFar given base (length lanes) lanes joined
  so_far = subst (λ n. AreJoinedSoFar given base n lanes joined) (sym all.3) all.2.so_far

  agrees : Agrees values joined.pass.links
  agrees = settled-agrees given joined.pass.links named settled

  made : AreMade given base.links all_links joined.pass.links.constants
  made = constants-made given linker table base unused lanes joined so_far

  count : length all_links ≡ length (calls_of lanes)
  count =
      length-map (map passes_of lanes) (λ (p : ThreadPasses). p.links)
      ∙ (length-map lanes passes_of ∙ sym (length-map lanes (λ (l : Lane J). l.calls.now)))

  module _ (stop : Stop) (some : joined.stop ≡ Some stop) where
    -- the stop is that which is reported of the threads of the plan
    pub stop-run : IsStopOfThreads given zero plan stop
    stop-run = record {
      base = base_of base;
      base_is = record {
        attempts = ap (λ (p : LinkPass). p.attempts) unused.links;
        linked = ap (λ (p : LinkPass). p.linked) unused.links;
        constants = ap (λ (p : LinkPass). p.constants.attempts) unused.links;
      };
      ends = ends_of lanes;
      made = subst (λ threads. HaveMade given (base_of base) threads (ends_of lanes)) calls_are all.2.made;
      reported = reported-lowest (ends_of lanes) stop (joined-stop given linker table base unused lanes joined so_far stop some);
    }

    -- there is a thread that has stopped
    threads-some : 1 ≤ length (calls_of lanes)
    threads-some = by lanes (joined-stop given linker table base unused lanes joined so_far stop some)
      where
        by : (ls : List (Lane J)) → stop_of (ends_of ls) ≡ Some stop → 1 ≤ length (calls_of ls)
        by [] none = cc
        by (l ∷ ls) is = omega arith

    tables : IsAmongTables given (length (calls_of lanes)) values
    tables = settled-tables given joined.pass.links base.links all_links (length (calls_of lanes)) named settled made count threads-some

    -- a thread had no form left
    pub full-run : (A : Type 0) → IfFull (error_of {A = A} (Err stop)) (most_forms < draws_needed given plan)
    full-run A = by stop.error refl
      where
        by : (e : WorkError) → stop.error ≡ e → IfFull {A = A} (Err e) (most_forms < draws_needed given plan)
        by (FormsFull drawn) is = subst (λ threads. most_forms < draws_needed given threads) calls_are
            (joined-full given linker table base unused lanes joined so_far values agrees tables stop some drawn is)
        by (TypesFull bucket) is = tt
        by NoMemory is = tt

    -- a thread had no slot left
    pub no-slot-run : (A : Type 0) → IfTypesFull (error_of {A = A} (Err stop)) (λ bucket. Overfill bucket (all_types given plan))
    no-slot-run A = by stop.error refl
      where
        by : (e : WorkError) → stop.error ≡ e → IfTypesFull {A = A} (Err e) (λ bucket. Overfill bucket (all_types given plan))
        by (TypesFull bucket) is = subst (λ threads. Overfill bucket (all_types given threads)) calls_are
            (joined-no-slot given linker table base unused lanes joined so_far values agrees tables stop some bucket is)
        by (FormsFull drawn) is = tt
        by NoMemory is = tt

  module _ (run : Linked) (none : joined.stop ≡ None) (tells : TellsRun given joined run) where
    whole : IsJoinedRun g lanes joined
    whole = joined-all given linker table base unused lanes joined so_far values agrees none

    table_is : run.table ≡ recorded g joined.pass.links.linked
    table_is = tells.table values agrees

    serials : joined.pass.links.linked ≡ serials_of run.table
    serials = sym (ap serials_of table_is ∙ serials-recorded g joined.pass.links.linked)

    used : AreUsed g plan (map passes_of lanes)
    used = subst (λ threads. AreUsed g threads (map passes_of lanes)) calls_are whole.used

    ordered : AreInOrder joined.pass.links.attempts run.attempts
    ordered = sorted-in_order g plan (map passes_of lanes) used joined.pass.links run.attempts whole.links tells.same tells.rising

    -- each linked serial is that of a recorded attempt, and of such an attempt alone
    own : (site serial : ℕ) → serial_at joined.pass.links.linked site ≡ Some serial →
        (a : Attempt) × Contains joined.pass.links.recorded a × (a.serial ≡ serial) × (a.site ≡ site)
    own site serial at = let a = tells.own site serial at in (a.0, a.1, a.3, a.4)

    linked : (a : Attempt) → Contains joined.pass.links.recorded a → serial_at joined.pass.links.linked a.site ≡ Some a.serial
    linked a there = (All-contains (IsRecorded joined.pass.links.linked joined.pass.links.attempts) joined.pass.links.recorded a tells.linked_are there).1

    -- ---- constants

    row_serials_are : row_serials run.constants ≡ serials_in known
    row_serials_are = ap row_serials tells.constants ∙ rows-serials known

    asked : All (λ (p : LinkPass). AsksMore given (split_pass p.thread base.links) p) all_links
    asked =
        All-map (λ (p : LinkPass). AsksMore given (split_pass p.thread base.links) p) (λ (p : ThreadPasses). p.links) (map passes_of lanes)
        (All-map (λ (p : ThreadPasses). AsksMore given (split_pass p.links.thread base.links) p.links) passes_of lanes
        (subst (EndsAnyhow given base lanes joined) none so_far.ends).1)

    ordered-all : AreOrderedBy given base.links all_links run.attempts
    ordered-all =
        ordered-by given plan (map passes_of lanes) (subst (λ threads. AreUsed given threads (map passes_of lanes)) calls_are so_far.used) base.links
        joined.pass.links whole.links run.attempts tells.same asked

    -- a plan's only thread
    in-order : (calls : List Call) → plan ≡ calls ∷ [] → AreInAskedOrder (asks_at given (serials_in known)) run.attempts run.constant_attempts
    in-order calls alone =
        let one = one-item (map passes_of lanes) (length-map lanes passes_of ∙ (sym (length-map lanes (λ (l : Lane J). l.calls.now))
        ∙ ap length (calls_are ∙ alone))) in
        let p : LinkPass = one.0.links in
        let only : all_links ≡ p ∷ [] = ap (map (λ (q : ThreadPasses). q.links)) one.1 in
        let by : AreOrderedBy given base.links (p ∷ []) run.attempts =
        subst (λ ps. AreOrderedBy given base.links ps run.attempts) only ordered-all in
        let here : Contains (p ∷ []) p = (0, omega arith, refl) in
        let thread = thread-of g plan (map passes_of lanes) used 0 one.0 (ap (λ ps. slice_get ps 0) one.1) in
        asked-order given named base.links p joined.pass.links.constants
        (subst (λ ps. AreMade given base.links ps joined.pass.links.constants) only made) settled.is settled.put
        (λ c. ap (λ (l : LinkPass). is_known l.constants.known c) unused.links ∙ none-known (length given.constants) c)
        (All-contains (λ (q : LinkPass). AsksMore given (split_pass q.thread base.links) q) (p ∷ []) p by.asks here)
        (constants-recorded given linker table base unused lanes joined so_far
        ∙ (ap (flat_map (λ (q : ThreadPasses). q.links.constants.recorded)) one.1 ∙ append-nil p.constants.recorded))
        run.attempts run.constant_attempts (serials-rise run.attempts ordered.serials) thread.used.run.rising (by.to p here)
        (λ a h.
        let from = by.from a h in subst (λ (q : LinkPass). Contains q.attempts a) (only-one from.0 p from.1) from.2)
        tells.resolving_same (order given named base.links all_links joined.pass.links.constants made settled.is settled.put run.attempts run.constant_attempts
        ordered-all tells.resolving_same tells.resolving_rising)
      where
        only-one : (q p : LinkPass) → Contains (p ∷ []) q → q ≡ p
        only-one q p h = by h.0 h.1 h.2
          where
            by : (k : ℕ) → k < 1 → get_or (p ∷ []) k q ≡ q → q ≡ p
            by zero within is = sym is
            by (suc k) within is = absurd (omega (arith, within))

    constants-of : (t : Serials) → t ≡ serials_in known →
        ConstLedgerBy given zero plan run.attempts t run.constant_attempts
    constants-of t same = subst (λ (u : Serials). ConstLedgerBy given zero plan run.attempts u run.constant_attempts) (sym same) (record {
      ledger = constant-ledger given named base.links all_links joined.pass.links.constants made settled.is settled.put run.attempts run.constant_attempts
          ordered-all tells.resolving_same tells.resolving_rising;
      in_order = order-by plan (asks_at given (serials_in known)) run.attempts run.constant_attempts in-order;
    })

    says : SaysOf g plan run.table run.threads run.attempts run.forms
    says = record {
      table_is = table_is ∙ ap (recorded g) serials;
      results = ap results_said tells.threads
          ∙ (whole.results joined.pass.links.linked (serials-self joined.pass.links.linked)
          ∙ (ap (results_of g joined.pass.links.linked) calls_are ∙ ap (λ (t : Serials). results_of g t plan) serials));
      keys = ap keys_said tells.threads
          ∙ (whole.keys joined.pass.links.linked (serials-self joined.pass.links.linked)
          ∙ (ap (plan_keys g joined.pass.links.linked) calls_are ∙ ap (λ (t : Serials). plan_keys g t plan) serials));
      forms_are = tells.forms_are
          ∙ forms-asked g plan (map passes_of lanes) joined.pass.links run.attempts whole.links ordered joined.pass.forms
          (subst (λ threads. HasAsked (edits_of g threads (map passes_of lanes)) joined.pass.forms) calls_are whole.asked);
    }

    pub report-of : IsLinkedRun given zero plan linker.types.now run joined.pass.types
    report-of = record {
      ledger = run-ledger g plan (map passes_of lanes) joined.pass.links run.attempts run.table used
          (subst (λ threads. AreDone threads (map passes_of lanes)) calls_are whole.done) whole.links table_is tells.entries tells.own tells.same
          tells.rising;
      constants = constants-of (row_serials run.constants) row_serials_are;
      rows_are = tells.constants ∙ (rows-known given known named (settled-nodes given joined.pass.links settled) ∙ ap (rows given) (sym row_serials_are));
      says = subst (λ (t : Serials). SaysOf (with_serials t given) plan run.table run.threads run.attempts run.forms) (sym row_serials_are) says;
      seat_is = so_far.types_is ∙ ap (λ (s : SeatView). s.table) unused.types;
      whole = types-whole given linker table base unused lanes joined so_far;
      held = held-types g joined.pass.links.recorded joined.pass.links.linked joined.pass.types.holds
          (types-just given linker table base unused lanes joined so_far values agrees) own linked
          ∙ ap₂ (λ (t : Serials) (u : Serials). types (with_serials t given) u) (sym row_serials_are) serials;
    }
