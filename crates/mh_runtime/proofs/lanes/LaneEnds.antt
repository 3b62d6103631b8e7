-- What a lane has after its calls, which began with a pass that was split off a base.
use Rattle.std.proofs.Common.{◌≡◌, refl, sym, ◌∙◌, ap, subst, ℕ, ◌+◌, List, [], ◌++◌, length, drop, Option, None, Some, arith}
use Rattle.std.specs.Prelude.{IsSome, OnOk, is_none}
use Rattle.std.specs.List.{flat_map}
use Rattle.std.proofs.lemmas.List.{take_all}
use Rattle.std.proofs.lemmas.List.Elements.{All-nil}
use Rattle.std.proofs.lemmas.List.Sums.{count_by-le-length}
use Rattle.mh_edit.specs.declared.key.Key.{Key}
use Rattle.mh_handle.specs.declared.answer.Answer.{Answer}
use Rattle.mh_handle.specs.Joins as form_joins
use Rattle.mh_handle.specs.Passes.{PassView}
use Rattle.mh_cells.specs.Values.{Keeps}
use Rattle.mh_condy.specs.Resolving.{GoesOnResolving}
use Rattle.mh_jobs.specs.Given.{Given, under}
use Rattle.mh_attempt.specs.declared.error.WorkError.{WorkError}
use Rattle.mh_attempt.specs.declared.error.WorkError.TheVariants.{NoMemory, FormsFull, TypesFull}
use Rattle.mh_attempt.proofs.asked.AskedAfter.{asked-drawn}
use Rattle.mh_attempt.specs.Asked.{DrawsWithin, HasAsked}
use Rattle.mh_plan.specs.declared.call.Call.{Call}
use Rattle.mh_plan.specs.Naming.{sites_named}
use Rattle.mh_report.specs.declared.attempt.Attempt.{Attempt}
use Rattle.mh_report.specs.Forms.{call_edits, thread_edits}
use Rattle.mh_report.specs.Results.{serial_at}
use Rattle.mh_report.specs.Types.{call_types, thread_types}
use Rattle.mh_runtime.specs.declared.lane.Lane.{Lane}
use Rattle.mh_runtime.specs.declared.linker.Linker.{Linker}
use Rattle.mh_runtime.specs.declared.pass.Pass.{Pass}
use Rattle.mh_runtime.specs.declared.stops.ThreadRun.{ThreadRun}
use Rattle.mh_runtime.specs.Asking.{HasAskedOn, HasRunOn, HasRunOut, LacksRoom, RunsOn, WasAsked, run_edits, run_types}
use Rattle.mh_runtime.specs.Attempts.{AreLinked, AsksMore, AttemptsMore, DrawsOnce, GoesOnLinking, HasRoomForConstants, IsThreadRun, ResolvesForAttempts}
use Rattle.mh_runtime.specs.Lanes.{AreUnlearnt, EndsAs, EndsBy, EndsDone, HasAnswered, HasResolved, HasRun, IsReadyLane, passes_of}
use Rattle.mh_runtime.specs.Bases.{Base, base_of, pass_of}
use Rattle.mh_runtime.specs.Linkers.{GoesOnCalling, HasRoom, IsOf, RunsThread}
use Rattle.mh_runtime.specs.Linking.{HoldsInstead}
use Rattle.mh_runtime.specs.Passes.{AttemptsUnlearnt, HasSerials, LinkPass, split_pass, split_room}
use Rattle.mh_runtime.specs.RunStops.{HasMade}
use Rattle.mh_runtime.specs.Stops.{EndAt, answered, begun, end_in, ending}
use Rattle.mh_intern.specs.Held.{times_type}
use Rattle.mh_intern.specs.Views.{SeatView}
use Rattle.mh_runtime.proofs.asking.AskedAnswers.{asked-on}
use Rattle.mh_runtime.proofs.ledger.Items.{flat-parts}
use Rattle.mh_runtime.proofs.types.RecordedTypes.{just-recorded}
use Rattle.mh_runtime.proofs.asking.RunSteps.{out-early}
use Rattle.mh_runtime.proofs.asking.SeatAsked.{on-early}
use Rattle.mh_runtime.proofs.sites.ThreadSteps.{attempts-early}

-- ---- passes that were split off

-- no attempt was made, and no site is named
pub run-split : (base : LinkPass) (thread : ℕ) → IsThreadRun [] (split_pass thread base)
run-split base thread = record {
  numbered = refl;
  rising = λ i j d below within. absurd (omega (arith, within));
  own = All-nil (λ (a : Attempt). a.thread ≡ thread);
  apart = λ i j d below within. absurd (omega (arith, within));
  reached = All-nil _;
  in_order = refl;
}

pub within-split : (base : PassView) → DrawsWithin split_room (form_joins.split_pass base)
within-split base = record { few = omega arith; room = refl }

-- what the base has asked for was asked for
pub asked-split : (given : Given) (before : List (List Key)) (base : PassView) → HasAsked before base →
    HasAsked (run_edits given [] before) (form_joins.split_pass base)
asked-split given before base has = record { once = has.once; same = has.same }

-- all attempts are of sites that the base had not learnt
unlearnt-split : (base : LinkPass) (thread : ℕ) (new : LinkPass) → AttemptsUnlearnt (split_pass thread base) new → AreUnlearnt base new.attempts
unlearnt-split base thread new made = subst (AreUnlearnt base) (sym made.1) made.2

-- ---- how calls end

module _ (given : Given) (calls : List Call) (answers : List Answer) where
  -- where all calls are answered, they are those that were begun
  all-begun : length answers ≡ length calls → begun answers calls ≡ calls
  all-begun whole = take_all (length answers + 1) calls (omega (arith, whole))

  all-answered : length answers ≡ length calls → answered answers calls ≡ calls
  all-answered whole = take_all (length answers) calls (omega (arith, whole))

  -- calls that have stopped, of all those of the thread
  out-whole : (a b : List Attempt) (old new : PassView) → HasRunOut given a b (thread_edits given.leaves (begun answers calls)) old new →
      HasRunOut given a b (thread_edits given.leaves calls) old new
  out-whole a b old new out =
      subst (λ rs. HasRunOut given a b rs old new) (flat-parts (call_edits given.leaves) calls (length answers + 1))
      (out-early given (thread_edits given.leaves (begun answers calls)) (flat_map (call_edits given.leaves) (drop (length answers + 1) calls)) a b old new
      out)

  -- and their attempts
  attempts-whole : (old new : LinkPass) → AttemptsMore (flat_map sites_named (begun answers calls)) old new →
      AttemptsMore (flat_map sites_named calls) old new
  attempts-whole old new made =
      subst (λ sites. AttemptsMore sites old new) (flat-parts sites_named calls (length answers + 1))
      (attempts-early (flat_map sites_named (begun answers calls)) (flat_map sites_named (drop (length answers + 1) calls)) old new made)

  -- and their types
  types-whole : (a b : List Attempt) (old new : SeatView) → HasAskedOn given a b (thread_types given.leaves (begun answers calls)) old new →
      HasAskedOn given a b (thread_types given.leaves calls) old new
  types-whole a b old new made =
      subst (λ ts. HasAskedOn given a b ts old new) (flat-parts (call_types given.leaves) calls (length answers + 1))
      (on-early given (thread_types given.leaves (begun answers calls)) (flat_map (call_types given.leaves) (drop (length answers + 1) calls)) a b old new
      made)

  -- what is known by how they end
  ends-by : (base : PassView) (links : LinkPass) (forms : PassView) (stop : Option WorkError) → EndAt calls answers stop →
      HasAnswered given (answered answers calls) links answers →
      RunsOn given [] links.attempts (thread_edits given.leaves (begun answers calls)) (form_joins.split_pass base) forms (ending stop) →
      EndsBy given base calls (record { links = links; forms = forms }) answers stop
  ends-by base links forms None ended reported runs =
      let on : HasRunOn given [] links.attempts (thread_edits given.leaves calls) (form_joins.split_pass base) forms =
      subst (λ cs. HasRunOn given [] links.attempts (thread_edits given.leaves cs) (form_joins.split_pass base) forms) (all-begun ended) runs in (
        (λ before has. asked-drawn split_room (run_edits given links.attempts (before ++ thread_edits given.leaves calls)) forms
            (on.asked before (asked-split given before base has)) (on.within split_room (within-split base))),
        (λ before has. on.asked before (asked-split given before base has)),
        subst (λ cs. HasAnswered given cs links answers) (all-answered ended) reported,
      )
  ends-by base links forms (Some (FormsFull drawn)) ended reported runs =
      λ before has. out-whole [] links.attempts (form_joins.split_pass base) forms runs.0 split_room (within-split base) before
      (asked-split given before base has)
  ends-by base links forms (Some (TypesFull bucket)) ended reported runs =
      λ before has. out-whole [] links.attempts (form_joins.split_pass base) forms runs split_room (within-split base) before
      (asked-split given before base has)
  ends-by base links forms (Some NoMemory) ended reported runs = tt

  -- and whatever values constants have
  ends-done : (base links : LinkPass) (forms : PassView) (stop : Option WorkError) → EndAt calls answers stop →
      AreLinked links.linked (flat_map sites_named (answered answers calls)) → OnOk (ending stop) (AsksMore given base links) →
      EndsDone given base calls (record { links = links; forms = forms }) stop
  ends-done base links forms None ended linked asks =
      (subst (λ cs. AreLinked links.linked (flat_map sites_named cs)) (all-answered ended) linked, asks)
  ends-done base links forms (Some e) ended linked asks = tt

-- ---- whichever data names the run

pub goes-any : {J : Type 0} (calls : ℕ) (old new : Pass J) → GoesOnCalling calls old new →
    GoesOnCalling {J = Unit {0}} calls (pass_of (base_of old)) (pass_of (base_of new))
goes-any calls old new goes =
    record { links = goes.links; table = goes.table; learnt = goes.learnt; room = goes.room; seat = goes.seat; holds = goes.holds }

-- what `run_thread` promises
abbrev Runs : Given → List Call → Base → Base → ThreadRun → Type 0
Runs given calls old new run = RunsThread {J = Unit {0}} given calls (pass_of old) (pass_of new) run

runs-any : {J : Type 0} (given : Given) (calls : List Call) (old new : Pass J) (run : ThreadRun) → RunsThread given calls old new run →
    Runs given calls (base_of old) (base_of new) run
runs-any given calls old new run made = record {
  goes_on = goes-any (length calls) old new made.goes_on;
  ended = made.ended;
  answers = made.answers;
  linked = made.linked;
  attempts = made.attempts;
  unlearnt = made.unlearnt;
  asks = made.asks;
  drawn = made.drawn;
  quiet = made.quiet;
  seat = made.seat;
  types = made.types;
  lacks = made.lacks;
  runs = made.runs;
  asked = made.asked;
}

-- ---- a lane

module _ {J : Type 0} (given : Given) (base : Pass J) (before after : Lane J) (can : IsReadyLane given base before) where
  -- its seats have room for its calls
  pub lane-room : HasRoom (length before.calls.now) before.pass
  lane-room = record {
    serials = omega (arith, can.few, ap (λ (p : LinkPass). p.seat.room) can.links);
    forms = omega (arith, can.few, ap (λ (p : PassView). p.seat.room) can.forms_are);
    holds = omega (arith, can.few, ap (λ (s : SeatView). s.room) can.types_are);
  }

  -- and for all constants
  pub lane-constants : HasRoomForConstants before.pass.links
  lane-constants =
      let known : before.pass.links.constants.known ≡ base.links.constants.known = ap (λ (p : LinkPass). p.constants.known) can.links in
      let room : before.pass.links.constants.seat.room ≡ split_room = ap (λ (p : LinkPass). p.constants.seat.room) can.links in
      let count : length before.pass.links.constants.known ≡ length base.links.constants.known = ap length known in
      let few = count_by-le-length is_none before.pass.links.constants.known in
      omega (arith, few, count, room, can.few_constants)

  -- it is over the base's linker
  pub lane-of : (linker : Linker J) → IsOf given linker base → IsOf given linker before.pass
  lane-of linker is = record {
    leaves = is.leaves;
    links = ap (λ (p : LinkPass). p.linker) can.links ∙ is.links;
    forms = ap (λ (p : PassView). p.table) can.forms_are ∙ is.forms;
    types = ap (λ (s : SeatView). s.table) can.types_are ∙ is.types;
  }

  -- it has made its calls with a pass that was split off the base
  pub has-made : (run : ThreadRun) → RunsThread given before.calls.now before.pass after.pass run →
      HasMade given (base_of base) before.pass.links.thread before.calls.now run.stop
  has-made run made =
      let calls : List Call = before.calls.now in
      let links : LinkPass = split_pass before.pass.links.thread base.links in
      let left : Base = base_of after.pass in
      record {
        left = left;
        run = run;
        runs = subst (λ (s : SeatView). Runs given calls (record { links = links; forms = form_joins.split_pass base.forms; types = s }) left run) can.types_are
            (subst (λ (f : PassView). Runs given calls (record { links = links; forms = f; types = before.pass.types }) left run) can.forms_are
            (subst (λ (l : LinkPass). Runs given calls (record { links = l; forms = before.pass.forms; types = before.pass.types }) left run) can.links
            (runs-any given calls before.pass after.pass run made)));
        end_is = refl;
      }

  -- it has resolved constants since its pass was split off
  has-resolved : GoesOnLinking (length before.calls.now) before.pass.links after.pass.links → DrawsOnce before.pass.links after.pass.links →
      ResolvesForAttempts before.pass.links after.pass.links → HasResolved base.links after.pass.links
  has-resolved goes drawn quiet =
      let same : before.pass.links ≡ split_pass after.pass.links.thread base.links = can.links ∙ ap (λ n. split_pass n base.links) (sym goes.thread) in
      record {
        goes = subst (λ (p : LinkPass). GoesOnResolving p.constants after.pass.links.constants) same goes.constants;
        drawn = subst (λ (p : LinkPass). DrawsOnce p after.pass.links) same drawn;
        quiet = subst (λ (p : LinkPass). ResolvesForAttempts p after.pass.links) same quiet;
      }

  -- it has run
  pub has-run : (run : ThreadRun) → after.ran ≡ Some run → RunsThread given before.calls.now before.pass after.pass run →
      HasRun given base before.pass.links.thread before.calls.now after
  has-run run ran gave =
      let calls : List Call = before.calls.now in
      let thread : ℕ = before.pass.links.thread in
      let goes = gave.goes_on.links in
      let fresh : IsThreadRun [] before.pass.links = subst (IsThreadRun []) (sym can.links) (run-split base.links thread) in
      let room : before.pass.links.seat.room + length before.pass.links.seat.numbers ≡ split_room + 0 =
      ap (λ (p : LinkPass). p.seat.room + length p.seat.numbers) can.links in
      let edits : List (List Key) = thread_edits given.leaves (begun run.answers calls) in
      let end : end_in after.ran ≡ run.stop = ap end_in ran in
      record {
        linker_is = goes.linker ∙ ap (λ (p : LinkPass). p.linker) can.links;
        table_is = gave.goes_on.table ∙ ap (λ (p : PassView). p.table) can.forms_are;
        types_is = gave.seat.table ∙ ap (λ (s : SeatView). s.table) can.types_are;
        thread_is = goes.thread;
        learnt = subst (λ linked. HasSerials linked after.pass.links.linked) (ap (λ (p : LinkPass). p.linked) can.links) goes.linked;
        unlearnt = unlearnt-split base.links thread after.pass.links
            (subst (λ (p : LinkPass). AttemptsUnlearnt p after.pass.links) can.links gave.unlearnt);
        run = attempts-whole given calls run.answers before.pass.links after.pass.links gave.attempts []
            (All-nil (λ site. IsSome (serial_at before.pass.links.linked site))) fresh;
        whole = omega (arith, goes.whole, room);
        types_whole = gave.seat.whole ∙ ap (λ (s : SeatView). s.room + length s.holds) can.types_are;
        types_held = λ known agrees.
            just-recorded (under known given) after.pass.links.recorded before.pass.types after.pass.types
            (ap (λ (s : SeatView). s.holds) can.types_are)
            (subst (λ (p : LinkPass). HoldsInstead (under known given) p.recorded after.pass.links.recorded before.pass.types after.pass.types) can.links
            (gave.types known agrees).types);
        types_asked = λ known agrees.
            types-whole (under known given) calls run.answers before.pass.links.attempts after.pass.links.attempts before.pass.types after.pass.types
            (asked-on (under known given) before.pass.links.attempts after.pass.links.attempts (thread_types given.leaves (begun run.answers calls))
            before.pass.types after.pass.types (ending run.stop) (gave.asked known agrees)) []
            (subst (λ (p : LinkPass). WasAsked (run_types (under known given) p.attempts []) before.pass.types) (sym can.links)
            (λ t none. ap (λ (s : SeatView). times_type t s.asked) can.types_are));
        lacks = subst (λ e. LacksRoom after.pass.forms after.pass.types (ending e)) (sym end) gave.lacks;
        has_ended = λ none. let e : Some run ≡ None = sym ran ∙ none in cc e;
        linkages = subst (λ (p : LinkPass). Keeps p.linkages after.pass.links.linkages) can.links goes.linkages;
        resolved = has-resolved goes gave.drawn gave.quiet;
        done = subst (EndsDone given (split_pass thread base.links) calls (passes_of after)) (sym end)
            (ends-done given calls run.answers (split_pass thread base.links) after.pass.links after.pass.forms run.stop gave.ended gave.linked
            (subst (λ (p : LinkPass). OnOk (ending run.stop) (AsksMore given p after.pass.links)) can.links gave.asks));
        ends = λ known agrees.
            subst (EndsAs (under known given) base.forms calls (passes_of after)) (sym ran)
            (ends-by (under known given) calls run.answers base.forms after.pass.links after.pass.forms run.stop gave.ended (gave.answers known agrees)
            (subst (λ (p : PassView). RunsOn (under known given) [] after.pass.links.attempts edits p after.pass.forms (ending run.stop)) can.forms_are
            (subst (λ (p : LinkPass). RunsOn (under known given) p.attempts after.pass.links.attempts edits before.pass.forms after.pass.forms
            (ending run.stop)) can.links (gave.runs known agrees))));
      }
