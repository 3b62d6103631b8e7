-- What a worker leaves of its pass, site after site.
use Rattle.std.proofs.Common.{◌≡◌, refl, sym, ◌∙◌, ap, subst, ℕ, ◌+◌, List, [], ◌∷◌, ◌++◌, length, length-append, Option, None, Some, Result, Ok, Err, arith}
use Rattle.std.specs.Prelude.{IsErrAnd, IsSome, MatchResult, OnOk}
use Rattle.std.proofs.lemmas.Bool.{both_ways}
use Rattle.std.proofs.lemmas.List.Elements.{All-nil, All-push}
use denote.Ref.{Bor}
use Rattle.mh_handle.specs.Joins as form_joins
use Rattle.mh_handle.specs.Passes.{PassView}
use Rattle.mh_intern.specs.Views.{SeatView}
use Rattle.mh_condy.specs.Passes.{TableView}
use Rattle.mh_condy.specs.Resolving.{GoesOnResolving}
use Rattle.mh_condy.specs.Trails.{AreOwnNodes, trail_of}
use Rattle.mh_jobs.specs.Given.{Found, Given, under}
use Rattle.mh_link.specs.Named.{run_of}
use Rattle.mh_link.specs.Places.{is_in}
use Rattle.mh_attempt.specs.declared.error.WorkError.{WorkError}
use Rattle.mh_attempt.specs.declared.error.WorkError.TheVariants.{NoMemory, FormsFull, TypesFull}
use Rattle.mh_attempt.specs.Asked.{HasAsked}
use Rattle.mh_attempt.specs.Linkage.{LinkageView}
use Rattle.mh_attempt.proofs.asked.AskedAfter.{asked-drawn}
use Rattle.mh_prelink.specs.Steps.{Did, Went, WentUntil}
use Rattle.mh_report.specs.declared.attempt.Attempt.{Attempt}
use Rattle.mh_report.specs.Results.{serial_at}
use Rattle.mh_seats.specs.Room.{limit}
use Rattle.mh_runtime.specs.declared.linker.Linker.{Linker}
use Rattle.mh_runtime.specs.declared.pass.Pass.{Pass}
use Rattle.mh_runtime.specs.Asking.{HasAskedOn, RunsOn, RunsOnTypes, WasAsked, run_edits, run_types}
use Rattle.mh_runtime.specs.Attempts.{AreLinked, AsksMore, DrawsOnce, GoesOnLinking, IsThreadRun, ResolvesForAttempts}
use Rattle.mh_runtime.specs.Bases.{Base, base_of, pass_of}
use Rattle.mh_runtime.specs.Lanes.{HasResolved}
use Rattle.mh_runtime.specs.Linkers.{GoesOnCalling, Resolves}
use Rattle.mh_runtime.specs.Linking.{HoldsInstead, HoldsRecorded}
use Rattle.mh_runtime.specs.Passes.{HasSerials, LinkPass, split_pass, split_room}
use Rattle.mh_runtime.specs.Prelinked.{EndsTaken, EndsWork, HasTaken}
use Rattle.mh_runtime.specs.RunStops.{HasWorked}
use Rattle.mh_runtime.specs.Stops.{ending}
use Rattle.mh_runtime.specs.Workers.{IsSplitFor, KnowsSite, LinksSite, LinksSites, Worker, first_of}
use Rattle.mh_runtime.specs.Values.{Agrees}
use Rattle.mh_runtime.proofs.constants.Agreeing.{agrees-linked}
use Rattle.mh_runtime.proofs.asking.AskedAnswers.{asked-on}
use Rattle.mh_runtime.proofs.constants.Asking.{asks-own, asks-then, drawn-both, drawn-none, quiet-both}
use Rattle.mh_runtime.proofs.asking.Lacking.{lacks-any}
use Rattle.mh_runtime.proofs.lanes.LaneEnds.{asked-split, goes-any, run-split, within-split}
use Rattle.mh_runtime.proofs.types.RecordedTypes.{just-recorded, still-whole, whole-both}
use Rattle.mh_runtime.proofs.asking.RunSteps.{runs-both, runs-none, stops-second}
use Rattle.mh_runtime.proofs.asking.SeatAsked.{on-both, on-none}
use Rattle.mh_runtime.proofs.sites.ThreadSteps.{attempts-both, attempts-none, linked-both, links-both, links-none, unlearnt-both, unlearnt-same}
use Rattle.mh_runtime.proofs.lanes.WholeJoin.{none-asked}
use Rattle.mh_intern.specs.Held.{times_type}

-- ---- the room of a pass

module _ {J : Type 0} where
  goes-none : (pass : Pass J) → GoesOnCalling 0 pass pass
  goes-none pass =
      record { links = links-none pass.links 0; table = refl; learnt = λ recipe form is. is; room = omega arith; seat = refl; holds = omega arith }

  goes-both : (m n : ℕ) (p q r : Pass J) → GoesOnCalling m p q → GoesOnCalling n q r → GoesOnCalling (m + n) p r
  goes-both m n p q r x y = record {
    links = links-both m n p.links q.links r.links x.links y.links;
    table = y.table ∙ x.table;
    learnt = λ recipe form is. y.learnt recipe form (x.learnt recipe form is);
    room = let a = x.room in let b = y.room in omega (arith, a, b);
    seat = y.seat ∙ x.seat;
    holds = let a = x.holds in let b = y.holds in omega (arith, a, b);
  }

-- ---- what a seat holds

holds-none : (given : Given) (recorded : List Attempt) (seat : SeatView) → HoldsRecorded given recorded recorded seat seat
holds-none given recorded seat = record { table = refl; whole = refl; types = λ t. refl }

holds-both : (given : Given) (a b c : List Attempt) (p q r : SeatView) → HoldsRecorded given a b p q → HoldsRecorded given b c q r →
    HoldsRecorded given a c p r
holds-both given a b c p q r x y = record {
  table = y.table ∙ x.table;
  whole = y.whole ∙ x.whole;
  types = λ t. let m = x.types t in let n = y.types t in omega (arith, m, n);
}

-- ---- sites

module _ {J : Type 0} (given : Given) where
  -- each node that the pass has put is what it should be
  abbrev HasOwnNodes : Pass J → Type 0
  HasOwnNodes pass = AreOwnNodes (run_of given) (trail_of pass.links.constants)

  no-sites : (pass : Pass J) → HasOwnNodes pass → LinksSites given [] None pass pass
  no-sites pass own = record {
    goes_on = goes-none pass;
    linked = All-nil (λ site. IsSome (serial_at pass.links.linked site));
    attempts = attempts-none pass.links;
    unlearnt = unlearnt-same pass.links pass.links refl;
    asks = asks-own given pass.links own;
    drawn = drawn-none pass.links;
    quiet = λ same. refl;
    seat = still-whole pass.types;
    types = λ known agrees. holds-none (under known given) pass.links.recorded pass.types;
    lacks = tt;
    runs = λ known agrees. runs-none (under known given) pass.links.attempts pass.forms;
    asked = λ known agrees. on-none (under known given) pass.links.attempts pass.types;
  }

  -- more sites were linked after some
  module _ (xs ys : List ℕ) (p q r : Pass J) (x : LinksSites given xs None p q) where
    more-linked : (stop : Option WorkError) → HasSerials q.links.linked r.links.linked → OnOk (ending stop) (AreLinked r.links.linked ys) →
        OnOk (ending stop) (AreLinked r.links.linked (xs ++ ys))
    more-linked None has linked = linked-both q.links.linked r.links.linked xs ys has x.linked linked
    more-linked (Some e) has linked = tt

    module _ (known : Found) (agrees : Agrees known q.links) where
      abbrev g : Given
      g = under known given

      more-runs : (stop : Option WorkError) → RunsOn g q.links.attempts r.links.attempts [] q.forms r.forms (ending stop) →
          RunsOn g p.links.attempts r.links.attempts [] p.forms r.forms (ending stop)
      more-runs None runs = runs-both g [] [] p.links.attempts q.links.attempts r.links.attempts p.forms q.forms r.forms (x.runs known agrees) runs
      more-runs (Some e) runs =
          stops-second g [] [] p.links.attempts q.links.attempts r.links.attempts p.forms q.forms r.forms (x.runs known agrees) [] e runs

      asked-both : HasAskedOn g q.links.attempts r.links.attempts [] q.types r.types → HasAskedOn g p.links.attempts r.links.attempts [] p.types r.types
      asked-both asked = on-both g [] [] p.links.attempts q.links.attempts r.links.attempts p.types q.types r.types (x.asked known agrees) asked

      more-asked : (stop : Option WorkError) → RunsOnTypes g q.links.attempts r.links.attempts [] q.types r.types (ending stop) →
          RunsOnTypes g p.links.attempts r.links.attempts [] p.types r.types (ending stop)
      more-asked None asked = asked-both asked
      more-asked (Some NoMemory) asked = asked-both asked
      more-asked (Some (FormsFull drawn)) asked = asked-both asked
      more-asked (Some (TypesFull bucket)) asked = (asked-both asked.0, asked.1)

    more-sites : (stop : Option WorkError) → LinksSites given ys stop q r → LinksSites given (xs ++ ys) stop p r
    more-sites stop y =
        let earlier : (known : Found) → Agrees known r.links → Agrees known q.links =
        λ known agrees. agrees-linked (length ys) known q.links r.links y.goes_on.links agrees in
        record {
          goes_on = subst (λ n. GoesOnCalling n p r) (sym (length-append xs ys)) (goes-both (length xs) (length ys) p q r x.goes_on y.goes_on);
          linked = more-linked stop y.goes_on.links.linked y.linked;
          attempts = attempts-both xs ys p.links q.links r.links x.goes_on.links.linked x.linked x.attempts y.attempts;
          unlearnt = unlearnt-both p.links q.links r.links x.goes_on.links.linked x.unlearnt y.unlearnt;
          asks = asks-then given p.links q.links r.links (ending stop) x.asks y.asks;
          drawn = drawn-both given p.links q.links r.links x.asks y.drawn;
          quiet = quiet-both p.links q.links r.links x.unlearnt y.unlearnt x.quiet y.quiet;
          seat = whole-both p.types q.types r.types x.seat y.seat;
          types = λ known agrees.
              holds-both (under known given) p.links.recorded q.links.recorded r.links.recorded p.types q.types r.types
              (x.types known (earlier known agrees)) (y.types known agrees);
          lacks = y.lacks;
          runs = λ known agrees. more-runs known (earlier known agrees) stop (y.runs known agrees);
          asked = λ known agrees. more-asked known (earlier known agrees) stop (y.asked known agrees);
        }

  -- one step for each site
  went-sites : (xs : List ℕ) (p q : Pass J) → HasOwnNodes p → Went {P = Pass J} {E = WorkError} (LinksSite given) p xs q → LinksSites given xs None p q
  went-sites [] p q own same = subst (LinksSites given [] None p) same (no-sites p own)
  went-sites (x ∷ xs) p q own went =
      more-sites (x ∷ []) xs p went.0 q went.1 None (went-sites xs went.0 q went.1.asks.goes.sound went.2)

  until-sites : (xs : List ℕ) (stop : Option WorkError) (p q : Pass J) → HasOwnNodes p →
      WentUntil {P = Pass J} {E = WorkError} (LinksSite given) p xs stop q → LinksSites given xs stop p q
  until-sites xs None p q own went = went-sites xs p q own went
  until-sites xs (Some e) p q own went =
      subst (λ zs. LinksSites given zs (Some e) p q) (sym went.3)
      (more-sites went.0 (went.1 ∷ []) p went.2 q (went-sites went.0 p went.2 own went.4) (Some e) went.5)

  -- ---- one site

  module _ (site : ℕ) (old new : Pass J) where
    pub site-known : (l : Bor LinkageView) → Resolves given site old new (Ok l) → KnowsSite new site
    site-known l made = subst IsSome (sym made.linked.1) refl

    pub site-linked : (l : Bor LinkageView) → Resolves given site old new (Ok l) → LinksSite given old site None new
    site-linked l made = record {
      goes_on = made.goes_on;
      linked = All-push (λ k. IsSome (serial_at new.links.linked k)) [] site (All-nil (λ k. IsSome (serial_at new.links.linked k))) (site-known l made);
      attempts = made.attempts;
      unlearnt = made.unlearnt;
      asks = made.asks;
      drawn = made.drawn;
      quiet = made.quiet;
      seat = made.seat;
      types = made.types;
      lacks = tt;
      runs = made.runs;
      asked = made.asked;
    }

    -- whichever the answer would have been
    types-stopped : (g : Given) (e : WorkError) →
        RunsOnTypes {A = Bor LinkageView} g old.links.attempts new.links.attempts [] old.types new.types (Err e) →
        RunsOnTypes {A = Unit {0}} g old.links.attempts new.links.attempts [] old.types new.types (Err e)
    types-stopped g NoMemory asked = asked
    types-stopped g (FormsFull drawn) asked = asked
    types-stopped g (TypesFull bucket) asked = asked

    site-stopped : (e : WorkError) → Resolves given site old new (Err e) → LinksSite given old site (Some e) new
    site-stopped e made = record {
      goes_on = made.goes_on;
      linked = tt;
      attempts = made.attempts;
      unlearnt = made.unlearnt;
      asks = tt;
      drawn = made.drawn;
      quiet = made.quiet;
      seat = made.seat;
      types = made.types;
      lacks = lacks-any (Bor LinkageView) (Unit {0}) new.forms new.types e made.lacks;
      runs = made.runs;
      asked = λ known agrees. types-stopped (under known given) e (made.asked known agrees);
    }

    -- and its error is handed on
    stop-handed : (e f : WorkError) → f ≡ e → Resolves given site old new (Err e) → LinksSite given old site (Some f) new
    stop-handed e f same made = subst (λ x. LinksSite given old site (Some x) new) (sym same) (site-stopped e made)

    -- so it is for what `link` answers
    pub link-handed : (e : WorkError) (r : Result (Unit {0}) WorkError) → IsErrAnd r (λ x. x ≡ e) → Resolves given site old new (Err e) →
        MatchResult r (λ x. LinksSite given old site None new) (λ f. LinksSite given old site (Some f) new)
    link-handed e (Ok x) is made = absurd is
    link-handed e (Err f) is made = stop-handed e f is made

-- what was known of another site is known still
pub knows-still : {J : Type 0} (site : ℕ) (old new : Pass J) → HasSerials old.links.linked new.links.linked → KnowsSite old site → KnowsSite new site
knows-still site old new has = by (serial_at old.links.linked site) refl
  where
    by : (o : Option ℕ) → serial_at old.links.linked site ≡ o → IsSome (serial_at old.links.linked site) → KnowsSite new site
    by None is some = absurd (cc (subst IsSome is some))
    by (Some serial) is some = subst IsSome (sym (has site serial is)) refl

-- ---- whichever data names the run

-- what a worker does
abbrev Links : Given → List ℕ → Option WorkError → Base → Base → Type 0
Links given sites stop old new = LinksSites {J = Unit {0}} given sites stop (pass_of old) (pass_of new)

links-any : {J : Type 0} (given : Given) (sites : List ℕ) (stop : Option WorkError) (old new : Pass J) → LinksSites given sites stop old new →
    Links given sites stop (base_of old) (base_of new)
links-any given sites stop old new made = record {
  goes_on = goes-any (length sites) old new made.goes_on;
  linked = made.linked;
  attempts = made.attempts;
  unlearnt = made.unlearnt;
  asks = made.asks;
  drawn = made.drawn;
  quiet = made.quiet;
  seat = made.seat;
  types = made.types;
  lacks = made.lacks;
  runs = made.runs;
  asked = made.asked;
}

-- ---- a worker, whose pass was split off the first pass

-- what is known of it by how it ended
module _ {J : Type 0} (given : Given) (linker : Linker J) (table : TableView) (w : Worker J) where
  -- no form was asked for before
  none-before : HasAsked (run_edits given [] []) (form_joins.split_pass (first_of given linker table).forms)
  none-before = asked-split given [] (first_of given linker table).forms (none-asked linker.forms.now limit)

  ends-work : (stop : Option WorkError) →
      RunsOn given [] w.pass.links.attempts [] (form_joins.split_pass (first_of given linker table).forms) w.pass.forms (ending stop) → EndsWork given w stop
  ends-work None runs =
      let asked : HasAsked (run_edits given w.pass.links.attempts []) w.pass.forms = runs.asked [] none-before in (
        asked-drawn split_room (run_edits given w.pass.links.attempts []) w.pass.forms asked
            (runs.within split_room (within-split (first_of given linker table).forms)),
        asked,
      )
  ends-work (Some (FormsFull drawn)) runs = runs.0 split_room (within-split (first_of given linker table).forms) [] none-before
  ends-work (Some (TypesFull bucket)) runs = runs split_room (within-split (first_of given linker table).forms) [] none-before
  ends-work (Some NoMemory) runs = tt

ends-taken : {J : Type 0} (given : Given) (base : LinkPass) (w : Worker J) (stop : Option WorkError) →
    OnOk (ending stop) (AreLinked w.pass.links.linked w.taken) → OnOk (ending stop) (AsksMore given base w.pass.links) → EndsTaken given base w stop
ends-taken given base w None linked asks = (linked, asks)
ends-taken given base w (Some e) linked asks = tt

-- a pass that was split off has put no node
own-split : (given : Given) (base : LinkPass) (thread : ℕ) → AreOwnNodes (run_of given) (trail_of (split_pass thread base).constants)
own-split given base thread = record {
  each = λ c node at h. absurd (both_ways (is_in [] c) refl h);
  there = λ c h. absurd (both_ways (is_in [] c) refl h);
}

module _ {J : Type 0} (given : Given) (linker : Linker J) (table : TableView) (w : Worker J) where
  abbrev first : LinkPass
  first = (first_of given linker table).links

  module _ (thread : ℕ) (pass : Pass J) (split : IsSplitFor given linker table thread pass) (made : LinksSites given w.taken w.stop pass w.pass) where
    fresh : IsThreadRun [] pass.links
    fresh = subst (IsThreadRun []) (sym split.links) (run-split first thread)

    types-asked : (known : Found) → Agrees known w.pass.links → WasAsked (run_types (under known given) w.pass.links.attempts []) w.pass.types
    types-asked known agrees =
        asked-on (under known given) pass.links.attempts w.pass.links.attempts [] pass.types w.pass.types (ending w.stop) (made.asked known agrees) []
        (subst (λ (p : LinkPass). WasAsked (run_types (under known given) p.attempts []) pass.types) (sym split.links)
        (λ t none. ap (λ (s : SeatView). times_type t s.asked) split.types_are))

    -- with a pass that was split off the first one
    worked : HasWorked given (base_of (first_of given linker table)) thread w.stop
    worked =
        let links : LinkPass = split_pass thread first in
        let forms : PassView = form_joins.split_pass (first_of given linker table).forms in
        let left : Base = base_of w.pass in
        record {
          sites = w.taken;
          left = left;
          links = subst (λ (s : SeatView). Links given w.taken w.stop (record { links = links; forms = forms; types = s }) left) split.types_are
              (subst (λ (f : PassView). Links given w.taken w.stop (record { links = links; forms = f; types = pass.types }) left) split.forms_are
              (subst (λ (l : LinkPass). Links given w.taken w.stop (record { links = l; forms = pass.forms; types = pass.types }) left) split.links
              (links-any given w.taken w.stop pass w.pass made)));
        }

    -- it has resolved constants since then
    resolved : HasResolved first w.pass.links
    resolved =
        let thread_is : w.pass.links.thread ≡ thread = made.goes_on.links.thread ∙ ap (λ (p : LinkPass). p.thread) split.links in
        let same : pass.links ≡ split_pass w.pass.links.thread first = split.links ∙ ap (λ n. split_pass n first) (sym thread_is) in
        record {
          goes = subst (λ (p : LinkPass). GoesOnResolving p.constants w.pass.links.constants) same made.goes_on.links.constants;
          drawn = subst (λ (p : LinkPass). DrawsOnce p w.pass.links) same made.drawn;
          quiet = subst (λ (p : LinkPass). ResolvesForAttempts p w.pass.links) same made.quiet;
        }

    made-work : HasTaken given linker table thread w
    made-work =
        let goes = made.goes_on.links in
        let room : pass.links.seat.room + length pass.links.seat.numbers ≡ split_room + 0 =
        ap (λ (p : LinkPass). p.seat.room + length p.seat.numbers) split.links in
        record {
          linker_is = goes.linker ∙ ap (λ (p : LinkPass). p.linker) split.links;
          table_is = made.goes_on.table ∙ ap (λ (p : PassView). p.table) split.forms_are;
          types_is = made.seat.table ∙ ap (λ (s : SeatView). s.table) split.types_are;
          thread_is = goes.thread ∙ ap (λ (p : LinkPass). p.thread) split.links;
          run = made.attempts [] (All-nil (λ site. IsSome (serial_at pass.links.linked site))) fresh;
          whole = omega (arith, goes.whole, room);
          types_whole = made.seat.whole ∙ ap (λ (s : SeatView). s.room + length s.holds) split.types_are;
          linkages = subst (λ (p : LinkPass). GoesOnLinking (length w.taken) p w.pass.links) split.links goes;
          types_held = λ known agrees.
              just-recorded (under known given) w.pass.links.recorded pass.types w.pass.types (ap (λ (s : SeatView). s.holds) split.types_are)
              (subst (λ (p : LinkPass). HoldsInstead (under known given) p.recorded w.pass.links.recorded pass.types w.pass.types) split.links
              (made.types known agrees).types);
          types_asked = types-asked;
          lacks = made.lacks;
          worked = worked;
          resolved = resolved;
          taken = ends-taken given (split_pass thread first) w w.stop made.linked
              (subst (λ (p : LinkPass). OnOk (ending w.stop) (AsksMore given p w.pass.links)) split.links made.asks);
          ends = λ known agrees.
              ends-work (under known given) linker table w w.stop
              (subst (λ (p : PassView). RunsOn (under known given) [] w.pass.links.attempts [] p w.pass.forms (ending w.stop)) split.forms_are
              (subst (λ (p : LinkPass). RunsOn (under known given) p.attempts w.pass.links.attempts [] pass.forms w.pass.forms (ending w.stop)) split.links
              (made.runs known agrees)));
        }

  -- what it did
  pub has-taken : (thread : ℕ) (pass : Pass J) → IsSplitFor given linker table thread pass →
      Did {P = Pass J} {E = WorkError} (LinksSite given) KnowsSite pass w → HasTaken given linker table thread w
  has-taken thread pass split did =
      made-work thread pass split (until-sites given w.taken w.stop pass w.pass
      (subst (λ (p : LinkPass). AreOwnNodes (run_of given) (trail_of p.constants)) (sym split.links) (own-split given first thread)) did.went)
