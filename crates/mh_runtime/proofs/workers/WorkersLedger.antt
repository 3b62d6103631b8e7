-- The ledger of a run whose call sites workers have linked, and what its threads attempt then: nothing.
use Rattle.std.proofs.Common.{◌≡◌, refl, sym, ◌∙◌, ap, subst, ℕ, ◌<◌, ◌≤◌, List, [], ◌∷◌, ◌++◌, append-nil, length, map, Some, None, arith}
use Rattle.std.specs.Prelude.{All, Contains, IsSome, Option, slice_get}
use Rattle.std.specs.List.{flat_map}
use Rattle.std.specs.Option.{option_flatten}
use Rattle.std.proofs.lemmas.List.Elements.{All-append, All-contains, All-contains_itself, All-head, All-nil, All-push, All-tail, All-weaker}
use Rattle.std.proofs.lemmas.List.Sorted.{Contains-permutation, IsPermutation-map, IsPermutation-sym, sum_by-IsPermutation}
use Rattle.mh_leaf.specs.LeafTable.{LeafTable}
use Rattle.mh_seats.specs.Room.{times}
use Rattle.mh_tickets.specs.Draws.{EachOnce}
use Rattle.mh_jobs.specs.declared.job.Job.{Job}
use Rattle.mh_condy.specs.Passes.{TableView}
use Rattle.mh_jobs.specs.Given.{Found, Given, under}
use Rattle.mh_plan.specs.declared.call.Call.{Call}
use Rattle.mh_plan.specs.declared.call.Call.TheVariants.{Exact, Generic, Indy}
use Rattle.mh_plan.specs.Calls.{AreCallsOf, IsCallOf}
use Rattle.mh_plan.specs.Naming.{sites_named}
use Rattle.mh_report.specs.declared.attempt.Attempt.{Attempt}
use Rattle.mh_report.specs.Recorded.{serials_of}
use Rattle.mh_report.specs.Results.{Serials, serial_at}
use Rattle.mh_runtime.specs.declared.joining.Joined.{Joined}
use Rattle.mh_runtime.specs.declared.lane.Lane.{Lane}
use Rattle.mh_runtime.specs.declared.linker.Linker.{Linker}
use Rattle.mh_runtime.specs.declared.pass.Pass.{Pass}
use Rattle.mh_runtime.specs.declared.prelinking.Prelinked.{Prelinked}
use Rattle.mh_runtime.specs.declared.running.Linked.{Linked}
use Rattle.mh_runtime.specs.Attempts.{AreLinked, sites_of}
use Rattle.mh_runtime.specs.Joined.{AreInOrder, ThreadPasses}
use Rattle.mh_runtime.specs.Joining.{AreJoinedSoFar, calls_of}
use Rattle.mh_runtime.specs.Lanes.{AreUnlearnt, passes_of}
use Rattle.mh_runtime.specs.Ledger.{IsOfWorker, PrelinkedLedger}
use Rattle.mh_runtime.specs.Prelinked.{IsPrelinked}
use Rattle.mh_runtime.specs.Report.{TellsRun}
use Rattle.mh_runtime.specs.Values.{Agrees}
use Rattle.mh_runtime.specs.Workers.{KnowsSite}
use Rattle.mh_runtime.proofs.workers.LearntBases.{flat-none, no-attempts, none-made}
use Rattle.mh_runtime.proofs.ledger.Owners.{thread-of}
use Rattle.mh_runtime.proofs.ledger.Places.{place-contains}
use Rattle.mh_runtime.proofs.ledger.RecordedSites.{serials-recorded}
use Rattle.mh_runtime.proofs.ledger.Serials.{in-order, is_it}
use Rattle.mh_runtime.proofs.workers.TakenSites.{all-known, of-site, of-worker, once-apart, serials-drawn, serials-once, serials-whole, sites-once}
use Rattle.mh_runtime.proofs.workers.WorkerSteps.{knows-still}

-- ---- calls of sites that are linked

module _ (leaves : LeafTable) (jobs : List Job) (linked : Serials) (known : (site : ℕ) → site < length jobs → IsSome (serial_at linked site)) where
  abbrev IsThere : ℕ → Type 0
  IsThere site = IsSome (serial_at linked site)

  call-linked : (call : Call) → IsCallOf leaves jobs call → AreLinked linked (sites_named call)
  call-linked (Exact leaf ty args) can = All-nil IsThere
  call-linked (Generic leaf ty args) can = All-nil IsThere
  call-linked (Indy site args) can = All-push IsThere [] site (All-nil IsThere) (known site can.0)

  calls-linked : (calls : List Call) → All (IsCallOf leaves jobs) calls → AreLinked linked (flat_map sites_named calls)
  calls-linked [] can = All-nil IsThere
  calls-linked (call ∷ calls) can =
      All-append IsThere (sites_named call) (flat_map sites_named calls) (call-linked call (All-head (IsCallOf leaves jobs) call calls can))
      (calls-linked calls (All-tail (IsCallOf leaves jobs) call calls can))

-- ---- a run over what workers have left

module _ {J : Type 0} (given : Given) (linker : Linker J) (table : TableView) (plan : List (List Call)) (workers : ℕ) (base : Pass J)
    (is : IsPrelinked given linker table (length plan) workers (record { pass = base; stop = None })) (can : AreCallsOf given.leaves given.jobs plan)
    (lanes : List (Lane J)) (joined : Joined J) (calls_are : calls_of lanes ≡ plan) (so_far : AreJoinedSoFar given base (length lanes) lanes joined) where
  abbrev state : Prelinked J
  state = record { pass = base; stop = None }

  pub base-known : (site : ℕ) → site < length given.jobs → KnowsSite base site
  base-known = all-known given linker table (length plan) workers state is refl

  -- the base has learnt the sites that the calls of each thread name
  named-linked : (thread : ℕ) (calls : List Call) → slice_get (calls_of lanes) thread ≡ Some calls → AreLinked base.links.linked (flat_map sites_named calls)
  named-linked thread calls at =
      calls-linked given.leaves given.jobs base.links.linked base-known calls
      (All-contains (λ cs. All (IsCallOf given.leaves given.jobs) cs) plan calls can
      (place-contains plan thread calls (subst (λ threads. slice_get threads thread ≡ Some calls) calls_are at)))

  -- so no thread attempts a site
  pub thread-made-none : (thread : ℕ) (p : ThreadPasses) → slice_get (map passes_of lanes) thread ≡ Some p → p.links.attempts ≡ []
  thread-made-none thread p at =
      let of = thread-of given (calls_of lanes) (map passes_of lanes) so_far.used thread p at in
      none-made base.links (flat_map sites_named of.calls) p.links.attempts (named-linked thread of.calls of.named) of.used.run.reached
      (All-contains (λ (q : ThreadPasses). AreUnlearnt base.links q.links.attempts) (map passes_of lanes) p so_far.unlearnt
      (place-contains (map passes_of lanes) thread p at))

  -- all attempts are those of the workers
  pub attempts-same : joined.pass.links.attempts ≡ base.links.attempts
  attempts-same = no-attempts given base (length lanes) lanes joined so_far named-linked

  numbers-same : joined.pass.links.seat.numbers ≡ base.links.seat.numbers
  numbers-same =
      so_far.numbers
      ∙ (ap (λ more. base.links.seat.numbers ++ more) (flat-none (λ (p : ThreadPasses). p.links.seat.numbers) (map passes_of lanes) none)
      ∙ append-nil base.links.seat.numbers)
    where
      none : (i : ℕ) (p : ThreadPasses) → slice_get (map passes_of lanes) i ≡ Some p → p.links.seat.numbers ≡ []
      none i p at =
          let of = thread-of given (calls_of lanes) (map passes_of lanes) so_far.used i p at in
          sym of.used.run.numbered ∙ ap (map (λ (a : Attempt). a.serial)) (thread-made-none i p at)

  numbers-once : EachOnce joined.pass.links.seat.numbers
  numbers-once =
      so_far.links_known (serials-once given linker table (length plan) workers state is)
      (let whole = serials-whole given linker table (length plan) workers state is in let room = so_far.links_room in omega (arith, whole, room))

  joined-serials : map (λ (a : Attempt). a.serial) joined.pass.links.attempts ≡ joined.pass.links.seat.numbers
  joined-serials =
      ap (map (λ (a : Attempt). a.serial)) attempts-same
      ∙ (serials-drawn given linker table (length plan) workers state is ∙ sym numbers-same)

  module _ (run : Linked) (tells : TellsRun given joined run) (values : Found) (agrees : Agrees values joined.pass.links) where
    pub ordered : AreInOrder joined.pass.links.attempts run.attempts
    ordered = in-order joined.pass.links.attempts run.attempts joined.pass.links.seat.numbers joined-serials numbers-once tells.same tells.rising

    serials : joined.pass.links.linked ≡ serials_of run.table
    serials = sym (ap serials_of (tells.table values agrees) ∙ serials-recorded (under values given) joined.pass.links.linked)

    -- the attempts in order are the workers'
    pub from-ordered : (a : Attempt) → Contains run.attempts a → Contains base.links.attempts a
    from-ordered a h =
        subst (λ made. Contains made a) attempts-same
        (Contains-permutation run.attempts joined.pass.links.attempts a (IsPermutation-sym joined.pass.links.attempts run.attempts tells.same) h)

    to-ordered : (a : Attempt) → Contains joined.pass.links.attempts a → Contains run.attempts a
    to-ordered a h = Contains-permutation joined.pass.links.attempts run.attempts a tells.same h

    joined-known : (site : ℕ) → site < length given.jobs → IsSome (serial_at joined.pass.links.linked site)
    joined-known site within = knows-still site base joined.pass so_far.learnt (base-known site within)

    own : (site serial : ℕ) → serial_at joined.pass.links.linked site ≡ Some serial →
        (a : Attempt) × Contains run.attempts a × (a.serial ≡ serial) × (a.site ≡ site)
    own site serial at = let a = tells.own site serial at in (a.0, to-ordered a.0 a.2, a.3, a.4)

    -- each site has an attempt
    covered : (site : ℕ) (o : Option ℕ) → serial_at joined.pass.links.linked site ≡ o → IsSome (serial_at joined.pass.links.linked site) →
        (a : Attempt) × Contains run.attempts a × (a.site ≡ site)
    covered site None at some = absurd (cc (subst IsSome at some))
    covered site (Some serial) at some = let a = own site serial at in (a.0, a.1, a.3)

    once : (x : ℕ) → times x (sites_of run.attempts) ≤ 1
    once x =
        let moved : times x (sites_of run.attempts) ≡ times x (sites_of joined.pass.links.attempts) =
        sum_by-IsPermutation (λ y. is_it y x) (sites_of joined.pass.links.attempts) (sites_of run.attempts)
        (IsPermutation-map (λ (a : Attempt). a.site) joined.pass.links.attempts run.attempts tells.same) in
        let same : times x (sites_of joined.pass.links.attempts) ≡ times x (sites_of base.links.attempts) =
        ap (λ made. times x (sites_of made)) attempts-same in
        omega (arith, moved, same, sites-once given linker table (length plan) workers state is x)

    ledger-linked : PrelinkedLedger (length plan) workers (length given.jobs) joined.pass.links.linked run.attempts
    ledger-linked = record {
      entries = tells.entries;
      serials = ordered.serials;
      linked = joined-known;
      own = λ site serial at. own site serial (ap option_flatten at);
      covered = λ site within. covered site (serial_at joined.pass.links.linked site) refl (joined-known site within);
      once = once-apart (λ (a : Attempt). a.site) run.attempts once;
      by_workers = All-weaker (Contains run.attempts)
          (λ (a : Attempt). (a.site < length given.jobs) × IsOfWorker (length plan) workers a.thread)
          (λ a h.
          let made = from-ordered a h in
          (of-site given linker table (length plan) workers state is a made, of-worker given linker table (length plan) workers state is a made)) run.attempts
          (All-contains_itself run.attempts);
    }

    pub prelinked-ledger : PrelinkedLedger (length plan) workers (length given.jobs) (serials_of run.table) run.attempts
    prelinked-ledger = subst (λ (t : Serials). PrelinkedLedger (length plan) workers (length given.jobs) t run.attempts) serials ledger-linked
