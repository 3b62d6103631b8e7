-- The attempts at constants of a run whose call sites workers have linked: its threads make none.
use Rattle.std.proofs.Common.{◌≡◌, sym, ◌∙◌, ap, subst, ℕ, ◌+◌, List, [], ◌++◌, append-nil, length, map, None, Some, arith}
use Rattle.std.specs.Prelude.{Contains, slice_get}
use Rattle.std.specs.List.{All, flat_map}
use Rattle.std.specs.List.Sorted.{IsPermutation}
use Rattle.std.proofs.lemmas.List.{length-replicate}
use Rattle.std.proofs.lemmas.List.Elements.{All-contains, All-contains_itself, All-map, All-weaker}
use Rattle.std.proofs.lemmas.List.Sorted.{Contains-permutation, IsPermutation-sym}
use Rattle.std.proofs.lemmas.Option.{slice_get-get_or}
use Rattle.mh_tickets.specs.Draws.{EachOnce}
use Rattle.mh_seats.specs.Room.{limit}
use Rattle.mh_condy.specs.Nodes.{Keeps}
use Rattle.mh_condy.specs.Passes.{TableView}
use Rattle.mh_condy.proofs.Trails.{keeps-both}
use Rattle.mh_jobs.specs.Given.{Given}
use Rattle.mh_plan.specs.declared.call.Call.{Call}
use Rattle.mh_plan.specs.Calls.{AreCallsOf}
use Rattle.mh_report.specs.declared.attempt.Attempt.{Attempt}
use Rattle.mh_runtime.specs.declared.joining.Joined.{Joined}
use Rattle.mh_runtime.specs.declared.lane.Lane.{Lane}
use Rattle.mh_runtime.specs.declared.linker.Linker.{Linker}
use Rattle.mh_runtime.specs.declared.pass.Pass.{Pass}
use Rattle.mh_runtime.specs.declared.prelinking.Prelinked.{Prelinked}
use Rattle.mh_runtime.specs.Attempts.{AsksMore}
use Rattle.mh_runtime.specs.Joined.{ThreadPasses, passes_in}
use Rattle.mh_runtime.specs.Joining.{AreJoinedSoFar, calls_of}
use Rattle.mh_runtime.specs.Lanes.{HasResolved, passes_of}
use Rattle.mh_runtime.specs.Passes.{LinkPass, split_pass}
use Rattle.mh_runtime.specs.Prelinked.{HaveAskedAll, IsPrelinked}
use Rattle.mh_runtime.specs.Workers.{Worker, first_of}
use Rattle.mh_runtime.proofs.constants.ConstantLedger.{AreOrderedBy}
use Rattle.mh_runtime.proofs.workers.LearntBases.{flat-none}
use Rattle.mh_runtime.proofs.constants.MadeConstants.{AreMade}
use Rattle.mh_runtime.proofs.ledger.Numbers.{contains-map, flat-map}
use Rattle.mh_runtime.proofs.ledger.Parts.{at-map, in-part, map-at, part-in}
use Rattle.mh_runtime.proofs.ledger.Places.{place-contains}
use Rattle.mh_runtime.proofs.lanes.WholeJoin.{none-once}
use Rattle.mh_runtime.proofs.workers.WorkersLedger.{attempts-same, thread-made-none}

-- what holds of all items of a mapped list
all-unmap : {X Y : Type 0} (P : Y → Type 0) (f : X → Y) (xs : List X) → All P (map f xs) → All (λ x. P (f x)) xs
all-unmap P f xs all =
    All-weaker (Contains xs) (λ x. P (f x)) (λ x h. All-contains P (map f xs) (f x) all (contains-map f xs x h)) xs (All-contains_itself xs)

module _ {J : Type 0} (given : Given) (linker : Linker J) (table : TableView) (plan : List (List Call)) (workers : ℕ) (state : Prelinked J)
    (is : IsPrelinked given linker table (length plan) workers state) where
  abbrev first : LinkPass
  first = (first_of given linker table).links

  -- the passes of the workers over the sites
  abbrev pub links : List LinkPass
  links = map (λ (w : Worker J). w.pass.links) is.all

  -- what they have, in the one way of saying it and in the other
  flat-same : {X : Type 0} (f : LinkPass → List X) →
      flat_map (λ (p : ThreadPasses). f p.links) (map (λ (w : Worker J). passes_in w.pass) is.all) ≡ flat_map f links
  flat-same f =
      flat-map (λ (p : ThreadPasses). f p.links) (λ (w : Worker J). passes_in w.pass) is.all
      ∙ sym (flat-map f (λ (w : Worker J). w.pass.links) is.all)

  numbers-whole : state.pass.links.constants.seat.room + length state.pass.links.constants.seat.numbers ≡ limit
  numbers-whole = let room = is.gathered.constants_room in let count = is.count in omega (arith, room, count)

  numbers-once : EachOnce state.pass.links.constants.seat.numbers
  numbers-once = is.gathered.constants.each_once none-once numbers-whole

  -- all that was attempted, where the calls were not made yet
  pub workers-made : AreMade given first links state.pass.links.constants
  workers-made = record {
    count = length-replicate (length given.constants) None;
    known = All-map (λ (p : LinkPass). Keeps p.constants.known state.pass.links.constants.known) (λ (w : Worker J). w.pass.links) is.all
        (all-unmap (λ (p : ThreadPasses). Keeps p.links.constants.known state.pass.links.constants.known) (λ (w : Worker J). passes_in w.pass) is.all
        is.gathered.constants.known);
    attempts = is.gathered.constants.attempts ∙ flat-same (λ (p : LinkPass). p.constants.attempts);
    numbers = is.gathered.constants.numbers ∙ flat-same (λ (p : LinkPass). p.constants.seat.numbers);
    each_once = numbers-once;
    resolved = All-map (HasResolved first) (λ (w : Worker J). w.pass.links) is.all is.gathered.resolved;
  }

-- ---- and after the calls

module _ {J : Type 0} (given : Given) (linker : Linker J) (table : TableView) (plan : List (List Call)) (workers : ℕ) (base : Pass J)
    (is : IsPrelinked given linker table (length plan) workers (record { pass = base; stop = None })) (can : AreCallsOf given.leaves given.jobs plan)
    (lanes : List (Lane J)) (joined : Joined J) (calls_are : calls_of lanes ≡ plan) (so_far : AreJoinedSoFar given base (length lanes) lanes joined) where
  abbrev state : Prelinked J
  state = record { pass = base; stop = None }

  abbrev start : LinkPass
  start = (first_of given linker table).links

  -- no thread has attempted a constant
  lane-quiet : (i : ℕ) (p : ThreadPasses) → slice_get (map passes_of lanes) i ≡ Some p → p.links.constants ≡ (split_pass p.links.thread base.links).constants
  lane-quiet i p at =
      let resolved = All-contains (λ (q : ThreadPasses). HasResolved base.links q.links) (map passes_of lanes) p so_far.resolved
      (place-contains (map passes_of lanes) i p at) in
      resolved.quiet (thread-made-none given linker table plan workers base is can lanes joined calls_are so_far i p at)

  attempts-none : flat_map (λ (p : ThreadPasses). p.links.constants.attempts) (map passes_of lanes) ≡ []
  attempts-none =
      flat-none (λ (p : ThreadPasses). p.links.constants.attempts) (map passes_of lanes) (λ i p at. ap (λ k. k.attempts) (lane-quiet i p at))

  numbers-none : flat_map (λ (p : ThreadPasses). p.links.constants.seat.numbers) (map passes_of lanes) ≡ []
  numbers-none =
      flat-none (λ (p : ThreadPasses). p.links.constants.seat.numbers) (map passes_of lanes) (λ i p at. ap (λ k. k.seat.numbers) (lane-quiet i p at))

  before : AreMade given start (links given linker table plan workers state is) base.links.constants
  before = workers-made given linker table plan workers state is

  pub joined-made : AreMade given start (links given linker table plan workers state is) joined.pass.links.constants
  joined-made = record {
    count = before.count;
    known = All-weaker (λ (p : LinkPass). Keeps p.constants.known base.links.constants.known)
        (λ (p : LinkPass). Keeps p.constants.known joined.pass.links.constants.known)
        (λ p keeps. keeps-both p.constants.known base.links.constants.known joined.pass.links.constants.known keeps so_far.constants.learnt)
        (links given linker table plan workers state is) before.known;
    attempts = so_far.constants.attempts
        ∙ (ap (λ more. base.links.constants.attempts ++ more) attempts-none ∙ (append-nil base.links.constants.attempts ∙ before.attempts));
    numbers = so_far.constants.numbers
        ∙ (ap (λ more. base.links.constants.seat.numbers ++ more) numbers-none ∙ (append-nil base.links.constants.seat.numbers ∙ before.numbers));
    each_once = so_far.constants.each_once (numbers-once given linker table plan workers state is)
        (let whole = numbers-whole given linker table plan workers state is in let room = so_far.constants_room in omega (arith, whole, room));
    resolved = before.resolved;
  }

  -- ---- the order of attempts to link sites

  module _ (ordered : List Attempt) (same : IsPermutation joined.pass.links.attempts ordered) (asks : HaveAskedAll given start is.all) where
    -- the pass of a worker
    record IsOne (p : LinkPass) : Type 0 where
      number : ℕ
      worker : Worker J
      at : slice_get is.all number ≡ Some worker
      own : worker.pass.links ≡ p

    one : (p : LinkPass) → Contains (links given linker table plan workers state is) p → IsOne p
    one p h =
        let found = map-at (λ (w : Worker J). w.pass.links) is.all h.0 p
        (slice_get-get_or (links given linker table plan workers state is) h.0 p h.1 ∙ ap Some h.2) in
        record { number = h.0; worker = found.0; at = found.1; own = found.2 }

    of-thread : (p : LinkPass) (o : IsOne p) → p.thread ≡ length plan + o.number
    of-thread p o = sym (ap (λ (q : LinkPass). q.thread) o.own) ∙ (is.gathered.used o.number o.worker o.at).thread_is

    pub workers-ordered : AreOrderedBy given start (links given linker table plan workers state is) ordered
    workers-ordered = record {
      asks = All-map (λ (p : LinkPass). AsksMore given (split_pass p.thread start) p) (λ (w : Worker J). w.pass.links) is.all asks;
      own = λ p h.
          let o = one p h in
          subst (λ (q : LinkPass). All (λ (a : Attempt). a.thread ≡ q.thread) q.attempts) o.own (is.gathered.used o.number o.worker o.at).run.own;
      alone = λ p q h k thread.
          let o = one p h in
          let u = one q k in
          let numbers : length plan + o.number ≡ length plan + u.number = sym (of-thread p o) ∙ (thread ∙ of-thread q u) in
          let places : o.number ≡ u.number = omega (arith, numbers) in
          let there : Some o.worker ≡ Some u.worker = sym o.at ∙ (ap (slice_get is.all) places ∙ u.at) in
          let worker : o.worker ≡ u.worker = cc there in
          sym o.own ∙ (ap (λ (w : Worker J). w.pass.links) worker ∙ u.own);
      to = λ p h a made.
          let o = one p h in
          Contains-permutation joined.pass.links.attempts ordered a same
          (subst (λ xs. Contains xs a)
          (sym (attempts-same given linker table plan workers base is can lanes joined calls_are so_far ∙ is.gathered.attempts))
          (part-in (λ (w : Worker J). w.pass.links.attempts) is.all o.number o.worker a o.at
          (subst (λ (q : LinkPass). Contains q.attempts a) (sym o.own) made)));
      from = λ a h.
          let found = in-part (λ (w : Worker J). w.pass.links.attempts) is.all a
          (subst (λ xs. Contains xs a) (attempts-same given linker table plan workers base is can lanes joined calls_are so_far ∙ is.gathered.attempts)
          (Contains-permutation ordered joined.pass.links.attempts a (IsPermutation-sym joined.pass.links.attempts ordered same) h)) in (
            found.1.pass.links,
            place-contains (links given linker table plan workers state is) found.0 found.1.pass.links
                (at-map (λ (w : Worker J). w.pass.links) is.all found.0 found.1 found.2),
            found.3,
          );
    }
