-- The ledger of the constants of a run, from what the passes that link sites have left.
use Rattle.std.proofs.Common.{◌≡◌, ◌≢◌, refl, sym, ◌∙◌, ap, subst, ℕ, ◌<◌, true, List, [], ◌∷◌, length, map, get_or, Option, None, Some, ⊎_elim, arith}
use Rattle.std.specs.Prelude.{All, AllPairs, Contains, is_some, option_map}
use Rattle.std.specs.List.{range_with_len}
use Rattle.std.specs.List.Sorted.{IsNonDecreasingBy, IsPermutation}
use Rattle.std.specs.Option.{option_flatten}
use Rattle.std.proofs.lemmas.Bool.{both_ways}
use Rattle.std.proofs.lemmas.List.{length-map}
use Rattle.std.proofs.lemmas.List.Elements.{All-contains, Contains-get_or}
use Rattle.std.proofs.lemmas.List.Sorted.{Contains-permutation, IsPermutation-sym}
use Rattle.std.proofs.lemmas.Option.{slice_get-get_or}
use Rattle.mh_jobs.specs.Given.{Given}
use Rattle.mh_link.specs.Constants.{Serials, serial_at}
use Rattle.mh_link.specs.Named.{AreConstJobs, run_of}
use Rattle.mh_link.specs.Places.{is_in}
use Rattle.mh_link.specs.Sites.{asks_at}
use Rattle.mh_condy.specs.declared.pass.ConstAttempt.{ConstAttempt}
use Rattle.mh_condy.specs.Nodes.{AreNodes, Keeps, Nodes, node_in, serials_in}
use Rattle.mh_condy.specs.Passes.{IsPass, PassView}
use Rattle.mh_condy.specs.Recorded.{ConstView}
use Rattle.mh_condy.specs.Trails.{AreApart, HasPutAll, trail_of}
use Rattle.mh_condy.proofs.Ends.{all-put}
use Rattle.mh_condy.proofs.WholeTrails.{serial-in}
use Rattle.mh_report.specs.declared.attempt.Attempt.{Attempt}
use Rattle.mh_runtime.specs.Attempts.{AsksMore}
use Rattle.mh_runtime.specs.Lanes.{HasResolved}
use Rattle.mh_runtime.specs.Ledger.{ConstLedger, IsAsked, IsAskedBy}
use Rattle.mh_runtime.specs.Passes.{LinkPass, split_pass}
use Rattle.mh_runtime.specs.Report.{as_attempt}
use Rattle.mh_runtime.proofs.constants.ConstantsAsked.{asked-serial, pass-asked}
use Rattle.mh_runtime.proofs.ledger.Ledger.{the-some}
use Rattle.mh_runtime.proofs.constants.MadeConstants.{AreMade, all-numbered, maker}
use Rattle.mh_runtime.proofs.ledger.Numbers.{contains-map}
use Rattle.mh_runtime.proofs.ledger.Ordered.{serials-rise}
use Rattle.mh_runtime.proofs.ledger.Parts.{in-part, map-at}
use Rattle.mh_runtime.proofs.ledger.Places.{place-contains}
use Rattle.mh_runtime.proofs.ledger.Rising.{contains-cases}
use Rattle.mh_runtime.proofs.ledger.Serials.{in-order}
use Rattle.mh_runtime.proofs.sites.Sites.{contains-in, in-contains}

-- ---- lists

-- of items that are apart two with the same number are one
apart-one : {X : Type 0} (f : X → ℕ) (xs : List X) → AreApart (map f xs) → (x y : X) → Contains xs x → Contains xs y → f x ≡ f y → x ≡ y
apart-one f [] apart x y h k same = absurd (omega (arith, h.1))
apart-one f (z ∷ xs) apart x y h k same = ⊎_elim
    (λ (first : z ≡ x). ⊎_elim
    (λ (other : z ≡ y). sym first ∙ other)
    (λ (later : Contains xs y). absurd (none y later (ap f first ∙ same)))
    (contains-cases z xs y k))
    (λ (later : Contains xs x). ⊎_elim
    (λ (first : z ≡ y). absurd (none x later (ap f first ∙ sym same)))
    (λ (last : Contains xs y). apart-one f xs apart.1 x y later last same)
    (contains-cases z xs y k))
    (contains-cases z xs x h)
  where
    none : (w : _) → Contains xs w → f z ≡ f w → ⊥
    none w there is =
        both_ways (is_in (map f xs) (f z)) apart.0
        (subst (λ n. is_in (map f xs) n ≡ true) (sym is) (contains-in (map f xs) (f w) (contains-map f xs w there)))

-- ---- the passes that link sites

-- the passes of a run, each of which has gone through the constants that its attempts ask, and all attempts of which are ordered
pub record AreOrderedBy (given : Given) (first : LinkPass) (all : List LinkPass) (ordered : List Attempt) : Type 0 where
  pub asks : All (λ p. AsksMore given (split_pass p.thread first) p) all
  pub own : (p : LinkPass) → Contains all p → All (λ a. a.thread ≡ p.thread) p.attempts
  pub alone : (p q : LinkPass) → Contains all p → Contains all q → p.thread ≡ q.thread → p ≡ q
  pub to : (p : LinkPass) → Contains all p → (a : Attempt) → Contains p.attempts a → Contains ordered a
  pub from : (a : Attempt) → Contains ordered a → (p : LinkPass) × Contains all p × Contains p.attempts a

module _ (given : Given) (named : AreConstJobs (run_of given)) (first : LinkPass) (all : List LinkPass) (joined : PassView)
    (made : AreMade given first all joined) (is : IsPass (run_of given) joined) (put : HasPutAll (trail_of joined)) (ordered resolving : List Attempt)
    (by : AreOrderedBy given first all ordered) (same : IsPermutation (map as_attempt joined.attempts) resolving)
    (rising : IsNonDecreasingBy (λ (b : Attempt). b.serial) resolving) where
  abbrev nodes : Nodes
  nodes = joined.known

  abbrev table : Serials
  table = serials_in joined.known

  pub are-nodes : AreNodes (run_of given) joined.known
  are-nodes = all-put (run_of given) joined is put

  keeps : (p : LinkPass) → Contains all p → Keeps p.constants.known joined.known
  keeps p h = All-contains (λ (x : LinkPass). Keeps x.constants.known joined.known) all p made.known h

  asks-of : (p : LinkPass) → Contains all p → AsksMore given (split_pass p.thread first) p
  asks-of p h = All-contains (λ (x : LinkPass). AsksMore given (split_pass x.thread first) x) all p by.asks h

  -- ---- attempts at constants

  -- whose an attempt is
  record Whose (b : ConstAttempt) : Type 0 where
    pass : LinkPass
    among : Contains all pass
    has : Contains pass.constants.attempts b
    thread : b.thread ≡ pass.thread

  whose : (b : ConstAttempt) → Contains joined.attempts b → Whose b
  whose b h =
      let part = in-part (λ (p : LinkPass). p.constants.attempts) all b (subst (λ xs. Contains xs b) made.attempts h) in
      let p : LinkPass = part.1 in
      let among : Contains all p = place-contains all part.0 p part.2 in
      let resolved = All-contains (HasResolved first) all p made.resolved among in
      record {
        pass = p;
        among = among;
        has = part.3;
        thread = All-contains (λ (x : ConstAttempt). x.thread ≡ p.thread) resolved.goes.attempts.more b resolved.goes.attempts.own
            (subst (λ xs. Contains xs b) resolved.goes.attempts.attempts part.3);
      }

  -- no pass attempts a constant twice
  apart-in-pass : (p : LinkPass) → Contains all p → AreApart (map (λ (x : ConstAttempt). x.constant) p.constants.attempts)
  apart-in-pass p h =
      let asks = asks-of p h in
      subst AreApart (sym asks.goes.attempts.are) asks.goes.attempts.apart

  -- an attempt that is reported is one of a pass
  reported : (r : Attempt) → Contains resolving r → (b : ConstAttempt) × Contains joined.attempts b × (as_attempt b ≡ r)
  reported r h =
      let there : Contains (map as_attempt joined.attempts) r =
      Contains-permutation resolving (map as_attempt joined.attempts) r (IsPermutation-sym (map as_attempt joined.attempts) resolving same) h in
      let found = map-at as_attempt joined.attempts there.0 r
      (slice_get-get_or (map as_attempt joined.attempts) there.0 r there.1 ∙ ap Some there.2) in
      (found.0, place-contains joined.attempts there.0 found.0 found.1, found.2)

  -- the site of an attempt of its pass asks it
  reached : (b : ConstAttempt) → Contains joined.attempts b → IsAskedBy (asks_at given table) ordered (as_attempt b)
  reached b h =
      let w = whose b h in
      let found = pass-asked given named joined.known are-nodes (split_pass w.pass.thread first) w.pass (asks-of w.pass w.among) (keeps w.pass w.among) refl b
      w.has in (
        found.0,
        by.to w.pass w.among found.0 found.1,
        All-contains (λ (a : Attempt). a.thread ≡ w.pass.thread) w.pass.attempts found.0 (by.own w.pass w.among) found.1 ∙ sym w.thread,
        in-contains (asks_at given table found.0.site) b.constant found.2,
      )

  -- ---- which constants have serials

  serial-node : (c : ℕ) → is_some (serial_at table c) ≡ true → (node : ConstView) × (node_in joined.known c ≡ Some node)
  serial-node c some = the-some (node_in joined.known c) (sym (some-map (node_in joined.known c)) ∙ (ap is_some (sym (serial-in joined.known c)) ∙ some))
    where
      some-map : (o : Option ConstView) → is_some (option_map (λ (node : ConstView). node.serial) o) ≡ is_some o
      some-map None = refl
      some-map (Some n) = refl

  serial-asked : (c : ℕ) → is_some (serial_at table c) ≡ true → IsAsked (asks_at given table) ordered c
  serial-asked c some =
      let node = serial-node c some in
      let m = maker given first all joined made is put c node.0 node.1 in
      let r = reached m.attempt m.among in
      (r.0, r.1, subst (Contains (asks_at given table r.0.site)) m.of r.3)

  asked-has : (c : ℕ) → IsAsked (asks_at given table) ordered c → is_some (serial_at table c) ≡ true
  asked-has c asked =
      let from = by.from asked.0 asked.1 in
      let asks = asks-of from.0 from.1 in
      asked-serial given named joined.known are-nodes (split_pass from.0.thread first) from.0 asks (keeps from.0 from.1) asked.0
      (subst (λ xs. Contains xs asked.0) asks.are from.2) c (contains-in (asks_at given table asked.0.site) c asked.2)

  -- the attempt of a serial
  made-by : (c serial : ℕ) → serial_at table c ≡ Some serial → (b : Attempt) × Contains resolving b × (b.serial ≡ serial) × (b.site ≡ c)
  made-by c serial at =
      let node = serial-node c (ap is_some at) in
      let m = maker given first all joined made is put c node.0 node.1 in
      let number : node.0.serial ≡ serial =
      let s : Some node.0.serial ≡ Some serial =
      sym (ap (option_map (λ (n : ConstView). n.serial)) node.1) ∙ (sym (serial-in joined.known c) ∙ at) in cc in (
        as_attempt m.attempt,
        Contains-permutation (map as_attempt joined.attempts) resolving (as_attempt m.attempt) same
            (contains-map as_attempt joined.attempts m.attempt m.among),
        m.serial ∙ number,
        m.of,
      )

  -- ---- the order of attempts

  serials-are : map (λ (b : Attempt). b.serial) (map as_attempt joined.attempts) ≡ joined.seat.numbers
  serials-are = map-map as_attempt (λ (b : Attempt). b.serial) joined.attempts ∙ all-numbered given first all joined made
    where
      map-map : {X Y Z : Type 0} (f : X → Y) (g : Y → Z) (xs : List X) → map g (map f xs) ≡ map (λ x. g (f x)) xs
      map-map f g [] = refl
      map-map f g (x ∷ xs) = ap (λ zs. g (f x) ∷ zs) (map-map f g xs)

  pub order : map (λ (b : Attempt). b.serial) resolving ≡ range_with_len 1 (length resolving)
  order = (in-order (map as_attempt joined.attempts) resolving joined.seat.numbers serials-are made.each_once same rising).serials

  once : AllPairs (λ (a b : Attempt). a.thread ≡ b.thread → a.site ≢ b.site) resolving
  once i j d below within thread site =
      let early : i < length resolving = omega (arith, below, within) in
      let a : Attempt = get_or resolving i d in
      let b : Attempt = get_or resolving j d in
      let one = reported a (Contains-get_or resolving i d early) in
      let two = reported b (Contains-get_or resolving j d within) in
      let mine = whose one.0 one.1 in
      let theirs = whose two.0 two.1 in
      let threads : mine.pass.thread ≡ theirs.pass.thread =
      sym mine.thread ∙ (ap (λ (x : Attempt). x.thread) one.2 ∙ (thread ∙ (sym (ap (λ (x : Attempt). x.thread) two.2) ∙ theirs.thread))) in
      let pass : mine.pass ≡ theirs.pass = by.alone mine.pass theirs.pass mine.among theirs.among threads in
      let sites : one.0.constant ≡ two.0.constant =
      ap (λ (x : Attempt). x.site) one.2 ∙ (site ∙ sym (ap (λ (x : Attempt). x.site) two.2)) in
      let equal : one.0 ≡ two.0 =
      apart-one (λ (x : ConstAttempt). x.constant) theirs.pass.constants.attempts (apart-in-pass theirs.pass theirs.among) one.0 two.0
      (subst (λ (p : LinkPass). Contains p.constants.attempts one.0) pass mine.has) theirs.has sites in
      let numbers : a.serial ≡ b.serial =
      sym (ap (λ (x : Attempt). x.serial) one.2) ∙ (ap (λ (x : ConstAttempt). x.serial) equal ∙ ap (λ (x : Attempt). x.serial) two.2) in
      let less : a.serial < b.serial = serials-rise resolving order i j d below within in
      omega (arith, numbers, less)

  pub constant-ledger : ConstLedger (length given.constants) (asks_at given table) ordered table resolving
  constant-ledger = record {
    constant_entries = length-map joined.known (λ o. option_map (λ (node : ConstView). node.serial) o) ∙ is.known.count;
    constant_serials = order;
    asked = λ c entry at.
        let here : serial_at table c ≡ entry = ap option_flatten at in (
          λ some. serial-asked c (ap is_some here ∙ some),
          λ asked. sym (ap is_some here) ∙ asked-has c asked,
        );
    made = λ c serial at. made-by c serial (ap option_flatten at);
    constants_once = once;
    constants_reached = λ r h.
        let b = reported r h in subst (IsAskedBy (asks_at given table) ordered) b.2 (reached b.0 b.1);
  }
