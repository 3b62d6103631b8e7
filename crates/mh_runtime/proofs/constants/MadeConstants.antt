-- The attempts at constants of passes that were split off one, and joined: their serials are 1 to their count, and no pass has more than there are constants.
use Rattle.std.proofs.Common.{◌≡◌, refl, sym, ◌∙◌, ap, subst, ℕ, ◌*◌, ◌≤◌, List, length, map, get_or, Option, None, Some, arith}
use Rattle.std.specs.Prelude.{All, Contains, is_none, option_map, sum_by}
use Rattle.std.specs.List.{flat_map}
use Rattle.std.proofs.lemmas.List.Concat.{length-flat_map}
use Rattle.std.proofs.lemmas.List.Elements.{All-contains, All-get_or}
use Rattle.std.proofs.lemmas.List.Sums.{count_by-le-length, sum_by-le}
use Rattle.std.proofs.lemmas.Option.{slice_get-get_or}
use Rattle.mh_tickets.specs.Draws.{EachOnce}
use Rattle.mh_jobs.specs.Given.{Given}
use Rattle.mh_link.specs.Constants.{serial_at}
use Rattle.mh_link.specs.Named.{run_of}
use Rattle.mh_condy.specs.declared.pass.ConstAttempt.{ConstAttempt}
use Rattle.mh_condy.specs.Nodes.{Keeps, Nodes, node_in, serials_in, unresolved}
use Rattle.mh_condy.specs.Passes.{IsPass, IsRecorded, PassView}
use Rattle.mh_condy.specs.Recorded.{ConstView}
use Rattle.mh_condy.specs.Trails.{HasPutAll, trail_of}
use Rattle.mh_condy.proofs.Trails.{known-at}
use Rattle.mh_condy.proofs.WholeTrails.{serial-in}
use Rattle.mh_runtime.specs.Lanes.{HasResolved}
use Rattle.mh_runtime.specs.Passes.{LinkPass}
use Rattle.mh_runtime.proofs.constants.JoiningConstants.{resolved-whole}
use Rattle.mh_runtime.proofs.ledger.Numbers.{contains-map, flat-same, map-flat, number-within}
use Rattle.mh_runtime.proofs.ledger.Parts.{map-at}
use Rattle.mh_runtime.proofs.ledger.Places.{place-contains}
use Rattle.mh_runtime.proofs.sites.Sites.{in-contains}

-- passes were split off a first one, and all that they have attempted, recorded and drawn of constants was joined
pub record AreMade (given : Given) (first : LinkPass) (all : List LinkPass) (joined : PassView) : Type 0 where
  pub count : length first.constants.known ≡ length given.constants
  pub known : All (λ p. Keeps p.constants.known joined.known) all
  pub attempts : joined.attempts ≡ flat_map (λ p. p.constants.attempts) all
  pub numbers : joined.seat.numbers ≡ flat_map (λ p. p.constants.seat.numbers) all
  pub each_once : EachOnce joined.seat.numbers
  pub resolved : All (HasResolved first) all

-- at most all constants are unresolved
pub unresolved-few : (known : Nodes) → unresolved known ≤ length known
unresolved-few known = count_by-le-length is_none known

-- the serials of a pass's attempts are the numbers that it has drawn
pub own-numbers : (first p : LinkPass) → HasResolved first p → map (λ (a : ConstAttempt). a.serial) p.constants.attempts ≡ p.constants.seat.numbers
own-numbers first p is = ap (map (λ (a : ConstAttempt). a.serial)) is.goes.attempts.attempts ∙ sym is.goes.attempts.numbers

module _ (given : Given) (first : LinkPass) (all : List LinkPass) (joined : PassView) (made : AreMade given first all joined) where
  -- each pass has drawn at most one serial for each constant
  own-few : (p : LinkPass) → HasResolved first p → length p.constants.seat.numbers ≤ length given.constants
  own-few p is =
      let whole = resolved-whole first p is in
      let drawn = is.drawn in
      let few = unresolved-few first.constants.known in
      omega (arith, whole, drawn, few, made.count)

  -- so have all together
  pub all-few : length joined.seat.numbers ≤ length all * length given.constants
  all-few =
      let whole : length joined.seat.numbers ≡ sum_by (λ (p : LinkPass). length p.constants.seat.numbers) all =
      ap length made.numbers ∙ length-flat_map (λ (p : LinkPass). p.constants.seat.numbers) all in
      let few : sum_by (λ (p : LinkPass). length p.constants.seat.numbers) all ≤ length all * length given.constants =
      sum_by-le (λ (p : LinkPass). length p.constants.seat.numbers) (length given.constants) all
      (λ k d within. own-few (get_or all k d) (All-get_or (HasResolved first) all k d within made.resolved)) in
      omega (arith, whole, few)

  -- the serials of all attempts are the numbers that were drawn
  pub all-numbered : map (λ (a : ConstAttempt). a.serial) joined.attempts ≡ joined.seat.numbers
  all-numbered =
      ap (map (λ (a : ConstAttempt). a.serial)) made.attempts
      ∙ (map-flat (λ (a : ConstAttempt). a.serial) (λ (p : LinkPass). p.constants.attempts) all
      ∙ (flat-same (λ (p : LinkPass). map (λ (a : ConstAttempt). a.serial) p.constants.attempts) (λ (p : LinkPass). p.constants.seat.numbers) all
      (λ i p at. own-numbers first p (All-contains (HasResolved first) all p made.resolved (place-contains all i p at)))
      ∙ sym made.numbers))

  -- a serial is at least 1, and at most as great as attempts there can be
  pub serial-few : (a : ConstAttempt) → Contains joined.attempts a → (1 ≤ a.serial) × (a.serial ≤ length all * length given.constants)
  serial-few a h =
      let within = number-within joined.seat.numbers a.serial made.each_once
      (subst (λ ns. Contains ns a.serial) all-numbered (contains-map (λ (x : ConstAttempt). x.serial) joined.attempts a h)) in
      (within.0, let high = within.1 in let few = all-few in omega (arith, high, few))

  -- ---- who made a node

  module _ (is : IsPass (run_of given) joined) (put : HasPutAll (trail_of joined)) where
    -- a node is known, and one of the recorded attempts has made it
    pub record Makes (c : ℕ) (node : ConstView) : Type 0 where
      pub attempt : ConstAttempt
      pub recorded : Contains joined.recorded attempt
      pub among : Contains joined.attempts attempt
      pub of : attempt.constant ≡ c
      pub serial : attempt.serial ≡ node.serial

    pub maker : (c : ℕ) (node : ConstView) → node_in joined.known c ≡ Some node → Makes c node
    maker c node at =
        let has = in-contains (map (λ (a : ConstAttempt). a.constant) joined.recorded) c (put c (known-at joined.known c node at)) in
        let found = of-map has in
        let a : ConstAttempt = found.0 in
        let r = All-contains (IsRecorded joined.known joined.attempts) joined.recorded a is.attempts.recorded_are found.1 in
        let same : Some r.node ≡ Some node = sym r.at ∙ (ap (node_in joined.known) found.2 ∙ at) in
        record {
          attempt = a;
          recorded = found.1;
          among = r.among;
          of = found.2;
          serial = sym r.serial ∙ the r.node node same;
        }
      where
        of-map : Contains (map (λ (a : ConstAttempt). a.constant) joined.recorded) c →
            (a : ConstAttempt) × Contains joined.recorded a × (a.constant ≡ c)
        of-map h =
            let found = map-at (λ (a : ConstAttempt). a.constant) joined.recorded h.0 c
            (slice_get-get_or (map (λ (a : ConstAttempt). a.constant) joined.recorded) h.0 c h.1 ∙ ap Some h.2) in
            (found.0, place-contains joined.recorded h.0 found.0 found.1, found.2)

        the : (x y : ConstView) → Some x ≡ Some y → x.serial ≡ y.serial
        the x y same = let e : x ≡ y = cc same in ap (λ (v : ConstView). v.serial) e

    -- so each serial is at least 1, and at most as great as attempts there can be
    pub known-few : (c serial : ℕ) → serial_at (serials_in joined.known) c ≡ Some serial →
        (1 ≤ serial) × (serial ≤ length all * length given.constants)
    known-few c serial at = by (node_in joined.known c) refl (sym (serial-in joined.known c) ∙ at)
      where
        by : (o : Option ConstView) → node_in joined.known c ≡ o → option_map (λ (node : ConstView). node.serial) o ≡ Some serial →
            (1 ≤ serial) × (serial ≤ length all * length given.constants)
        by None none is = cc
        by (Some node) there is =
            let m = maker c node there in
            let same : m.attempt.serial ≡ serial = m.serial ∙ cc is in
            subst (λ n. (1 ≤ n) × (n ≤ length all * length given.constants)) same (serial-few m.attempt m.among)
