-- One thread attempts constants in the order in which the sites that it attempts first ask them.
use Rattle.std.proofs.Common.{◌≡◌, refl, sym, ◌∙◌, ap, ap₂, subst, ℕ, suc, ◌<◌, Bool, true, false, if◌then◌else◌, List, [], ◌∷◌, append-nil, length, map}
use Rattle.std.proofs.Common.{Option, None, Some, arith}
use Rattle.std.specs.Prelude.{AllPairs, Contains}
use Rattle.std.specs.List.{flat_map, range_with_len}
use Rattle.std.specs.List.Sorted.{IsPermutation}
use Rattle.std.proofs.lemmas.Bool.{both_ways}
use Rattle.std.proofs.lemmas.List.{get_or-map, length-map}
use Rattle.std.proofs.lemmas.List.Elements.{All-head}
use Rattle.std.proofs.lemmas.List.Sorted.{Contains-permutation, IsPermutation-sym}
use Rattle.mh_jobs.specs.Given.{Given}
use Rattle.mh_link.specs.Asking.{asked_of_call, asks}
use Rattle.mh_link.specs.Constants.{Serials}
use Rattle.mh_link.specs.Named.{AreConstJobs, Constants, run_of}
use Rattle.mh_link.specs.Places as link
use Rattle.mh_link.specs.Places.{Has}
use Rattle.mh_link.specs.Sites.{asks_at}
use Rattle.mh_condy.specs.declared.pass.ConstAttempt.{ConstAttempt}
use Rattle.mh_condy.specs.Nodes.{AreNodes, Keeps, Nodes, found_in, is_known, node_in, serials_in}
use Rattle.mh_condy.specs.Passes.{IsPass, PassView}
use Rattle.mh_condy.specs.Recorded.{ConstView}
use Rattle.mh_condy.specs.Trails.{GoesOn, HasPutAll, IsFresh, trail_of}
use Rattle.mh_condy.proofs.Trails.{known-at, known-kept, noted}
use Rattle.mh_condy.proofs.WholeTrails.{attempts-asked}
use Rattle.mh_plan.specs.Naming as plan
use Rattle.mh_report.specs.declared.attempt.Attempt.{Attempt}
use Rattle.mh_runtime.specs.Attempts.{AsksMore, looked_at}
use Rattle.mh_runtime.specs.Lanes.{HasResolved}
use Rattle.mh_runtime.specs.Ledger.{AreInAskedOrder}
use Rattle.mh_runtime.specs.Passes.{LinkPass, split_pass}
use Rattle.mh_runtime.specs.Report.{as_attempt}
use Rattle.mh_runtime.proofs.constants.ConstantsAsked.{calls_made, flat-calls}
use Rattle.mh_runtime.proofs.constants.MadeConstants.{AreMade}
use Rattle.mh_runtime.proofs.ledger.Ordered.{serials-rise}
use Rattle.mh_runtime.proofs.ledger.Rising.{Rises, rising-same}

-- ---- lists

-- where each first stands, as both definitions say it
first-as : (seen xs : List ℕ) → link.first_places seen xs ≡ plan.first_places seen xs
first-as seen [] = refl
first-as seen (k ∷ ks) = by (link.is_in seen k) (first-as seen ks) (first-as (k ∷ seen) ks)
  where
    by : (b : Bool) → link.first_places seen ks ≡ plan.first_places seen ks →
        link.first_places (k ∷ seen) ks ≡ plan.first_places (k ∷ seen) ks → (if b then link.first_places seen ks else k ∷ link.first_places (k ∷ seen) ks)
        ≡ (if b then plan.first_places seen ks else k ∷ plan.first_places (k ∷ seen) ks)
    by true here later = here
    by false here later = ap (λ ys. k ∷ ys) later

-- nodes that are the same for each constant
same-nodes : (xs ys : Nodes) → length xs ≡ length ys → ((c : ℕ) → node_in xs c ≡ node_in ys c) → xs ≡ ys
same-nodes [] [] count each = refl
same-nodes [] (y ∷ ys) count each = absurd (omega (arith, count))
same-nodes (x ∷ xs) [] count each = absurd (omega (arith, count))
same-nodes (x ∷ xs) (y ∷ ys) count each = ap₂ (λ z zs. z ∷ zs) (each 0) (same-nodes xs ys (omega (arith, count)) (λ c. each (suc c)))

-- items whose numbers rise
rises-map : {X : Type 0} (n : X → ℕ) (xs : List X) → AllPairs (λ a b. a < b) (map n xs) → Rises n xs
rises-map n xs up i j d below within =
    let long = length-map xs n in
    let less = up i j (n d) below (omega (arith, within, long)) in
    let one = get_or-map n xs i d (n d) (omega (arith, below, within)) in
    let two = get_or-map n xs j d (n d) within in
    omega (arith, less, one, two)

module _ (given : Given) (named : AreConstJobs (run_of given)) (first p : LinkPass) (joined : PassView) (made : AreMade given first (p ∷ []) joined)
    (is : IsPass (run_of given) joined) (put : HasPutAll (trail_of joined)) (unlearnt : (c : ℕ) → is_known first.constants.known c ≡ false)
    (asks_more : AsksMore given (split_pass p.thread first) p) (recorded : joined.recorded ≡ p.constants.recorded) where
  abbrev run : Constants
  run = run_of given

  abbrev start : LinkPass
  start = split_pass p.thread first

  keeps : Keeps p.constants.known joined.known
  keeps = All-head (λ (x : LinkPass). Keeps x.constants.known joined.known) p [] made.known

  attempts : joined.attempts ≡ p.constants.attempts
  attempts = made.attempts ∙ append-nil p.constants.attempts

  -- the pass has put all that it knows
  put-own : HasPutAll (trail_of p.constants)
  put-own c h =
      subst (λ made. Has (map (λ (a : ConstAttempt). a.constant) made) c) recorded (put c (known-kept p.constants.known joined.known keeps c h))

  none-known : AreNodes run start.constants.known
  none-known = record {
    each = λ c node at. absurd (both_ways (is_known first.constants.known c) (unlearnt c) (known-at first.constants.known c node at));
  }

  goes : GoesOn run (looked_at given (found_in p.constants.known) asks_more.more) (trail_of start.constants) (trail_of p.constants)
  goes = asks_more.goes.alone put-own none-known

  fresh : IsFresh (trail_of start.constants)
  fresh = record { known = unlearnt; attempts = refl }

  -- what was attempted, in order, by the pass's own nodes
  in-order : map (λ (a : ConstAttempt). a.constant) p.constants.attempts
      ≡ link.first_places [] (flat_map (λ (a : Attempt). asks_at given (serials_in p.constants.known) a.site) asks_more.more)
  in-order =
      attempts-asked run named (calls_made given asks_more.more) (trail_of start.constants) (trail_of p.constants) fresh
      (subst (λ cs. GoesOn run cs (trail_of start.constants) (trail_of p.constants))
      (sym (flat-calls given (asked_of_call (found_in p.constants.known)) asks_more.more)) goes)
      ∙ ap (link.first_places []) (flat-calls given (asks run (serials_in p.constants.known)) asks_more.more)

  -- the pass knows all that is known in the end
  each-node : (c : ℕ) → node_in p.constants.known c ≡ node_in joined.known c
  each-node c = by (node_in joined.known c) refl
    where
      by : (o : Option ConstView) → node_in joined.known c ≡ o → node_in p.constants.known c ≡ o
      by (Some node) at =
          let there = asks_more.goes.sound.there c (subst (λ made. Has (map (λ (a : ConstAttempt). a.constant) made) c) recorded
          (put c (known-at joined.known c node at))) in
          let own = noted p.constants.known c there in
          own.at ∙ (sym (keeps.kept c own.node own.at) ∙ at)
      by None none = mine (node_in p.constants.known c) refl
        where
          mine : (o : Option ConstView) → node_in p.constants.known c ≡ o → node_in p.constants.known c ≡ None
          mine None is = is
          mine (Some node) is = let there : node_in joined.known c ≡ Some node = keeps.kept c node is in absurd (cc none)

  same-table : serials_in p.constants.known ≡ serials_in joined.known
  same-table = ap serials_in (same-nodes p.constants.known joined.known (sym keeps.places) each-node)

  -- ---- what is reported

  module _ (ordered resolving : List Attempt) (rise : Rises (λ (a : Attempt). a.serial) ordered) (own : Rises (λ (a : Attempt). a.serial) p.attempts)
      (to : (a : Attempt) → Contains p.attempts a → Contains ordered a) (from : (a : Attempt) → Contains ordered a → Contains p.attempts a)
      (same : IsPermutation (map as_attempt joined.attempts) resolving)
      (order : map (λ (b : Attempt). b.serial) resolving ≡ range_with_len 1 (length resolving))
    where
      ordered-is : ordered ≡ p.attempts
      ordered-is = rising-same (λ (a : Attempt). a.serial) ordered p.attempts rise own from to

      resolved : HasResolved first p
      resolved = All-head (HasResolved first) p [] made.resolved

      rises : Rises (λ (b : Attempt). b.serial) (map as_attempt joined.attempts)
      rises =
          rises-map (λ (b : Attempt). b.serial) (map as_attempt joined.attempts)
          (subst (AllPairs (λ a b. a < b)) (sym (serials-of joined.attempts ∙ (ap (map (λ (a : ConstAttempt). a.serial)) attempts
          ∙ (ap (map (λ (a : ConstAttempt). a.serial)) resolved.goes.attempts.attempts ∙ sym resolved.goes.attempts.numbers))))
          (resolved.goes.attempts.rise (λ i j d below within. absurd (omega (arith, within)))))
        where
          serials-of : (xs : List ConstAttempt) → map (λ (b : Attempt). b.serial) (map as_attempt xs) ≡ map (λ (a : ConstAttempt). a.serial) xs
          serials-of [] = refl
          serials-of (x ∷ xs) = ap (λ ns. x.serial ∷ ns) (serials-of xs)

      resolving-is : resolving ≡ map as_attempt joined.attempts
      resolving-is =
          rising-same (λ (b : Attempt). b.serial) resolving (map as_attempt joined.attempts) (serials-rise resolving order) rises
          (λ b h. Contains-permutation resolving (map as_attempt joined.attempts) b (IsPermutation-sym (map as_attempt joined.attempts) resolving same) h)
          (λ b h. Contains-permutation (map as_attempt joined.attempts) resolving b same h)

      sites-of : (xs : List ConstAttempt) → map (λ (b : Attempt). b.site) (map as_attempt xs) ≡ map (λ (a : ConstAttempt). a.constant) xs
      sites-of [] = refl
      sites-of (x ∷ xs) = ap (λ ns. x.constant ∷ ns) (sites-of xs)

      pub asked-order : AreInAskedOrder (asks_at given (serials_in joined.known)) ordered resolving
      asked-order =
          ap (map (λ (b : Attempt). b.site)) resolving-is
          ∙ (sites-of joined.attempts ∙ (ap (map (λ (a : ConstAttempt). a.constant)) attempts
          ∙ (in-order ∙ (ap₂ (λ (table : Serials) made. link.first_places [] (flat_map (λ (a : Attempt). asks_at given table a.site) made)) same-table
          (sym (ordered-is ∙ asks_more.are))
          ∙ first-as [] (flat_map (λ (a : Attempt). asks_at given (serials_in joined.known) a.site) ordered)))))
