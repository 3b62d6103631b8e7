-- Where a drawing's pass has recorded all that it knows of the constants, their serials are the numbers of their attempts.
use Rattle.std.proofs.Common.{◌≡◌, refl, sym, ◌∙◌, ap, subst, inl, inr, ℕ, zero, suc, ◌+◌, List, [], ◌∷◌, length, map, Option, None, Some, arith}
use Rattle.std.specs.Prelude.{All, is_some, option_map, replicate, slice_get}
use Rattle.std.specs.List.{flat_map}
use Rattle.std.proofs.lemmas.Bool.{both_ways}
use Rattle.std.proofs.lemmas.List.{length-map}
use Rattle.std.proofs.lemmas.List.Elements.{All-head, All-tail, All-weaker}
use Rattle.std.proofs.lemmas.Option.{get_or_from_slice_get, none-some, same_Some, slice_get-get_or, slice_get-map, slice_get_within}
use Rattle.mh_tickets.specs.Draws.{EachOnce}
use Rattle.mh_jobs.specs.Given.{Given}
use Rattle.mh_link.specs.Asking.{asked_of_call}
use Rattle.mh_link.specs.Constants.{Serials, serial_at, values_of}
use Rattle.mh_link.specs.Named.{AreConstJobs, Constants, run_of}
use Rattle.mh_link.specs.Places.{Has, is_in}
use Rattle.mh_link.proofs.walking.Places.{has-cons}
use Rattle.mh_condy.specs.declared.pass.ConstAttempt.{ConstAttempt}
use Rattle.mh_condy.specs.Nodes.{AreNodes, found_in, node_in, serials_in}
use Rattle.mh_condy.specs.Passes.{IsPass, IsRecorded, PassView}
use Rattle.mh_condy.specs.Recorded.{ConstView}
use Rattle.mh_condy.specs.Resolving.{Attempts, Rise}
use Rattle.mh_condy.specs.Trails.{AreApart, GoesOn, HasPutAll, IsFresh, trail_of}
use Rattle.mh_condy.proofs.Ends.{all-put}
use Rattle.mh_condy.proofs.Trails.{known-at, noted}
use Rattle.mh_condy.proofs.WholeTrails.{attempts-asked, found-values, serial-in}
use Rattle.mh_attempt.specs.Linkage.{LinkageView}
use Rattle.mh_drawn.specs.Linked.{AreConstantsOf, AreLinkages, AreNumbered, Gives, GivesNodes, HasResolved, asked_to, calls_to, unused}
use Rattle.mh_drawn.proofs.Numbers.{none-once, numbered-at}
use Rattle.mh_drawn.proofs.OwnConstants.{place-has}

-- ---- lists

-- where no number stands twice, each has one place
apart-place : (xs : List ℕ) → AreApart xs → (i j c : ℕ) → slice_get xs i ≡ Some c → slice_get xs j ≡ Some c → i ≡ j
apart-place [] apart i j c one other = absurd (none-some c one)
apart-place (x ∷ xs) apart zero zero c one other = refl
apart-place (x ∷ xs) apart zero (suc j) c one other =
    absurd (both_ways (is_in xs c) (ap (is_in xs) (sym (same_Some x c one)) ∙ apart.0) (place-has xs j c other))
apart-place (x ∷ xs) apart (suc i) zero c one other =
    absurd (both_ways (is_in xs c) (ap (is_in xs) (sym (same_Some x c other)) ∙ apart.0) (place-has xs i c one))
apart-place (x ∷ xs) apart (suc i) (suc j) c one other = ap suc (apart-place xs apart.1 i j c one other)

-- at the start nothing is known
nothing : (n c : ℕ) → node_in (replicate n None) c ≡ None
nothing zero c = refl
nothing (suc n) zero = refl
nothing (suc n) (suc c) = nothing n c

-- ---- a pass at the end

module _ (given : Given) (constants : AreConstantsOf given) (count : ℕ) (q : PassView) (resolved : HasResolved given count q)
    (is : IsPass (run_of given) q) (put : HasPutAll (trail_of q)) where
  abbrev run : Constants
  run = run_of given

  abbrev start : PassView
  start = unused given q.table

  abbrev table : Serials
  table = serials_in q.known

  named : AreConstJobs run
  named c job at = (constants.are.each c job at).names

  pub nodes : AreNodes run q.known
  nodes = all-put run q is put

  -- ---- serials

  drawn : Attempts start q
  drawn = resolved.on.attempts

  numbers : q.seat.numbers ≡ map (λ (a : ConstAttempt). a.serial) q.attempts
  numbers = drawn.numbers ∙ ap (map (λ (a : ConstAttempt). a.serial)) (sym drawn.attempts)

  once : EachOnce q.seat.numbers
  once =
      let count : length q.seat.numbers ≡ length drawn.more =
      ap length drawn.numbers ∙ length-map drawn.more (λ (a : ConstAttempt). a.serial) in
      let room = drawn.room in
      drawn.knows (λ whole. none-once) (omega (arith, count, room))

  rise : Rise q.seat.numbers
  rise = drawn.rise (λ i j d below within. absurd (omega (arith, within)))

  -- the attempt at a place has the next number as its serial
  serial-is : (place serial : ℕ) → slice_get q.seat.numbers place ≡ Some serial → serial ≡ place + 1
  serial-is place serial at =
      sym (get_or_from_slice_get q.seat.numbers place serial 0 at)
      ∙ numbered-at q.seat.numbers once rise 0 place (slice_get_within q.seat.numbers place serial at)

  -- ---- order

  abbrev tried : List ℕ
  tried = map (λ (a : ConstAttempt). a.constant) q.attempts

  none-known : AreNodes run start.known
  none-known = record { each = λ c node at. absurd (none-some node (sym (nothing (length given.constants) c) ∙ at)) }

  fresh : IsFresh (trail_of start)
  fresh = record { known = λ c. ap is_some (nothing (length given.constants) c); attempts = refl }

  goes : GoesOn run (flat_map (asked_of_call (found_in q.known)) (calls_to given count)) (trail_of start) (trail_of q)
  goes = resolved.goes.alone put none-known

  order : tried ≡ asked_to given table count
  order = attempts-asked run named (calls_to given count) (trail_of start) (trail_of q) fresh goes

  apart : AreApart tried
  apart = subst AreApart (sym resolved.goes.attempts.are) resolved.goes.attempts.apart

  -- ---- whose attempts made the nodes

  record OfConstant (c : ℕ) : Type 0 where
    attempt : ConstAttempt
    of : attempt.constant ≡ c
    recorded : IsRecorded q.known q.attempts attempt

  of-constant : (recorded : List ConstAttempt) → All (IsRecorded q.known q.attempts) recorded → (c : ℕ) →
      Has (map (λ (a : ConstAttempt). a.constant) recorded) c → OfConstant c
  of-constant [] all c h = absurd (both_ways (is_in [] c) refl h)
  of-constant (a ∷ recorded) all c h = elim (has-cons a.constant (map (λ (b : ConstAttempt). b.constant) recorded) c h) [
    | inl e ↦ record { attempt = a; of = e; recorded = All-head (IsRecorded q.known q.attempts) a recorded all }
    | inr there ↦ of-constant recorded (All-tail (IsRecorded q.known q.attempts) a recorded all) c there
  ]

  -- a constant was attempted at a place, with a serial
  record Made (c serial : ℕ) : Type 0 where
    place : ℕ
    constant : slice_get tried place ≡ Some c
    number : serial ≡ place + 1

  made : (c : ℕ) (node : ConstView) → node_in q.known c ≡ Some node → Made c node.serial
  made c node at =
      let r = of-constant q.recorded is.attempts.recorded_are c (put c (known-at q.known c node at)) in
      let a : ConstAttempt = r.attempt in
      let place : ℕ = r.recorded.among.0 in
      let there : slice_get q.attempts place ≡ Some a = slice_get-get_or q.attempts place a r.recorded.among.1 ∙ ap Some r.recorded.among.2 in
      let same : r.recorded.node ≡ node = same_Some r.recorded.node node (sym r.recorded.at ∙ (ap (node_in q.known) r.of ∙ at)) in
      let serial : a.serial ≡ node.serial = sym r.recorded.serial ∙ ap (λ (n : ConstView). n.serial) same in
      record {
        place = place;
        constant = slice_get-map (λ (b : ConstAttempt). b.constant) q.attempts place
            ∙ (ap (option_map (λ (b : ConstAttempt). b.constant)) there ∙ ap (λ n. Some n) r.of);
        number = sym serial
            ∙ serial-is place a.serial (ap (λ ns. slice_get ns place) numbers
            ∙ (slice_get-map (λ (b : ConstAttempt). b.serial) q.attempts place ∙ ap (option_map (λ (b : ConstAttempt). b.serial)) there));
      }

  -- ---- the table

  numbered : (place c : ℕ) → slice_get (asked_to given table count) place ≡ Some c → serial_at table c ≡ Some (place + 1)
  numbered place c at =
      let here : slice_get tried place ≡ Some c = ap (λ xs. slice_get xs place) order ∙ at in
      let known = noted q.known c (resolved.goes.attempts.known c (subst (λ xs. Has xs c) resolved.goes.attempts.are (place-has tried place c here))) in
      let by = made c known.node known.at in
      let same : by.place ≡ place = apart-place tried apart by.place place c by.constant here in
      serial-in q.known c
      ∙ (ap (option_map (λ (node : ConstView). node.serial)) known.at ∙ ap (λ n. Some n) (by.number ∙ ap (λ n. n + 1) same))

  only : (c serial : ℕ) → serial_at table c ≡ Some serial → Has (asked_to given table count) c
  only c serial at = cases (node_in q.known c) refl (sym (serial-in q.known c) ∙ at)
    where
      cases : (o : Option ConstView) → node_in q.known c ≡ o → option_map (λ (node : ConstView). node.serial) o ≡ Some serial →
          Has (asked_to given table count) c
      cases None none is = absurd (none-some serial is)
      cases (Some node) there is =
          let by = made c node there in
          subst (λ xs. Has xs c) order (place-has tried by.place c by.constant)

  pub all-numbered : AreNumbered given count table
  all-numbered = record {
    entries = length-map q.known (λ (o : Option ConstView). option_map (λ (node : ConstView). node.serial) o) ∙ is.known.count;
    numbered = numbered;
    only = only;
  }

  -- ---- values

  -- by the serials constants have the values that are known
  pub gives-known : GivesNodes (values_of run table) q.known
  gives-known c node at = sym (found-values run named q.known nodes c) ∙ ap (λ o. option_map (λ (n : ConstView). n.value) o) at

  -- and those that the attempts of linkages have found
  pub linkages-by : (n : ℕ) (linkages : List LinkageView) → AreLinkages (found_in q.known) n linkages → AreLinkages (values_of run table) n linkages
  linkages-by n linkages are = (
    are.0,
    λ number l at.
        let one = are.1 number l at in
        record {
          site = one.site;
          serial = one.serial;
          found = All-weaker (Gives (found_in q.known)) (Gives (values_of run table))
              (λ f g. sym (found-values run named q.known nodes f.constant) ∙ g) l.under one.found;
        },
  )
