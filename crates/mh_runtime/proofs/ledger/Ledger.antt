-- The ledger of a run.
use Rattle.std.proofs.Common.{◌≡◌, ◌≢◌, refl, sym, ◌∙◌, ap, subst, ℕ, ◌<◌, true, List, [], length, get_or, Some, None, IsSome, arith}
use Rattle.std.specs.Prelude.{All, AllPairs, Contains, filter, is_some, slice_get, Option}
use Rattle.std.specs.List.{flat_map}
use Rattle.std.specs.Option.{option_flatten}
use Rattle.std.proofs.lemmas.List.Elements.{All-contains, Contains-get_or}
use Rattle.mh_jobs.specs.Given.{Given}
use Rattle.mh_plan.specs.declared.call.Call.{Call}
use Rattle.mh_plan.specs.Naming.{first_places, naming_of, sites_named}
use Rattle.mh_report.specs.declared.attempt.Attempt.{Attempt}
use Rattle.mh_report.specs.Results.{Serials, serial_at}
use Rattle.mh_runtime.specs.Attempts.{AreRecorded, sites_of}
use Rattle.mh_runtime.specs.Joined.{AreDone, AreInOrder, AreJoined, AreUsed, ThreadPasses}
use Rattle.mh_runtime.specs.Ledger.{IsNamed, Ledger, attempted_by}
use Rattle.mh_runtime.specs.Passes.{HasSerials, LinkPass}
use Rattle.mh_runtime.proofs.ledger.Ordered.{in-all, in-ordered, serials-rise, thread-sites}
use Rattle.mh_runtime.proofs.ledger.Owners.{IsThread, attempts_in, owner, passes-of, reached, thread-of}
use Rattle.mh_runtime.proofs.ledger.Parts.{map-at}
use Rattle.mh_runtime.proofs.ledger.Places.{place-contains}
use Rattle.mh_runtime.proofs.ledger.Rising.{apart-in}
use Rattle.mh_runtime.proofs.sites.Sites.{is_in}

-- there is something
pub the-some : {A : Type 0} (o : Option A) → is_some o ≡ true → (a : A) × (o ≡ Some a)
the-some None is = cc
the-some (Some a) is = (a, refl)

-- what is known of the table: it has the entries of the pass that all were joined to, one for each site, and each serial is that of a recorded attempt
pub record IsTable (sites : ℕ) (joined : LinkPass) (table : Serials) : Type 0 where
  pub entries : length table ≡ sites
  pub linked : (site : ℕ) → serial_at table site ≡ serial_at joined.linked site
  pub own : AreRecorded joined table

-- that of the pass itself
pub own-table : (sites : ℕ) (joined : LinkPass) → length joined.linked ≡ sites → AreRecorded joined joined.linked → IsTable sites joined joined.linked
own-table sites joined entries own = record { entries = entries; linked = λ site. refl; own = own }

-- the table has the serials of all that any thread has linked
pub has-serials : (all : List ThreadPasses) (joined : LinkPass) (sites : ℕ) (table : Serials) → AreJoined all joined → IsTable sites joined table →
    All (λ p. HasSerials p.links.linked table) all
has-serials all joined sites table is_joined is k d within site serial linked = is.linked site ∙ is_joined.linked k d within site serial linked

module _ (given : Given) (threads : List (List Call)) (all : List ThreadPasses) (joined : LinkPass) (ordered : List Attempt) (sites : ℕ) (table : Serials)
    (used : AreUsed given threads all) (done : AreDone threads all) (is_joined : AreJoined all joined) (in_order : AreInOrder joined.attempts ordered)
    (is : IsTable sites joined table) where
  -- the order of all attempts
  whole : AreInOrder (attempts_in all) ordered
  whole = subst (λ attempts. AreInOrder attempts ordered) is_joined.attempts in_order

  in-joined : (a : Attempt) → Contains ordered a → Contains (attempts_in all) a
  in-joined a h = in-all given threads all used ordered whole a h

  -- a site that is named is linked, and has a serial in the table
  named-linked : (site : ℕ) → IsNamed (naming_of threads) site → is_some (serial_at table site) ≡ true
  named-linked site h =
      let found = map-at (λ calls. flat_map sites_named calls) threads h.0 h.1 h.2 in
      let own = passes-of given threads all used h.0 found.0 found.1 in
      let linked = done h.0 found.0 own.0 found.1 own.1 in
      let some = the-some (serial_at own.0.links.linked site)
      (All-contains (λ k. IsSome (serial_at own.0.links.linked k)) (flat_map sites_named found.0) site linked
      (subst (λ ks. Contains ks site) (sym found.2) h.3)) in
      ap is_some (All-contains (λ (p : ThreadPasses). HasSerials p.links.linked table) all own.0
      (has-serials all joined sites table is_joined is) (place-contains all h.0 own.0 own.1) site some.0 some.1)

  -- and the other way round
  linked-named : (site : ℕ) → is_some (serial_at table site) ≡ true → IsNamed (naming_of threads) site
  linked-named site h =
      let some = the-some (serial_at table site) h in
      let found = is.own site some.0 some.1 in
      let r = reached given threads all used found.0 (subst (λ attempts. Contains attempts found.0) is_joined.attempts found.2) in
      (found.0.thread, r.0, r.1, subst (Contains r.0) found.4 r.2)

  -- no thread attempts a site twice
  apart-sites : AllPairs (λ (a b : Attempt). a.thread ≡ b.thread → a.site ≢ b.site) ordered
  apart-sites i j d below within same =
      let early : i < length ordered = omega (arith, below, within) in
      let a : Attempt = get_or ordered i d in
      let b : Attempt = get_or ordered j d in
      let own = owner given threads all used a (in-joined a (Contains-get_or ordered i d early)) in
      let other = owner given threads all used b (in-joined b (Contains-get_or ordered j d within)) in
      let there : Some own.0 ≡ Some other.0 = sym own.1.at ∙ (ap (slice_get all) same ∙ other.1.at) in
      let one : own.0 ≡ other.0 = cc there in
      apart-in (λ (x : Attempt). x.site) (λ (x : Attempt). x.serial) own.0.links.attempts own.1.used.run.apart a b own.2
      (subst (λ (p : ThreadPasses). Contains p.links.attempts b) (sym one) other.2)
      (serials-rise ordered in_order.serials i j d below within)

  pub ledger : Ledger (naming_of threads) sites table ordered
  ledger = record {
    entries = is.entries;
    serials = in_order.serials;
    named = λ site entry at.
        let here : serial_at table site ≡ entry = ap option_flatten at in (
          λ h. linked-named site (ap is_some here ∙ h),
          λ h. sym (ap is_some here) ∙ named-linked site h,
        );
    own = λ site serial at.
        let found = is.own site serial (ap option_flatten at) in
        let there : Contains (attempts_in all) found.0 = subst (λ attempts. Contains attempts found.0) is_joined.attempts found.2 in
        (found.0, in-ordered given threads all used ordered whole found.0 there, found.3, found.4);
    once = apart-sites;
    reached = λ a h. reached given threads all used a (in-joined a h);
    in_order = λ thread named at.
        let found = map-at (λ calls. flat_map sites_named calls) threads thread named at in
        let own = passes-of given threads all used thread found.0 found.1 in
        let is_thread : IsThread given threads all thread own.0 = thread-of given threads all used thread own.0 own.1 in
        let mine : attempted_by thread ordered ≡ sites_of own.0.links.attempts =
        thread-sites given threads all used ordered whole thread own.0 is_thread in
        subst (λ ks. attempted_by thread ordered ≡ filter (is_in (attempted_by thread ordered)) (first_places [] ks)) found.2
        (subst (λ ks. ks ≡ filter (is_in ks) (first_places [] (flat_map sites_named found.0))) (sym mine) own.2.run.in_order);
  }
