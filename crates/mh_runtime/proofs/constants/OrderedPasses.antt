-- The passes of the threads of a run, by what is known of their attempts.
use Rattle.std.proofs.Common.{◌≡◌, sym, ◌∙◌, ap, subst, ℕ, List, map, Some}
use Rattle.std.specs.Prelude.{All, Contains, slice_get}
use Rattle.std.specs.List.Sorted.{IsPermutation}
use Rattle.std.proofs.lemmas.List.Sorted.{Contains-permutation, IsPermutation-sym}
use Rattle.std.proofs.lemmas.Option.{slice_get-get_or}
use Rattle.mh_jobs.specs.Given.{Given}
use Rattle.mh_plan.specs.declared.call.Call.{Call}
use Rattle.mh_report.specs.declared.attempt.Attempt.{Attempt}
use Rattle.mh_runtime.specs.Attempts.{AsksMore}
use Rattle.mh_runtime.specs.Joined.{AreJoined, AreUsed, ThreadPasses}
use Rattle.mh_runtime.specs.Passes.{LinkPass, split_pass}
use Rattle.mh_runtime.proofs.constants.ConstantLedger.{AreOrderedBy}
use Rattle.mh_runtime.proofs.ledger.Owners.{owner, thread-of}
use Rattle.mh_runtime.proofs.ledger.Parts.{at-map, map-at, part-in}
use Rattle.mh_runtime.proofs.ledger.Places.{place-contains}

module _ (given : Given) (threads : List (List Call)) (all : List ThreadPasses) (used : AreUsed given threads all) (first joined : LinkPass)
    (is_joined : AreJoined all joined) (ordered : List Attempt) (same : IsPermutation joined.attempts ordered) where
  -- the passes of a thread, of which these are those over the sites
  record IsOne (p : LinkPass) : Type 0 where
    number : ℕ
    passes : ThreadPasses
    at : slice_get all number ≡ Some passes
    is : passes.links ≡ p

  one : (p : LinkPass) → Contains (map (λ (q : ThreadPasses). q.links) all) p → IsOne p
  one p h =
      let found = map-at (λ (q : ThreadPasses). q.links) all h.0 p (slice_get-get_or (map (λ (q : ThreadPasses). q.links) all) h.0 p h.1 ∙ ap Some h.2) in
      record { number = h.0; passes = found.0; at = found.1; is = found.2 }

  of-thread : (p : LinkPass) (o : IsOne p) → p.thread ≡ o.number
  of-thread p o = sym (ap (λ (q : LinkPass). q.thread) o.is) ∙ (thread-of given threads all used o.number o.passes o.at).used.thread_is

  pub ordered-by : All (λ p. AsksMore given (split_pass p.thread first) p) (map (λ (q : ThreadPasses). q.links) all) →
      AreOrderedBy given first (map (λ (q : ThreadPasses). q.links) all) ordered
  ordered-by asks = record {
    asks = asks;
    own = λ p h.
        let o = one p h in
        subst (λ (q : LinkPass). All (λ (a : Attempt). a.thread ≡ q.thread) q.attempts) o.is
        (thread-of given threads all used o.number o.passes o.at).used.run.own;
    alone = λ p q h k thread.
        let o = one p h in
        let u = one q k in
        let places : o.number ≡ u.number = sym (of-thread p o) ∙ (thread ∙ of-thread q u) in
        let there : Some o.passes ≡ Some u.passes = sym o.at ∙ (ap (slice_get all) places ∙ u.at) in
        let passes : o.passes ≡ u.passes = cc there in
        sym o.is ∙ (ap (λ (x : ThreadPasses). x.links) passes ∙ u.is);
    to = λ p h a own.
        let o = one p h in
        Contains-permutation joined.attempts ordered a same (subst (λ xs. Contains xs a) (sym is_joined.attempts)
        (part-in (λ (x : ThreadPasses). x.links.attempts) all o.number o.passes a o.at (subst (λ (x : LinkPass). Contains x.attempts a) (sym o.is) own)));
    from = λ a h.
        let found = owner given threads all used a (subst (λ xs. Contains xs a) is_joined.attempts
        (Contains-permutation ordered joined.attempts a (IsPermutation-sym joined.attempts ordered same) h)) in (
          found.0.links,
          place-contains (map (λ (q : ThreadPasses). q.links) all) a.thread found.0.links
              (at-map (λ (q : ThreadPasses). q.links) all a.thread found.0 found.1.at),
          found.2,
        );
  }
