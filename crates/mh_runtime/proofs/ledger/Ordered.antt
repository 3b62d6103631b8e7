-- Attempts in the order of their serials.
use Rattle.std.proofs.Common.{◌≡◌, sym, ◌∙◌, ap, subst, ℕ, ◌+◌, ◌<◌, List, length, get_or, map, Some, arith}
use Rattle.std.specs.Prelude.{◌==◌, Contains, filter, slice_get}
use Rattle.std.specs.List.{range_with_len}
use Rattle.std.proofs.lemmas.Bool.{eq-eqb, eqb-true}
use Rattle.std.proofs.lemmas.List.{get_or-map}
use Rattle.std.proofs.lemmas.List.Kept.{AllPairs-filter}
use Rattle.std.proofs.lemmas.List.Sorted.{Contains-permutation, IsPermutation-sym}
use Rattle.mh_jobs.specs.Given.{Given}
use Rattle.mh_plan.specs.declared.call.Call.{Call}
use Rattle.mh_report.specs.declared.attempt.Attempt.{Attempt}
use Rattle.mh_runtime.specs.Attempts.{sites_of}
use Rattle.mh_runtime.specs.Joined.{AreInOrder, AreUsed, ThreadPasses}
use Rattle.mh_runtime.specs.Ledger.{attempted_by}
use Rattle.mh_runtime.proofs.ledger.Owners.{IsThread, attempts_in, own-thread, owner}
use Rattle.mh_runtime.proofs.ledger.Parts.{in-kept, kept-in, part-in}
use Rattle.mh_runtime.proofs.ledger.Places.{range-from}
use Rattle.mh_runtime.proofs.ledger.Rising.{Rises, rising-same}

-- ---- serials

-- the serials of attempts are 1, 2, 3, ..
pub serial-at : (attempts : List Attempt) (k : ℕ) (d : Attempt) → map (λ (x : Attempt). x.serial) attempts ≡ range_with_len 1 (length attempts) →
    k < length attempts → (get_or attempts k d).serial ≡ 1 + k
serial-at attempts k d serials within =
    sym (get_or-map (λ (x : Attempt). x.serial) attempts k d (1 + k) within)
    ∙ (ap (λ ks. get_or ks k (1 + k)) serials ∙ range-from 1 (length attempts) k within)

-- so they rise
pub serials-rise : (attempts : List Attempt) → map (λ (x : Attempt). x.serial) attempts ≡ range_with_len 1 (length attempts) →
    Rises (λ (x : Attempt). x.serial) attempts
serials-rise attempts serials i j d below within =
    let early : i < length attempts = omega (arith, below, within) in
    omega (arith, below, serial-at attempts i d serials early, serial-at attempts j d serials within)

-- ---- one thread

module _ (given : Given) (threads : List (List Call)) (all : List ThreadPasses) (used : AreUsed given threads all) (ordered : List Attempt)
    (in_order : AreInOrder (attempts_in all) ordered) where
  pub in-all : (a : Attempt) → Contains ordered a → Contains (attempts_in all) a
  in-all a h = Contains-permutation ordered (attempts_in all) a (IsPermutation-sym (attempts_in all) ordered in_order.same) h

  pub in-ordered : (a : Attempt) → Contains (attempts_in all) a → Contains ordered a
  in-ordered a h = Contains-permutation (attempts_in all) ordered a in_order.same h

  module _ (thread : ℕ) (passes : ThreadPasses) (is : IsThread given threads all thread passes) where
    -- an attempt of the thread is one of its pass
    to-pass : (a : Attempt) → Contains (filter (λ (x : Attempt). x.thread == thread) ordered) a → Contains passes.links.attempts a
    to-pass a h =
        let kept = in-kept (λ (x : Attempt). x.thread == thread) ordered a h in
        let own = owner given threads all used a (in-all a kept.0) in
        let same : Some own.0 ≡ Some passes = sym own.1.at ∙ (ap (λ t. slice_get all t) (eqb-true a.thread thread kept.1) ∙ is.at) in
        let one : own.0 ≡ passes = cc same in
        subst (λ (p : ThreadPasses). Contains p.links.attempts a) one own.2

    from-pass : (a : Attempt) → Contains passes.links.attempts a → Contains (filter (λ (x : Attempt). x.thread == thread) ordered) a
    from-pass a h =
        kept-in (λ (x : Attempt). x.thread == thread) ordered a
        (eq-eqb a.thread thread (own-thread given threads all used thread passes a is h))
        (in-ordered a (part-in (λ (p : ThreadPasses). p.links.attempts) all thread passes a is.at h))

    -- the attempts of a thread are those of its pass, in order
    pub thread-attempts : filter (λ (x : Attempt). x.thread == thread) ordered ≡ passes.links.attempts
    thread-attempts =
        rising-same (λ (x : Attempt). x.serial) (filter (λ (x : Attempt). x.thread == thread) ordered) passes.links.attempts
        (AllPairs-filter (λ (x y : Attempt). x.serial < y.serial) (λ (x : Attempt). x.thread == thread) ordered (serials-rise ordered in_order.serials))
        is.used.run.rising to-pass from-pass

    pub thread-sites : attempted_by thread ordered ≡ sites_of passes.links.attempts
    thread-sites = ap (map (λ (x : Attempt). x.site)) thread-attempts
