-- Whose the attempts of a run are: each is one of the pass of its thread.
use Rattle.std.proofs.Common.{◌≡◌, sym, ◌∙◌, subst, ℕ, ◌<◌, List, length, Some, arith}
use Rattle.std.specs.Prelude.{Contains, slice_get}
use Rattle.std.specs.List.{flat_map}
use Rattle.std.proofs.lemmas.List.Elements.{All-contains}
use Rattle.std.proofs.lemmas.Option.{slice_get_within}
use Rattle.mh_base.proofs.Slices.{slice_get-within}
use Rattle.mh_jobs.specs.Given.{Given}
use Rattle.mh_plan.specs.declared.call.Call.{Call}
use Rattle.mh_plan.specs.Naming.{naming_of, sites_named}
use Rattle.mh_report.specs.declared.attempt.Attempt.{Attempt}
use Rattle.mh_runtime.specs.Joined.{AreUsed, IsUsedBy, ThreadPasses}
use Rattle.mh_runtime.specs.Ledger.{IsReached}
use Rattle.mh_runtime.proofs.ledger.Parts.{at-map, in-part}

-- the attempts of all passes
abbrev pub attempts_in : List ThreadPasses → List Attempt
attempts_in all = flat_map (λ p. p.links.attempts) all

-- the passes of one thread, and its calls
pub record IsThread (given : Given) (threads : List (List Call)) (all : List ThreadPasses) (thread : ℕ) (passes : ThreadPasses) : Type 0 where
  pub calls : List Call
  pub named : slice_get threads thread ≡ Some calls
  pub at : slice_get all thread ≡ Some passes
  pub used : IsUsedBy given thread calls passes

module _ (given : Given) (threads : List (List Call)) (all : List ThreadPasses) (used : AreUsed given threads all) where
  -- each passes are those of a thread
  pub thread-of : (thread : ℕ) (passes : ThreadPasses) → slice_get all thread ≡ Some passes → IsThread given threads all thread passes
  thread-of thread passes at =
      let within : thread < length all = slice_get_within all thread passes at in
      let calls = slice_get-within threads thread (omega (arith, within, used.count)) in
      record { calls = calls.0; named = calls.1; at = at; used = used.each thread calls.0 passes calls.1 at }

  -- and each thread has passes
  pub passes-of : (thread : ℕ) (calls : List Call) → slice_get threads thread ≡ Some calls →
      (passes : ThreadPasses) × (slice_get all thread ≡ Some passes) × IsUsedBy given thread calls passes
  passes-of thread calls named =
      let within : thread < length threads = slice_get_within threads thread calls named in
      let passes = slice_get-within all thread (omega (arith, within, used.count)) in
      (passes.0, passes.1, used.each thread calls passes.0 named passes.1)

  -- the thread of an attempt
  pub own-thread : (thread : ℕ) (passes : ThreadPasses) (a : Attempt) → IsThread given threads all thread passes → Contains passes.links.attempts a →
      a.thread ≡ thread
  own-thread thread passes a is h =
      All-contains (λ (x : Attempt). x.thread ≡ passes.links.thread) passes.links.attempts a is.used.run.own h ∙ is.used.thread_is

  -- each attempt is one of the pass of its thread
  pub owner : (a : Attempt) → Contains (attempts_in all) a →
      (passes : ThreadPasses) × IsThread given threads all a.thread passes × Contains passes.links.attempts a
  owner a h =
      let found = in-part (λ (p : ThreadPasses). p.links.attempts) all a h in
      let is = thread-of found.0 found.1 found.2 in
      let own : found.0 ≡ a.thread = sym (own-thread found.0 found.1 a is found.3) in
      (found.1, subst (λ t. IsThread given threads all t found.1) own is, found.3)

  pub reached : (a : Attempt) → Contains (attempts_in all) a → IsReached (naming_of threads) a
  reached a h =
      let own = owner a h in (
        flat_map sites_named own.1.calls,
        at-map (λ calls. flat_map sites_named calls) threads a.thread own.1.calls own.1.named,
        All-contains (λ (x : Attempt). Contains (flat_map sites_named own.1.calls) x.site) own.0.links.attempts a own.1.used.run.reached own.2,
      )
