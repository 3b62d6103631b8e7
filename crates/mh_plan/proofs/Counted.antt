-- Threads and calls are as many as were counted.
use Rattle.std.proofs.Common.{◌≡◌, refl, ap, subst, ◌⊎◌, inl, inr, ℕ, suc, ◌+◌, ◌<◌, ◌≤◌, Bool, true, false, ◌&&◌, not, if◌then◌else◌, List, [], ◌∷◌, ◌++◌, length, length-append, Ok, arith}
use Rattle.std.specs.Prelude.{nat_lt, ◌==◌}
use Rattle.std.proofs.lemmas.Bool.Decides.{nat_tests}
use Rattle.mh_base.proofs.Conditions.{provided-parts}
use Rattle.mh_plan.specs.declared.call.Call.{Call}
use Rattle.mh_plan.specs.declared.counting.Counts.{Counts}
use Rattle.mh_plan.specs.declared.kinds.PlanKind.TheVariants.{BadLine, TooMany}
use Rattle.mh_plan.specs.Limits.{calls_in}
use Rattle.mh_plan.specs.Plan.{call_counted, is_call, most_calls, most_threads, thread_counted, with_call}

-- ---- threads and calls

calls_in-thread : (threads : List (List Call)) → calls_in (threads ++ [] ∷ []) ≡ calls_in threads
calls_in-thread [] = refl
calls_in-thread (calls ∷ threads) = ap (λ n. length calls + n) (calls_in-thread threads)

calls_in-call : (threads : List (List Call)) (call : Call) → calls_in (with_call threads call) ≤ calls_in threads + 1
calls_in-call [] call = omega arith
calls_in-call (calls ∷ []) call = let more : length (calls ++ call ∷ []) ≡ length calls + 1 = length-append calls (call ∷ []) in omega (arith, more)
calls_in-call (calls ∷ next ∷ threads) call =
    let more : calls_in (with_call (next ∷ threads) call) ≤ calls_in (next ∷ threads) + 1 = calls_in-call (next ∷ threads) call in omega (arith, more)

threads-call : (threads : List (List Call)) (call : Call) → length (with_call threads call) ≡ length threads
threads-call [] call = refl
threads-call (calls ∷ []) call = refl
threads-call (calls ∷ next ∷ threads) call = ap suc (threads-call (next ∷ threads) call)

-- ---- counts

-- there are at most as many threads and calls as were counted, and these are few
pub record IsCounted (counts : Counts) (threads : List (List Call)) : Type 0 where
  pub threads_counted : length threads ≤ counts.threads
  pub calls_counted : calls_in threads ≤ counts.calls
  pub few_threads : counts.threads ≤ most_threads
  pub few_calls : counts.calls ≤ most_calls

pub chosen : {A : Type 0} (b : Bool) (x y z : A) → (if b then x else y) ≡ z → ((b ≡ true) × (x ≡ z)) ⊎ ((b ≡ false) × (y ≡ z))
chosen true x y z is = inl (refl, is)
chosen false x y z is = inr (refl, is)

pub thread-counted : (counts counts' : Counts) (threads : List (List Call)) → IsCounted counts threads → thread_counted counts ≡ Ok counts' →
    IsCounted counts' (threads ++ [] ∷ [])
thread-counted counts counts' threads so is =
    let parts = provided-parts (nat_lt counts.threads most_threads) TooMany _ counts' is in
    let below : counts.threads < most_threads = grind (arith, nat_tests, parts.0) in
    let same : record { threads = counts.threads + 1; calls = counts.calls } ≡ counts' = cc parts.1 in
    let longer : length (threads ++ [] ∷ []) ≡ length threads + 1 = length-append threads ([] ∷ []) in
    let as_many : calls_in (threads ++ [] ∷ []) ≡ calls_in threads = calls_in-thread threads in
    subst (λ (k : Counts). IsCounted k (threads ++ [] ∷ [])) same (record {
      threads_counted = omega (arith, longer, so.threads_counted);
      calls_counted = omega (arith, as_many, so.calls_counted);
      few_threads = omega (arith, below);
      few_calls = so.few_calls;
    })

pub call-formed : (counts counts' : Counts) (tokens : List (List ℕ)) → call_counted counts tokens ≡ Ok counts' →
    (is_call tokens && not (counts.threads == 0)) ≡ true
call-formed counts counts' tokens is = (provided-parts (is_call tokens && not (counts.threads == 0)) BadLine _ counts' is).0

pub call-counted : (counts counts' : Counts) (tokens : List (List ℕ)) (threads : List (List Call)) (call : Call) → IsCounted counts threads →
    call_counted counts tokens ≡ Ok counts' → IsCounted counts' (with_call threads call)
call-counted counts counts' tokens threads call so is =
    let formed = provided-parts (is_call tokens && not (counts.threads == 0)) BadLine _ counts' is in
    let parts = provided-parts (nat_lt counts.calls most_calls) TooMany _ counts' formed.1 in
    let below : counts.calls < most_calls = grind (arith, nat_tests, parts.0) in
    let same : record { threads = counts.threads; calls = counts.calls + 1 } ≡ counts' = cc parts.1 in
    let as_long : length (with_call threads call) ≡ length threads = threads-call threads call in
    let more : calls_in (with_call threads call) ≤ calls_in threads + 1 = calls_in-call threads call in
    subst (λ (k : Counts). IsCounted k (with_call threads call)) same (record {
      threads_counted = omega (arith, as_long, so.threads_counted);
      calls_counted = omega (arith, more, so.calls_counted);
      few_threads = so.few_threads;
      few_calls = omega (arith, below);
    })
