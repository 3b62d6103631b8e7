-- How long the plan is that is made from a number.
use Rattle.std.proofs.Common.{ℕ, zero, suc, ◌+◌, ◌*◌, ◌<◌, ◌≤◌, List, length, codes, length-append, mul-suc, arith}
use Rattle.std.specs.List.{flat_map, range_with_len}
use Rattle.std.proofs.lemmas.Fmt.{length-decimal-le}
use Rattle.mh_generated.specs.Counts.{calls_of_thread, site_count, thread_count}
use Rattle.mh_generated.specs.Plan.{call_text, called_site, calls_text, generated_plan, thread_text, threads_text}

-- texts of at most so many bytes, one after the other
texts-length : (f : ℕ → List ℕ) (most first count : ℕ) → ((n : ℕ) → n < first + count → length (f n) ≤ most) →
    length (flat_map f (range_with_len first count)) ≤ most * count
texts-length f most first zero each = omega arith
texts-length f most first (suc count) each =
    let here = each first (omega arith) in
    let rest = texts-length f most (first + 1) count (λ n low. each n (omega arith)) in
    omega (arith, length-append (f first) (flat_map f (range_with_len (first + 1) count)), mul-suc most count)

call-length : (sites thread call : ℕ) → 0 < sites → sites ≤ 64 → call < 1000 → length (call_text sites thread call) ≤ 14
unfolding call_text
call-length sites thread call some few low =
    let below : called_site sites thread call < sites = omega arith in
    let site = length-decimal-le 2 (called_site sites thread call) (omega arith) (omega arith) (omega arith) in
    let argument = length-decimal-le 3 call (omega arith) (omega arith) (omega arith) in
    simp length-append (omega arith)

thread-length : (sites thread : ℕ) → 0 < sites → sites ≤ 64 → length (thread_text sites thread) ≤ 14007
unfolding thread_text calls_text
thread-length sites thread some few =
    let calls = texts-length (call_text sites thread) 14 0 calls_of_thread (λ call low. call-length sites thread call some few (omega arith)) in
    omega (arith, length-append (codes "thread\n") (flat_map (call_text sites thread) (range_with_len 0 calls_of_thread)))

pub plan-short : (number : ℕ) → length (generated_plan number) ≤ 1048576
unfolding generated_plan threads_text
plan-short number =
    let few : site_count number ≤ 64 = omega arith in
    let some : 0 < site_count number = omega arith in
    let fewer : thread_count number ≤ 8 = omega arith in
    let threads = texts-length (thread_text (site_count number)) 14007 0 (thread_count number)
    (λ thread low. thread-length (site_count number) thread some few) in
    omega arith
