-- The plan that is made from a number: its lines one after the other, and what they mean.
use Rattle.std.proofs.Common.{◌≡◌, ◌∙◌, refl, sym, ap, ℕ, zero, suc, ◌+◌, ◌<◌, ◌≤◌, List, [], ◌∷◌, ◌++◌, map, codes, arith}
use Rattle.std.specs.List.{AllByRecursion, flat_map, range_with_len}
use Rattle.std.proofs.lemmas.List.Concat.{flat_map-append}
use Rattle.std.proofs.lemmas.List.Folds.{flat_map-map}
use Rattle.mh_base.proofs.Lists.{all_append}
use Rattle.mh_generated.specs.Counts.{calls_of_thread, site_count, thread_count}
use Rattle.mh_generated.specs.Plan.{call_text, called_site, calls_text, generated_plan, thread_text, threads_text}
use Rattle.mh_generated.proofs.Digits.{Lacks}
use Rattle.mh_generated.proofs.Lines.{call_line, call_text-ended, call-lacks, ended}

-- ---- lines

-- the lines of a thread of so many calls
unfoldable pub thread_lines : ℕ → ℕ → ℕ → List (List ℕ)
thread_lines sites count thread = codes "thread" ∷ map (call_line sites thread) (range_with_len 0 count)

-- the lines of threads from one on
unfoldable pub lines_from : ℕ → ℕ → ℕ → ℕ → List (List ℕ)
lines_from sites count first threads = flat_map (thread_lines sites count) (range_with_len first threads)

-- texts that are equal, one after the other
same-texts : (f g : ℕ → List ℕ) → ((n : ℕ) → f n ≡ g n) → (ns : List ℕ) → flat_map f ns ≡ flat_map g ns
same-texts f g same [] = refl
same-texts f g same (n ∷ ns) = ap (λ t. t ++ flat_map f ns) (same n) ∙ ap (λ t. g n ++ t) (same-texts f g same ns)

-- the text of a thread is that of its lines
thread-ended : (sites thread : ℕ) → thread_text sites thread ≡ flat_map ended (thread_lines sites calls_of_thread thread)
unfolding thread_text calls_text thread_lines
thread-ended sites thread =
    ap (λ t. codes "thread\n" ++ t)
    (same-texts (call_text sites thread) (λ call. ended (call_line sites thread call)) (call_text-ended sites thread) (range_with_len 0 calls_of_thread)
    ∙ sym (flat_map-map ended (call_line sites thread) (range_with_len 0 calls_of_thread)))

parts-ended : (f : ℕ → List (List ℕ)) (ns : List ℕ) → flat_map (λ n. flat_map ended (f n)) ns ≡ flat_map ended (flat_map f ns)
parts-ended f [] = refl
parts-ended f (n ∷ ns) = ap (λ t. flat_map ended (f n) ++ t) (parts-ended f ns) ∙ sym (flat_map-append ended (f n) (flat_map f ns))

-- the text of the plan is that of all lines
pub plan-ended : (number : ℕ) → generated_plan number ≡ flat_map ended (lines_from (site_count number) calls_of_thread 0 (thread_count number))
unfolding generated_plan threads_text lines_from
plan-ended number =
    same-texts (thread_text (site_count number)) (λ thread. flat_map ended (thread_lines (site_count number) calls_of_thread thread))
    (thread-ended (site_count number)) (range_with_len 0 (thread_count number))
    ∙ parts-ended (thread_lines (site_count number) calls_of_thread) (range_with_len 0 (thread_count number))

calls-lack : (sites thread first count : ℕ) → 0 < sites → sites ≤ 64 → first + count ≤ 1000 →
    AllByRecursion (Lacks 10) (map (call_line sites thread) (range_with_len first count))
calls-lack sites thread first zero some few fits = tt
calls-lack sites thread first (suc count) some few fits =
    let below : called_site sites thread first < sites = omega arith in
    (call-lacks sites thread first (omega arith) (omega arith), calls-lack sites thread (first + 1) count some few (omega arith))

pub lines-lack : (sites count first threads : ℕ) → 0 < sites → sites ≤ 64 → count ≤ 1000 → AllByRecursion (Lacks 10) (lines_from sites count first threads)
unfolding lines_from thread_lines
lines-lack sites count first zero some few fits = tt
lines-lack sites count first (suc threads) some few fits =
    all_append (Lacks 10) (thread_lines sites count first) (lines_from sites count (first + 1) threads)
    ((refl, (refl, (refl, (refl, (refl, (refl, tt)))))), calls-lack sites first 0 count some few (omega arith))
    (lines-lack sites count (first + 1) threads some few fits)
