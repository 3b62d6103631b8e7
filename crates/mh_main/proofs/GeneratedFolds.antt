-- What the lines of the plan build that is made from a number.
use Rattle.std.proofs.Common.{◌≡◌, ◌∙◌, sym, ap, ℕ, zero, suc, ◌+◌, ◌*◌, ◌<◌, ◌≤◌, true, List, [], ◌∷◌, ◌++◌, length, map, codes, Result, Ok, Err, append_assoc, suc-mul, arith}
use Rattle.std.specs.Prelude.{nat_lt}
use Rattle.std.specs.List.{range_with_len}
use Rattle.std.proofs.lemmas.Bool.Decides.{nat_tests}
use Rattle.std.proofs.lemmas.List.{append-nil}
use Rattle.mh_base.specs.Lines.{after_line, built_from, lines_of}
use Rattle.mh_leaf.specs.LeafTable.{LeafTable}
use Rattle.mh_base.specs.Provided.{provided}
use Rattle.mh_jobs.specs.declared.job.Job.{Job}
use Rattle.mh_plan.specs.declared.call.Call.{Call}
use Rattle.mh_plan.specs.declared.kinds.PlanKind.TheVariants.{TooMany}
use Rattle.mh_plan.specs.Plan.{faultless, line_counted, line_meaning, most_threads, none_counted, plan, plan_of}
use Rattle.mh_generated.specs.Counts.{calls_of_thread, site_count, thread_count}
use Rattle.mh_generated.specs.Plan.{called_site, generated_plan}
use Rattle.mh_generated.proofs.Lines.{call_line, lines-of-ended}
use Rattle.mh_main.proofs.GeneratedCalls.{TakeInts, call_of, call-meant}
use Rattle.mh_main.proofs.GeneratedPlan.{call-counted}
use Rattle.mh_main.proofs.GeneratedThreads.{lines-lack, lines_from, plan-ended, thread_lines}

-- ---- what lines build

after-taken : {S K : Type 0} (step : S → List ℕ → Result S K) (n : ℕ) (xs ys : List (List ℕ)) (done : S) →
    ((next : S) → built_from step (n + 1) next xs ≡ Ok done → built_from step (n + 1) next (xs ++ ys) ≡ built_from step (n + 1 + length xs) done ys) →
    (r : Result S K) → after_line n r (λ next. built_from step (n + 1) next xs) ≡ Ok done →
    after_line n r (λ next. built_from step (n + 1) next (xs ++ ys)) ≡ built_from step (n + 1 + length xs) done ys
after-taken step n xs ys done others (Ok next) h = others next h
after-taken step n xs ys done others (Err kind) h = cc

-- lines build on what those before them have built
built-append : {S K : Type 0} (step : S → List ℕ → Result S K) (n : ℕ) (so_far : S) (xs ys : List (List ℕ)) (done : S) →
    built_from step n so_far xs ≡ Ok done → built_from step n so_far (xs ++ ys) ≡ built_from step (n + length xs) done ys
built-append step n so_far [] ys done h =
    let here : n ≡ n + 0 = omega arith in
    let same : so_far ≡ done = cc in
    ap (λ s. built_from step n s ys) same ∙ ap (λ m. built_from step m done ys) here
built-append step n so_far (x ∷ xs) ys done h =
    let later : n + 1 + length xs ≡ n + length (x ∷ xs) = omega arith in
    after-taken step n xs ys done (λ next k. built-append step (n + 1) next xs ys done k) (step so_far x) h
    ∙ ap (λ m. built_from step m done ys) later

-- ---- how many threads and calls there are

calls-counted : (sites thread first count threads calls n : ℕ) → 0 < sites → sites ≤ 64 → first + count ≤ 1000 → 0 < threads → calls + count ≤ 10000 →
    built_from line_counted n (record none_counted { threads = threads; calls = calls }) (map (call_line sites thread) (range_with_len first count))
    ≡ Ok (record none_counted { threads = threads; calls = calls + count })
calls-counted sites thread first zero threads calls n some few fits there room =
    let same : calls ≡ calls + 0 = omega arith in
    ap (λ c. Ok (record none_counted { threads = threads; calls = c })) same
calls-counted sites thread first (suc count) threads calls n some few fits there room =
    let below : called_site sites thread first < sites = omega arith in
    let more : calls + 1 + count ≡ calls + suc count = omega arith in
    ap (λ r. after_line n r (λ next. built_from line_counted (n + 1) next (map (call_line sites thread) (range_with_len (first + 1) count))))
    (call-counted sites thread first threads calls (omega arith) (omega arith) there (omega arith))
    ∙ calls-counted sites thread (first + 1) count threads (calls + 1) (n + 1) some few (omega arith) there (omega arith)
    ∙ ap (λ c. Ok (record none_counted { threads = threads; calls = c })) more

-- the line that begins a thread
thread-counted : (threads calls : ℕ) → threads < most_threads → line_counted (record none_counted { threads = threads; calls = calls }) (codes "thread")
    ≡ Ok (record none_counted { threads = threads + 1; calls = calls })
thread-counted threads calls few =
    let room : nat_lt threads most_threads ≡ true = grind (arith, nat_tests) in
    ap (λ t. provided t TooMany (Ok (record none_counted { threads = threads + 1; calls = calls }))) room

threads-counted : (sites count first more threads calls n : ℕ) → 0 < sites → sites ≤ 64 → count ≤ 1000 →
    threads + more ≤ most_threads → calls + more * count ≤ 10000 →
    built_from line_counted n (record none_counted { threads = threads; calls = calls }) (lines_from sites count first more)
    ≡ Ok (record none_counted { threads = threads + more; calls = calls + more * count })
unfolding lines_from thread_lines
threads-counted sites count first zero threads calls n some few fits there room =
    let same : threads ≡ threads + 0 = omega arith in
    let same' : calls ≡ calls + 0 * count = omega arith in
    ap (λ t. Ok (record none_counted { threads = t; calls = calls })) same
    ∙ ap (λ c. Ok (record none_counted { threads = threads + 0; calls = c })) same'
threads-counted sites count first (suc more) threads calls n some few fits there room =
    let own = map (call_line sites first) (range_with_len 0 count) in
    let others = lines_from sites count (first + 1) more in
    let product = suc-mul more count in
    let fewer : threads + 1 + more ≤ most_threads = omega arith in
    let room' : calls + count + more * count ≤ 10000 = omega arith in
    let all : threads + 1 + more ≡ threads + suc more = omega arith in
    let all' : calls + count + more * count ≡ calls + suc more * count = omega arith in
    ap (λ r. after_line n r (λ next. built_from line_counted (n + 1) next (own ++ others))) (thread-counted threads calls (omega arith))
    ∙ built-append line_counted (n + 1) (record none_counted { threads = threads + 1; calls = calls }) own others
    (record none_counted { threads = threads + 1; calls = calls + count })
    (calls-counted sites first 0 count (threads + 1) calls (n + 1) some few (omega arith) (omega arith) (omega arith))
    ∙ threads-counted sites count (first + 1) more (threads + 1) (calls + count) (n + 1 + length own) some few fits fewer room'
    ∙ ap (λ t. Ok (record none_counted { threads = t; calls = calls + count + more * count })) all
    ∙ ap (λ c. Ok (record none_counted { threads = threads + suc more; calls = c })) all'

-- ---- the calls

calls-meant : (leaves : LeafTable) (jobs : List Job) (sites thread first count n : ℕ) (front : List (List Call)) (calls : List Call) →
    TakeInts jobs sites → 0 < sites → sites ≤ 64 → first + count ≤ 1000 →
    built_from (line_meaning leaves jobs) n (front ++ calls ∷ []) (map (call_line sites thread) (range_with_len first count))
    ≡ Ok (front ++ (calls ++ map (call_of sites thread) (range_with_len first count)) ∷ [])
calls-meant leaves jobs sites thread first zero n front calls take some few fits = ap (λ cs. Ok (front ++ cs ∷ [])) (sym (append-nil calls))
calls-meant leaves jobs sites thread first (suc count) n front calls take some few fits =
    let call = call_of sites thread first in
    let others = map (call_of sites thread) (range_with_len (first + 1) count) in
    ap (λ r. after_line n r (λ next. built_from (line_meaning leaves jobs) (n + 1) next (map (call_line sites thread) (range_with_len (first + 1) count))))
    (call-meant leaves jobs sites thread first front calls take some few (omega arith))
    ∙ calls-meant leaves jobs sites thread (first + 1) count (n + 1) front (calls ++ call ∷ []) take some few (omega arith)
    ∙ ap (λ cs. Ok (front ++ cs ∷ [])) (append_assoc calls (call ∷ []) others)

-- the calls of a thread
calls_of : ℕ → ℕ → ℕ → List Call
calls_of sites count thread = map (call_of sites thread) (range_with_len 0 count)

threads-meant : (leaves : LeafTable) (jobs : List Job) (sites count first more n : ℕ) (threads : List (List Call)) →
    TakeInts jobs sites → 0 < sites → sites ≤ 64 → count ≤ 1000 →
    built_from (line_meaning leaves jobs) n threads (lines_from sites count first more)
    ≡ Ok (threads ++ map (calls_of sites count) (range_with_len first more))
unfolding lines_from thread_lines calls_of
threads-meant leaves jobs sites count first zero n threads take some few fits = ap Ok (sym (append-nil threads))
threads-meant leaves jobs sites count first (suc more) n threads take some few fits =
    let own = map (call_line sites first) (range_with_len 0 count) in
    let others = lines_from sites count (first + 1) more in
    let calls = map (call_of sites first) (range_with_len 0 count) in
    built-append (line_meaning leaves jobs) (n + 1) (threads ++ [] ∷ []) own others (threads ++ calls ∷ [])
    (calls-meant leaves jobs sites first 0 count (n + 1) threads [] take some few (omega arith))
    ∙ threads-meant leaves jobs sites count (first + 1) more (n + 1 + length own) (threads ++ calls ∷ []) take some few fits
    ∙ ap Ok (append_assoc threads (calls ∷ []) (map (calls_of sites count) (range_with_len (first + 1) more)))

-- ---- the plan

-- the plan is one of calls of sites
pub plan-made : (number : ℕ) (leaves : LeafTable) (jobs : List Job) → TakeInts jobs (site_count number) →
    (threads : List (List Call)) × (plan (generated_plan number) leaves jobs ≡ Ok threads)
plan-made number leaves jobs take =
    let sites = site_count number in
    let few : sites ≤ 64 = omega arith in
    let some : 0 < sites = omega arith in
    let fewer : thread_count number ≤ 8 = omega arith in
    let lines = lines_from sites calls_of_thread 0 (thread_count number) in
    let counts = record none_counted { threads = 0 + thread_count number; calls = 0 + thread_count number * calls_of_thread } in
    let threads = map (calls_of sites calls_of_thread) (range_with_len 0 (thread_count number)) in
    let rest : List (List ℕ) = [] ∷ [] in
    let split = ap lines_of (plan-ended number) ∙ lines-of-ended lines (lines-lack sites calls_of_thread 0 (thread_count number) some few (omega arith)) in
    let counted = built-append line_counted 1 none_counted lines rest counts
    (threads-counted sites calls_of_thread 0 (thread_count number) 0 0 1 some few (omega arith) (omega arith) (omega arith)) in
    let meant = built-append (line_meaning leaves jobs) 1 [] lines rest threads
    (threads-meant leaves jobs sites calls_of_thread 0 (thread_count number) 1 [] take some few (omega arith)) in (
      threads,
      ap (plan_of leaves jobs) split ∙ ap (λ r. faultless r (λ _. built_from (line_meaning leaves jobs) 1 [] (lines ++ rest))) counted ∙ meant,
    )
