-- The text of a plan that was read is read as the plan.
use Rattle.std.proofs.Common.{◌≡◌, refl, sym, ap, ◌∙◌, ℕ, ◌+◌, ◌<◌, ◌≤◌, List, [], ◌∷◌, ◌++◌, codes, length, append_assoc, append-nil, Ok, arith}
use Rattle.std.proofs.lemmas.List.Elements.{All-head, All-tail}
use Rattle.std.specs.List.{All}
use Rattle.mh_base.specs.Lines.{line_text, lines_of, built_from}
use Rattle.mh_leaf.specs.LeafTable.{LeafTable}
use Rattle.mh_jobs.specs.declared.job.Job.{Job}
use Rattle.mh_plan.specs.declared.call.Call.{Call}
use Rattle.mh_plan.specs.declared.counting.Counts.{Counts}
use Rattle.mh_plan.specs.Limits.{calls_in, IsWithinLimits}
use Rattle.mh_plan.specs.Plan.{most_threads, most_calls, line_counted, line_meaning, faultless, plan}
use Rattle.mh_plan.specs.Written.{call_tokens, call_lines, plan_text}
use Rattle.mh_plan.proofs.LinesAgain.{counts, thread-counted, thread-meant, call-counted, call-meant}
use Rattle.mh_plan.proofs.WrittenCalls.{IsWritten}

-- each call is written by tokens that mean it
abbrev pub AreWritten : LeafTable → List Job → List (List Call) → Type 0
AreWritten leaves jobs threads = All (All (IsWritten leaves jobs)) threads

-- ---- the form of the lines

calls-counted : (leaves : LeafTable) (jobs : List Job) (n k m : ℕ) (calls : List Call) (text : List ℕ) → 0 < k → m + length calls ≤ most_calls →
    All (IsWritten leaves jobs) calls →
    (after : ℕ) × (built_from line_counted n (counts k m) (lines_of (call_lines leaves calls ++ text))
    ≡ built_from line_counted after (counts k (m + length calls)) (lines_of text))
calls-counted leaves jobs n k m [] text within room are =
    let same : m ≡ m + 0 = omega arith in (n, ap (λ j. built_from line_counted n (counts k j) (lines_of text)) same)
calls-counted leaves jobs n k m (call ∷ calls) text within room are =
    let line : List ℕ = line_text (call_tokens leaves call) in
    let rest = calls-counted leaves jobs (n + 1) k (m + 1) calls text within (omega arith) (All-tail (IsWritten leaves jobs) call calls are) in
    let same : m + 1 + length calls ≡ m + length (call ∷ calls) = omega arith in (
      rest.0,
      ap (λ t. built_from line_counted n (counts k m) (lines_of t)) (append_assoc line (call_lines leaves calls) text)
          ∙ call-counted leaves jobs n k m call (call_lines leaves calls ++ text) within (omega arith) (All-head (IsWritten leaves jobs) call calls are)
          ∙ rest.1
          ∙ ap (λ j. built_from line_counted rest.0 (counts k j) (lines_of text)) same,
    )

threads-counted : (leaves : LeafTable) (jobs : List Job) (n k m : ℕ) (threads : List (List Call)) → k + length threads ≤ most_threads →
    m + calls_in threads ≤ most_calls → AreWritten leaves jobs threads →
    (counted : Counts) × (built_from line_counted n (counts k m) (lines_of (plan_text leaves threads)) ≡ Ok counted)
threads-counted leaves jobs n k m [] few_threads few_calls are = (counts k m, refl)
threads-counted leaves jobs n k m (calls ∷ threads) few_threads few_calls are =
    let more : List ℕ = plan_text leaves threads in
    let lines : List ℕ = call_lines leaves calls in
    let one = calls-counted leaves jobs (n + 1) (k + 1) m calls more (omega arith) (omega arith) (All-head (All (IsWritten leaves jobs)) calls threads are) in
    let rest = threads-counted leaves jobs one.0 (k + 1) (m + length calls) threads (omega arith) (omega arith)
    (All-tail (All (IsWritten leaves jobs)) calls threads are) in (
      rest.0,
      ap (λ t. built_from line_counted n (counts k m) (lines_of t)) (append_assoc (line_text (codes "thread" ∷ [])) lines more)
          ∙ thread-counted n k m (lines ++ more) (omega arith)
          ∙ one.1
          ∙ rest.1,
    )

-- ---- what the lines mean

calls-meant : (leaves : LeafTable) (jobs : List Job) (n : ℕ) (before : List (List Call)) (made calls : List Call) (text : List ℕ) →
    All (IsWritten leaves jobs) calls →
    (after : ℕ) × (built_from (line_meaning leaves jobs) n (before ++ made ∷ []) (lines_of (call_lines leaves calls ++ text))
    ≡ built_from (line_meaning leaves jobs) after (before ++ (made ++ calls) ∷ []) (lines_of text))
calls-meant leaves jobs n before made [] text are =
    (n, ap (λ calls. built_from (line_meaning leaves jobs) n (before ++ calls ∷ []) (lines_of text)) (sym (append-nil made)))
calls-meant leaves jobs n before made (call ∷ calls) text are =
    let line : List ℕ = line_text (call_tokens leaves call) in
    let rest = calls-meant leaves jobs (n + 1) before (made ++ call ∷ []) calls text (All-tail (IsWritten leaves jobs) call calls are) in (
      rest.0,
      ap (λ t. built_from (line_meaning leaves jobs) n (before ++ made ∷ []) (lines_of t)) (append_assoc line (call_lines leaves calls) text)
          ∙ call-meant leaves jobs n before made call (call_lines leaves calls ++ text) (All-head (IsWritten leaves jobs) call calls are)
          ∙ rest.1
          ∙ ap (λ all. built_from (line_meaning leaves jobs) rest.0 (before ++ all ∷ []) (lines_of text)) (append_assoc made (call ∷ []) calls),
    )

threads-meant : (leaves : LeafTable) (jobs : List Job) (n : ℕ) (before threads : List (List Call)) → AreWritten leaves jobs threads →
    built_from (line_meaning leaves jobs) n before (lines_of (plan_text leaves threads)) ≡ Ok (before ++ threads)
threads-meant leaves jobs n before [] are = ap Ok (sym (append-nil before))
threads-meant leaves jobs n before (calls ∷ threads) are =
    let more : List ℕ = plan_text leaves threads in
    let lines : List ℕ = call_lines leaves calls in
    let one = calls-meant leaves jobs (n + 1) before [] calls more (All-head (All (IsWritten leaves jobs)) calls threads are) in
    ap (λ t. built_from (line_meaning leaves jobs) n before (lines_of t)) (append_assoc (line_text (codes "thread" ∷ [])) lines more)
    ∙ thread-meant leaves jobs n before (lines ++ more)
    ∙ one.1
    ∙ threads-meant leaves jobs one.0 (before ++ calls ∷ []) threads (All-tail (All (IsWritten leaves jobs)) calls threads are)
    ∙ ap Ok (append_assoc before (calls ∷ []) threads)

-- ---- plans

-- the text of threads within the limits, whose calls are written by tokens that mean them, is read as the threads
pub written_again : (leaves : LeafTable) (jobs : List Job) (threads : List (List Call)) → IsWithinLimits threads → AreWritten leaves jobs threads →
    plan (plan_text leaves threads) leaves jobs ≡ Ok threads
written_again leaves jobs threads limits are =
    let lines : List (List ℕ) = lines_of (plan_text leaves threads) in
    let counted = threads-counted leaves jobs 1 0 0 threads (omega (arith, limits.few_threads)) (omega (arith, limits.few_calls)) are in
    ap (λ r. faultless r (λ c. built_from (line_meaning leaves jobs) 1 [] lines)) counted.1 ∙ threads-meant leaves jobs 1 [] threads are
