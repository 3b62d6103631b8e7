-- The lines of calls and threads, as they are written: each is counted, and means its call or its thread.
use Rattle.std.proofs.Common.{◌≡◌, refl, sym, ap, ◌∙◌, ℕ, ◌+◌, ◌<◌, ◌==◌, true, false, not, if◌then◌else◌, List, [], ◌∷◌, ◌++◌, codes, nat_lt, Ok, arith}
use Rattle.std.proofs.lemmas.Bool.{and_from, lt-ltb, ne_eqb, not_from_false}
use Rattle.std.specs.List.{join_with_byte}
use Rattle.mh_base.specs.Lines.{line_text, lines_of, tokens_of, is_passed, built_from}
use Rattle.mh_base.specs.Provided.{provided}
use Rattle.mh_base.proofs.LineTokens.{AreTokens, as_tokens, tokens_full, tokens_joined, plain_joined, read_on}
use Rattle.mh_leaf.specs.LeafTable.{LeafTable}
use Rattle.mh_jobs.specs.declared.job.Job.{Job}
use Rattle.mh_plan.specs.declared.call.Call.{Call}
use Rattle.mh_plan.specs.declared.call.Call.TheVariants.{Exact, Generic, Indy}
use Rattle.mh_plan.specs.declared.counting.Counts.{Counts}
use Rattle.mh_plan.specs.declared.kinds.PlanKind.TheVariants.{BadLine, TooMany}
use Rattle.mh_plan.specs.Plan.{is_call, is_thread, most_threads, most_calls, thread_counted, call_counted, tokens_counted, line_counted, with_call, call_put, tokens_meaning, line_meaning}
use Rattle.mh_plan.specs.Written.{call_tokens}
use Rattle.mh_plan.proofs.Threads.{with_call-last}
use Rattle.mh_plan.proofs.WrittenCalls.{AreOfCall, IsWritten}

-- ---- a line of tokens

-- a line that is not passed over
abbrev IsRead : List (List ℕ) → Type 0
IsRead tokens = is_passed (join_with_byte 32 tokens) ≡ false

counted-again : (n : ℕ) (counts next : Counts) (tokens : List (List ℕ)) (text : List ℕ) → AreTokens tokens → IsRead tokens →
    tokens_counted counts tokens ≡ Ok next →
    built_from line_counted n counts (lines_of (line_text tokens ++ text)) ≡ built_from line_counted (n + 1) next (lines_of text)
counted-again n counts next [] text are read is = absurd cc
counted-again n counts next (word ∷ rest) text are read is =
    let line : List ℕ = join_with_byte 32 (word ∷ rest) in
    read_on line_counted n counts next word rest text are (
    ap (λ b. provided b BadLine (if is_passed line then Ok counts else tokens_counted counts (tokens_of line))) (plain_joined word rest are)
    ∙ ap (λ b. if b then Ok counts else tokens_counted counts (tokens_of line)) read
    ∙ ap (tokens_counted counts) (tokens_joined word rest are)
    ∙ is
    )

meant-again : (leaves : LeafTable) (jobs : List Job) (n : ℕ) (threads next : List (List Call)) (tokens : List (List ℕ)) (text : List ℕ) → AreTokens tokens →
    IsRead tokens → tokens_meaning leaves jobs threads tokens ≡ Ok next →
    built_from (line_meaning leaves jobs) n threads (lines_of (line_text tokens ++ text)) ≡ built_from (line_meaning leaves jobs) (n + 1) next (lines_of text)
meant-again leaves jobs n threads next [] text are read is = absurd cc
meant-again leaves jobs n threads next (word ∷ rest) text are read is =
    let line : List ℕ = join_with_byte 32 (word ∷ rest) in
    read_on (line_meaning leaves jobs) n threads next word rest text are (
    ap (λ b. if b then Ok threads else tokens_meaning leaves jobs threads (tokens_of line)) read
    ∙ ap (tokens_meaning leaves jobs threads) (tokens_joined word rest are)
    ∙ is
    )

-- ---- the line of a thread

-- so many threads and calls
abbrev pub counts : ℕ → ℕ → Counts
counts threads calls = record { threads = threads; calls = calls }

thread_tokens : AreTokens (codes "thread" ∷ [])
thread_tokens = (record { plain = refl; one = (refl, (refl, (refl, (refl, (refl, (refl, tt)))))) }, tt)

pub thread-counted : (n k m : ℕ) (text : List ℕ) → k < most_threads →
    built_from line_counted n (counts k m) (lines_of (line_text (codes "thread" ∷ []) ++ text))
    ≡ built_from line_counted (n + 1) (counts (k + 1) m) (lines_of text)
thread-counted n k m text room =
    counted-again n (counts k m) (counts (k + 1) m) (codes "thread" ∷ []) text thread_tokens refl
    (ap (λ b. provided b TooMany (Ok (counts (k + 1) m))) (lt-ltb k most_threads room))

pub thread-meant : (leaves : LeafTable) (jobs : List Job) (n : ℕ) (threads : List (List Call)) (text : List ℕ) →
    built_from (line_meaning leaves jobs) n threads (lines_of (line_text (codes "thread" ∷ []) ++ text))
    ≡ built_from (line_meaning leaves jobs) (n + 1) (threads ++ [] ∷ []) (lines_of text)
thread-meant leaves jobs n threads text =
    meant-again leaves jobs n threads (threads ++ [] ∷ []) (codes "thread" ∷ []) text thread_tokens refl refl

-- ---- the line of a call

call-is_read : (leaves : LeafTable) (call : Call) → IsRead (call_tokens leaves call)
call-is_read leaves (Exact leaf t values) = refl
call-is_read leaves (Generic leaf t values) = refl
call-is_read leaves (Indy site values) = refl

no_thread : (leaves : LeafTable) (call : Call) → is_thread (call_tokens leaves call) ≡ false
no_thread leaves (Exact leaf t values) = refl
no_thread leaves (Generic leaf t values) = refl
no_thread leaves (Indy site values) = refl

pub call-counted : (leaves : LeafTable) (jobs : List Job) (n k m : ℕ) (call : Call) (text : List ℕ) → 0 < k → m < most_calls → IsWritten leaves jobs call →
    built_from line_counted n (counts k m) (lines_of (line_text (call_tokens leaves call) ++ text))
    ≡ built_from line_counted (n + 1) (counts k (m + 1)) (lines_of text)
call-counted leaves jobs n k m call text within room is =
    let tokens = call_tokens leaves call in
    let some : not (k == 0) ≡ true = not_from_false (k == 0) (ne_eqb k 0 (λ e. omega (arith, e, within))) in
    counted-again n (counts k m) (counts k (m + 1)) tokens text (as_tokens tokens is.tokens_are) (call-is_read leaves call) (
    ap (λ b. provided b BadLine (if is_thread tokens then thread_counted (counts k m) else call_counted (counts k m) tokens)) (tokens_full tokens is.tokens_are)
    ∙ ap (λ b. if b then thread_counted (counts k m) else call_counted (counts k m) tokens) (no_thread leaves call)
    ∙ ap (λ b. provided b BadLine (provided (nat_lt m most_calls) TooMany (Ok (counts k (m + 1))))) (and_from (is_call tokens) (not (k == 0)) is.formed some)
    ∙ ap (λ b. provided b TooMany (Ok (counts k (m + 1)))) (lt-ltb m most_calls room)
    )

-- tokens of a call put it after the others
call_tokens-meaning : (leaves : LeafTable) (jobs : List Job) (threads : List (List Call)) (tokens : List (List ℕ)) (call : Call) →
    AreOfCall leaves jobs tokens call → tokens_meaning leaves jobs threads tokens ≡ Ok (with_call threads call)
call_tokens-meaning leaves jobs threads [] call is = absurd (cc (is.formed))
call_tokens-meaning leaves jobs threads (word ∷ []) call is = absurd (cc (is.formed))
call_tokens-meaning leaves jobs threads (word ∷ subject ∷ rest) call is = ap (call_put threads) is.meant

pub call-meant : (leaves : LeafTable) (jobs : List Job) (n : ℕ) (before : List (List Call)) (calls : List Call) (call : Call) (text : List ℕ) →
    IsWritten leaves jobs call →
    built_from (line_meaning leaves jobs) n (before ++ calls ∷ []) (lines_of (line_text (call_tokens leaves call) ++ text))
    ≡ built_from (line_meaning leaves jobs) (n + 1) (before ++ (calls ++ call ∷ []) ∷ []) (lines_of text)
call-meant leaves jobs n before calls call text is =
    let last = with_call-last (before ++ calls ∷ []) before (before ++ (calls ++ call ∷ []) ∷ []) calls (calls ++ call ∷ []) call refl refl refl in
    meant-again leaves jobs n (before ++ calls ∷ []) (before ++ (calls ++ call ∷ []) ∷ []) (call_tokens leaves call) text
    (as_tokens (call_tokens leaves call) is.tokens_are) (call-is_read leaves call)
    (call_tokens-meaning leaves jobs (before ++ calls ∷ []) (call_tokens leaves call) call is ∙ ap Ok (sym last))
