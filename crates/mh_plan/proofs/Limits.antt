-- A plan has no more threads and calls than were counted.
use Rattle.std.proofs.Common.{◌≡◌, sym, ◌∙◌, ap, subst, ⊎_elim, ℕ, ◌+◌, true, false, if◌then◌else◌, List, [], ◌∷◌, ◌++◌, codes, Result, Ok, Err, IfOk, arith}
use Rattle.std.specs.List.{list_all}
use Rattle.std.specs.Str.{bytes_eq}
use Rattle.mh_base.specs.Lines.{is_full, tokens_of, is_passed, is_plain, built_from}
use Rattle.mh_base.proofs.Conditions.{after_line-parts, provided-parts}
use Rattle.mh_leaf.specs.LeafTable.{LeafTable}
use Rattle.mh_jobs.specs.declared.job.Job.{Job}
use Rattle.mh_plan.specs.declared.call.Call.{Call}
use Rattle.mh_plan.specs.declared.counting.Counts.{Counts}
use Rattle.mh_plan.specs.declared.kinds.PlanError.{PlanError}
use Rattle.mh_plan.specs.declared.kinds.PlanKind.{PlanKind}
use Rattle.mh_plan.specs.declared.kinds.PlanKind.TheVariants.{BadLine}
use Rattle.mh_plan.specs.Fault.{TellsLines}
use Rattle.mh_plan.specs.Limits.{IsWithinLimits}
use Rattle.mh_plan.specs.Plan.{call_counted, call_meaning, call_put, is_thread, line_counted, line_meaning, none_counted, plan_of, thread_counted, tokens_counted, tokens_meaning, with_call}
use Rattle.mh_plan.proofs.Counted.{IsCounted, call-counted, call-formed, chosen, thread-counted}
use Rattle.mh_plan.proofs.Fitting.{first_part}

-- ---- lines

call_put-parts : (threads next : List (List Call)) (r : Result Call PlanKind) → call_put threads r ≡ Ok next → (call : Call) × (with_call threads call ≡ next)
call_put-parts threads next (Ok call) is = (call, cc)
call_put-parts threads next (Err kind) is = cc

tokens-counted : (leaves : LeafTable) (jobs : List Job) (counts counts' : Counts) (threads next : List (List Call)) (tokens : List (List ℕ)) →
    IsCounted counts threads → (if is_thread tokens then thread_counted counts else call_counted counts tokens) ≡ Ok counts' →
    tokens_meaning leaves jobs threads tokens ≡ Ok next → IsCounted counts' next
tokens-counted leaves jobs counts counts' threads next [] so counted meant = cc (call-formed counts counts' [] counted)
tokens-counted leaves jobs counts counts' threads next (word ∷ []) so counted meant =
    ⊎_elim
    (λ (thread : (bytes_eq word (codes "thread") ≡ true) × (thread_counted counts ≡ Ok counts')).
    let same : threads ++ [] ∷ [] ≡ next = cc meant in subst (IsCounted counts') same (thread-counted counts counts' threads so thread.1))
    (λ (call : (bytes_eq word (codes "thread") ≡ false) × (call_counted counts (word ∷ []) ≡ Ok counts')).
    cc (call-formed counts counts' (word ∷ []) call.1))
    (chosen (bytes_eq word (codes "thread")) (thread_counted counts) (call_counted counts (word ∷ [])) (Ok counts') counted)
tokens-counted leaves jobs counts counts' threads next (word ∷ subject ∷ rest) so counted meant =
    let put = call_put-parts threads next (call_meaning leaves jobs word subject rest) meant in
    subst (IsCounted counts') put.1 (call-counted counts counts' (word ∷ subject ∷ rest) threads put.0 so counted)

line-counted : (leaves : LeafTable) (jobs : List Job) (counts counts' : Counts) (threads next : List (List Call)) (line : List ℕ) → IsCounted counts threads →
    line_counted counts line ≡ Ok counts' → line_meaning leaves jobs threads line ≡ Ok next → IsCounted counts' next
line-counted leaves jobs counts counts' threads next line so counted meant =
    let plain = provided-parts (is_plain line) BadLine (if is_passed line then Ok counts else tokens_counted counts (tokens_of line)) counts' counted in
    ⊎_elim
    (λ (passed : (is_passed line ≡ true) × (Ok counts ≡ Ok counts')).
    let whole : Ok threads ≡ Ok next = sym (ap (λ b. if b then Ok threads else tokens_meaning leaves jobs threads (tokens_of line)) passed.0) ∙ meant in
    let same : threads ≡ next = cc whole in
    let same' : counts ≡ counts' = cc passed.1 in
    subst (λ (k : Counts). IsCounted k next) same' (subst (IsCounted counts) same so))
    (λ (read : (is_passed line ≡ false) × (tokens_counted counts (tokens_of line) ≡ Ok counts')).
    tokens-counted leaves jobs counts counts' threads next (tokens_of line) so
    (provided-parts (list_all is_full (tokens_of line)) BadLine _ counts' read.1).1
    (sym (ap (λ b. if b then Ok threads else tokens_meaning leaves jobs threads (tokens_of line)) read.0) ∙ meant))
    (chosen (is_passed line) (Ok counts) (tokens_counted counts (tokens_of line)) (Ok counts') plain.1)

lines-counted : (leaves : LeafTable) (jobs : List Job) (n : ℕ) (counts counts' : Counts) (threads next : List (List Call)) (lines : List (List ℕ)) →
    IsCounted counts threads → built_from line_counted n counts lines ≡ Ok counts' → built_from (line_meaning leaves jobs) n threads lines ≡ Ok next →
    IsCounted counts' next
lines-counted leaves jobs n counts counts' threads next [] so counted meant =
    let same : threads ≡ next = cc meant in
    let same' : counts ≡ counts' = cc counted in
    subst (λ (k : Counts). IsCounted k next) same' (subst (IsCounted counts) same so)
lines-counted leaves jobs n counts counts' threads next (line ∷ lines) so counted meant =
    let k = after_line-parts n (line_counted counts line) (λ c. built_from line_counted (n + 1) c lines) counts' counted in
    let t = after_line-parts n (line_meaning leaves jobs threads line) (λ c. built_from (line_meaning leaves jobs) (n + 1) c lines) next meant in
    lines-counted leaves jobs (n + 1) k.0 counts' t.0 next lines (line-counted leaves jobs counts k.0 threads t.0 line so k.1 t.1) k.2 t.2

-- ---- plans

none : IsCounted none_counted []
none = record { threads_counted = omega arith; calls_counted = omega arith; few_threads = omega arith; few_calls = omega arith }

pub plan_of-limits : (leaves : LeafTable) (jobs : List Job) (lines : List (List ℕ)) (threads : List (List Call)) → plan_of leaves jobs lines ≡ Ok threads →
    IsWithinLimits threads
plan_of-limits leaves jobs lines threads is =
    let counted = first_part (built_from line_counted 1 none_counted lines) (λ counts. built_from (line_meaning leaves jobs) 1 [] lines) threads is in
    let so : IsCounted counted.0 threads = lines-counted leaves jobs 1 none_counted counted.0 [] threads lines none counted.1 counted.2 in
    record { few_threads = omega (arith, so.threads_counted, so.few_threads); few_calls = omega (arith, so.calls_counted, so.few_calls) }

-- what a reader of plans answers
pub told-limits : (leaves : LeafTable) (jobs : List Job) (lines : List (List ℕ)) (r : Result (List (List Call)) PlanError) →
    TellsLines r (plan_of leaves jobs lines) → IfOk r IsWithinLimits
told-limits leaves jobs lines (Ok threads) told = plan_of-limits leaves jobs lines threads told
told-limits leaves jobs lines (Err e) told = tt
