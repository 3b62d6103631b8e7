-- Each call of a plan that was read is written by tokens that mean it.
use Rattle.std.proofs.Common.{◌≡◌, refl, sym, ◌∙◌, ap, subst, ⊎_elim, ℕ, ◌+◌, ◌==◌, true, false, not, if◌then◌else◌, List, [], ◌∷◌, ◌++◌, Result, Ok, Err, IfOk}
use Rattle.std.proofs.lemmas.Bool.{and_parts}
use Rattle.std.proofs.lemmas.List.Elements.{All-nil}
use Rattle.std.specs.List.{All, list_all}
use Rattle.mh_base.specs.Lines.{is_full, tokens_of, is_passed, is_plain, built_from}
use Rattle.mh_base.proofs.Conditions.{after_line-parts, provided-parts}
use Rattle.mh_base.proofs.LineTokens.{AreFullTokens, none_empty, tokens_are}
use Rattle.mh_leaf.specs.LeafTable.{LeafTable}
use Rattle.mh_jobs.specs.declared.job.Job.{Job}
use Rattle.mh_plan.specs.declared.call.Call.{Call}
use Rattle.mh_plan.specs.declared.counting.Counts.{Counts}
use Rattle.mh_plan.specs.declared.kinds.PlanError.{PlanError}
use Rattle.mh_plan.specs.declared.kinds.PlanKind.{PlanKind}
use Rattle.mh_plan.specs.declared.kinds.PlanKind.TheVariants.{BadLine}
use Rattle.mh_plan.specs.Fault.{TellsLines}
use Rattle.mh_plan.specs.Plan.{is_call, is_thread, thread_counted, call_counted, tokens_counted, line_counted, none_counted, call_meaning, call_put, with_call, tokens_meaning, line_meaning, plan_of, plan}
use Rattle.mh_plan.specs.Written.{plan_text}
use Rattle.mh_plan.proofs.CallsAgain.{call-written}
use Rattle.mh_plan.proofs.Counted.{call-formed, chosen}
use Rattle.mh_plan.proofs.EachCall.{each-call, each-thread}
use Rattle.mh_plan.proofs.Fitting.{first_part}
use Rattle.mh_plan.proofs.Limits.{plan_of-limits}
use Rattle.mh_plan.proofs.PlanAgain.{AreWritten, written_again}
use Rattle.mh_plan.proofs.WrittenCalls.{IsWritten}

-- ---- lines

put-parts : (threads next : List (List Call)) (r : Result Call PlanKind) → call_put threads r ≡ Ok next →
    (call : Call) × (r ≡ Ok call) × (with_call threads call ≡ next)
put-parts threads next (Ok call) is = (call, refl, cc)
put-parts threads next (Err kind) is = cc

one_more : (leaves : LeafTable) (jobs : List Job) (threads next : List (List Call)) → AreWritten leaves jobs threads → threads ++ [] ∷ [] ≡ next →
    AreWritten leaves jobs next
one_more leaves jobs threads next all same = subst (AreWritten leaves jobs) same (each-thread (IsWritten leaves jobs) threads all)

tokens-written : (leaves : LeafTable) (jobs : List Job) (before after : Counts) (threads next : List (List Call)) (tokens : List (List ℕ)) →
    AreWritten leaves jobs threads → AreFullTokens tokens →
    (if is_thread tokens then thread_counted before else call_counted before tokens) ≡ Ok after → tokens_meaning leaves jobs threads tokens ≡ Ok next →
    AreWritten leaves jobs next
tokens-written leaves jobs before after threads next [] all are counted meant = one_more leaves jobs threads next all cc
tokens-written leaves jobs before after threads next (word ∷ []) all are counted meant = one_more leaves jobs threads next all cc
tokens-written leaves jobs before after threads next (word ∷ subject ∷ rest) all are counted meant =
    let tokens : List (List ℕ) = word ∷ subject ∷ rest in
    let put = put-parts threads next (call_meaning leaves jobs word subject rest) meant in
    let formed = and_parts (is_call tokens) (not (before.threads == 0)) (call-formed before after tokens counted) in
    subst (AreWritten leaves jobs) put.2 (each-call (IsWritten leaves jobs) threads put.0 all
    (call-written leaves jobs tokens put.0 (record { tokens_are = are; formed = formed.0; meant = put.1 })))

line-written : (leaves : LeafTable) (jobs : List Job) (before after : Counts) (threads next : List (List Call)) (line : List ℕ) →
    AreWritten leaves jobs threads → line_counted before line ≡ Ok after → line_meaning leaves jobs threads line ≡ Ok next → AreWritten leaves jobs next
line-written leaves jobs before after threads next line all counted meant =
    let plain = provided-parts (is_plain line) BadLine (if is_passed line then Ok before else tokens_counted before (tokens_of line)) after counted in
    ⊎_elim
    (λ (passed : (is_passed line ≡ true) × (Ok before ≡ Ok after)).
    let whole : Ok threads ≡ Ok next = sym (ap (λ b. if b then Ok threads else tokens_meaning leaves jobs threads (tokens_of line)) passed.0) ∙ meant in
    let same : threads ≡ next = cc whole in
    subst (AreWritten leaves jobs) same all)
    (λ (read : (is_passed line ≡ false) × (tokens_counted before (tokens_of line) ≡ Ok after)).
    let full = provided-parts (list_all is_full (tokens_of line)) BadLine _ after read.1 in
    tokens-written leaves jobs before after threads next (tokens_of line) all
    (none_empty (tokens_of line) (tokens_are line plain.0) full.0) full.1
    (sym (ap (λ b. if b then Ok threads else tokens_meaning leaves jobs threads (tokens_of line)) read.0) ∙ meant))
    (chosen (is_passed line) (Ok before) (tokens_counted before (tokens_of line)) (Ok after) plain.1)

lines-written : (leaves : LeafTable) (jobs : List Job) (n : ℕ) (before after : Counts) (threads next : List (List Call)) (lines : List (List ℕ)) →
    AreWritten leaves jobs threads → built_from line_counted n before lines ≡ Ok after → built_from (line_meaning leaves jobs) n threads lines ≡ Ok next →
    AreWritten leaves jobs next
lines-written leaves jobs n before after threads next [] all counted meant =
    let same : threads ≡ next = cc meant in subst (AreWritten leaves jobs) same all
lines-written leaves jobs n before after threads next (line ∷ lines) all counted meant =
    let c = after_line-parts n (line_counted before line) (λ s. built_from line_counted (n + 1) s lines) after counted in
    let t = after_line-parts n (line_meaning leaves jobs threads line) (λ s. built_from (line_meaning leaves jobs) (n + 1) s lines) next meant in
    lines-written leaves jobs (n + 1) c.0 after t.0 next lines (line-written leaves jobs before c.0 threads t.0 line all c.1 t.1) c.2 t.2

-- ---- plans

plan_of-written : (leaves : LeafTable) (jobs : List Job) (lines : List (List ℕ)) (threads : List (List Call)) → plan_of leaves jobs lines ≡ Ok threads →
    AreWritten leaves jobs threads
plan_of-written leaves jobs lines threads is =
    let counted = first_part (built_from line_counted 1 none_counted lines) (λ counts. built_from (line_meaning leaves jobs) 1 [] lines) threads is in
    lines-written leaves jobs 1 none_counted counted.0 [] threads lines (All-nil (All (IsWritten leaves jobs))) counted.1 counted.2

-- what lines of a plan mean, written, is read as the same
pub lines_again : (leaves : LeafTable) (jobs : List Job) (lines : List (List ℕ)) (threads : List (List Call)) → plan_of leaves jobs lines ≡ Ok threads →
    plan (plan_text leaves threads) leaves jobs ≡ Ok threads
lines_again leaves jobs lines threads is =
    written_again leaves jobs threads (plan_of-limits leaves jobs lines threads is) (plan_of-written leaves jobs lines threads is)

-- what a reader of plans answers
pub told-again : (leaves : LeafTable) (jobs : List Job) (lines : List (List ℕ)) (r : Result (List (List Call)) PlanError) →
    TellsLines r (plan_of leaves jobs lines) → IfOk r (λ threads. plan (plan_text leaves threads) leaves jobs ≡ Ok threads)
told-again leaves jobs lines (Ok threads) told = lines_again leaves jobs lines threads told
told-again leaves jobs lines (Err error) told = tt
