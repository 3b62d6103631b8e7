-- The calls of a plan can be made.
use Rattle.std.proofs.Common.{◌≡◌, refl, sym, ◌∙◌, ap, subst, inl, inr, ℕ, ◌+◌, Bool, if◌then◌else◌, List, [], ◌∷◌, ◌++◌, Result, Ok, Err, IfOk}
use Rattle.std.specs.List.{All}
use Rattle.std.proofs.lemmas.Bool.{cases_Bool}
use Rattle.std.proofs.lemmas.List.Elements.{All-nil}
use Rattle.mh_base.specs.Lines.{tokens_of, is_passed, built_from}
use Rattle.mh_base.proofs.Conditions.{after_line-parts}
use Rattle.mh_base.specs.declared.lines.LineFault.{LineFault}
use Rattle.mh_leaf.specs.LeafTable.{LeafTable}
use Rattle.mh_jobs.specs.declared.job.Job.{Job}
use Rattle.mh_plan.specs.declared.call.Call.{Call}
use Rattle.mh_plan.specs.declared.kinds.PlanError.{PlanError}
use Rattle.mh_plan.specs.declared.kinds.PlanKind.{PlanKind}
use Rattle.mh_plan.specs.Fault.{TellsLines}
use Rattle.mh_plan.specs.Plan.{call_meaning, with_call, call_put, tokens_meaning, line_meaning, line_counted, none_counted, faultless, plan_of}
use Rattle.mh_plan.specs.Calls.{IsCallOf, AreCallsOf}
use Rattle.mh_plan.proofs.EachCall.{each-call, each-thread}
use Rattle.mh_plan.proofs.FoundSites.{call_meaning-fits}

-- ---- lines

put-fits : (leaves : LeafTable) (jobs : List Job) (threads next : List (List Call)) (r : Result Call PlanKind) → AreCallsOf leaves jobs threads →
    ((call : Call) → r ≡ Ok call → IsCallOf leaves jobs call) → call_put threads r ≡ Ok next → AreCallsOf leaves jobs next
put-fits leaves jobs threads next (Err kind) all fits is = cc
put-fits leaves jobs threads next (Ok call) all fits is =
    let same : with_call threads call ≡ next = cc in subst (AreCallsOf leaves jobs) same (each-call (IsCallOf leaves jobs) threads call all (fits call refl))

thread-fits : (leaves : LeafTable) (jobs : List Job) (threads next : List (List Call)) → AreCallsOf leaves jobs threads → threads ++ [] ∷ [] ≡ next →
    AreCallsOf leaves jobs next
thread-fits leaves jobs threads next all same =
    subst (AreCallsOf leaves jobs) same (each-thread (IsCallOf leaves jobs) threads all)

tokens-fit : (leaves : LeafTable) (jobs : List Job) (threads next : List (List Call)) (tokens : List (List ℕ)) → AreCallsOf leaves jobs threads →
    tokens_meaning leaves jobs threads tokens ≡ Ok next → AreCallsOf leaves jobs next
tokens-fit leaves jobs threads next [] all is = thread-fits leaves jobs threads next all cc
tokens-fit leaves jobs threads next (word ∷ []) all is = thread-fits leaves jobs threads next all cc
tokens-fit leaves jobs threads next (word ∷ subject ∷ rest) all is =
    put-fits leaves jobs threads next (call_meaning leaves jobs word subject rest) all (call_meaning-fits leaves jobs word subject rest) is

line-fits : (leaves : LeafTable) (jobs : List Job) (threads next : List (List Call)) (line : List ℕ) → AreCallsOf leaves jobs threads →
    line_meaning leaves jobs threads line ≡ Ok next → AreCallsOf leaves jobs next
line-fits leaves jobs threads next line all is =
    let split : Bool → Result (List (List Call)) PlanKind = λ b. if b then Ok threads else tokens_meaning leaves jobs threads (tokens_of line) in
    elim (cases_Bool (is_passed line)) [
      | inl e ↦
          let whole : Ok threads ≡ Ok next = sym (ap split e) ∙ is in
          let same : threads ≡ next = cc in subst (AreCallsOf leaves jobs) same all
      | inr e ↦ tokens-fit leaves jobs threads next (tokens_of line) all (sym (ap split e) ∙ is)
    ]

-- ---- plans

lines-fit : (leaves : LeafTable) (jobs : List Job) (n : ℕ) (so_far threads : List (List Call)) (lines : List (List ℕ)) → AreCallsOf leaves jobs so_far →
    built_from (line_meaning leaves jobs) n so_far lines ≡ Ok threads → AreCallsOf leaves jobs threads
lines-fit leaves jobs n so_far threads [] all is = let same : so_far ≡ threads = cc in subst (AreCallsOf leaves jobs) same all
lines-fit leaves jobs n so_far threads (line ∷ lines) all is =
    let first = after_line-parts n (line_meaning leaves jobs so_far line) (λ next. built_from (line_meaning leaves jobs) (n + 1) next lines) threads is in
    lines-fit leaves jobs (n + 1) first.0 threads lines (line-fits leaves jobs so_far first.0 line all first.1) first.2

-- what goes on after a good part is good itself
pub first_part : {A B : Type 0} (r : Result A (LineFault PlanKind)) (next : A → Result B (LineFault PlanKind)) (b : B) → faultless r next ≡ Ok b →
    (a : A) × (r ≡ Ok a) × (next a ≡ Ok b)
first_part (Err fault) next b is = cc
first_part (Ok a) next b is = (a, refl, is)

pub plan_of-calls : (leaves : LeafTable) (jobs : List Job) (lines : List (List ℕ)) (threads : List (List Call)) → plan_of leaves jobs lines ≡ Ok threads →
    AreCallsOf leaves jobs threads
plan_of-calls leaves jobs lines threads is =
    let counted = first_part (built_from line_counted 1 none_counted lines) (λ counts. built_from (line_meaning leaves jobs) 1 [] lines) threads is in
    lines-fit leaves jobs 1 [] threads lines (All-nil (All (IsCallOf leaves jobs))) counted.2

-- what a reader of plans answers
pub told-calls : (leaves : LeafTable) (jobs : List Job) (lines : List (List ℕ)) (r : Result (List (List Call)) PlanError) →
    TellsLines r (plan_of leaves jobs lines) → IfOk r (AreCallsOf leaves jobs)
told-calls leaves jobs lines (Ok threads) told = plan_of-calls leaves jobs lines threads told
told-calls leaves jobs lines (Err e) told = tt
