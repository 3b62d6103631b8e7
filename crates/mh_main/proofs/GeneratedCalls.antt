-- The call that the line of a call means.
use Rattle.std.proofs.Common.{◌≡◌, ◌∙◌, ap, ℕ, ◌^◌, ◌<◌, ◌≤◌, true, List, [], ◌∷◌, ◌++◌, length, codes, Some, None, Ok, arith}
use Rattle.std.specs.Prelude.{nat_lt, option_map, option_and_then, if◌then◌else◌}
use Rattle.std.specs.Fmt.{decimal}
use Rattle.std.proofs.lemmas.Bool.{lt-ltb}
use Rattle.std.proofs.lemmas.Bool.Decides.{nat_tests}
use Rattle.mh_values.specs.declared.class.Class.{Class}
use Rattle.mh_values.specs.declared.types.Primitive.TheVariants as primitive
use Rattle.mh_values.specs.declared.types.Ty.{Ty}
use Rattle.mh_values.specs.declared.types.Ty.TheVariants as ty
use Rattle.mh_values.specs.HasType.{has_type}
use Rattle.mh_texts.proofs.NumberTrip.{unsigned_trip}
use Rattle.mh_leaf.specs.LeafTable.{LeafTable}
use Rattle.mh_base.specs.Provided.{provided_some}
use Rattle.mh_jobs.specs.declared.job.Job.{Job}
use Rattle.mh_jobs.specs.Jobs.{params_at}
use Rattle.mh_plan.specs.declared.call.Call.{Call}
use Rattle.mh_plan.specs.declared.call.Call.TheVariants.{Indy}
use Rattle.mh_plan.specs.declared.kinds.PlanKind.TheVariants.{BadArguments, NoSite}
use Rattle.mh_plan.specs.Plan.{arguments_of, call_put, line_meaning, tokens_meaning}
use Rattle.mh_plan.proofs.Threads.{with_call-end}
use Rattle.mh_generated.specs.Plan.{called_site}
use Rattle.mh_main.proofs.GeneratedNumbers.{int, literal-read}
use Rattle.mh_generated.proofs.Lines.{call_line, call-tokens}

-- `int`
abbrev pub int_type : Ty
int_type = ty.Prim primitive.I

-- the call of a number
abbrev pub call_of : ℕ → ℕ → ℕ → Call
call_of sites thread call = Indy (called_site sites thread call) (int call ∷ [])

-- the jobs are of so many call sites, each of which takes an int
pub record TakeInts (jobs : List Job) (sites : ℕ) : Type 0 where
  pub count : length jobs ≡ sites
  pub params : (k : ℕ) → k < sites → params_at jobs k ≡ int_type ∷ []

-- the arguments of a call
argument-read : (classes : List Class) (call : ℕ) → call < 1000 →
    arguments_of classes ((codes "i:" ++ decimal call) ∷ []) (int_type ∷ []) ≡ Some (int call ∷ [])
argument-read classes call low =
    ap (λ o. option_and_then (λ v. option_map (λ vs. v ∷ vs) (Some [])) (option_and_then (λ v. if has_type classes v int_type then Some v else None) o))
    (literal-read classes call (omega arith))
    ∙ ap (λ t. option_and_then (λ v. option_map (λ vs. v ∷ vs) (Some [])) (if t then Some (int call) else None)) (lt-ltb call (2 ^ 31) (omega arith))

-- the call of a line is put after those of its thread
pub call-meant : (leaves : LeafTable) (jobs : List Job) (sites thread call : ℕ) (front : List (List Call)) (calls : List Call) →
    TakeInts jobs sites → 0 < sites → sites ≤ 64 → call < 1000 →
    line_meaning leaves jobs (front ++ calls ∷ []) (call_line sites thread call) ≡ Ok (front ++ (calls ++ call_of sites thread call ∷ []) ∷ [])
call-meant leaves jobs sites thread call front calls take some few low =
    let site = called_site sites thread call in
    let threads : List (List Call) = front ++ calls ∷ [] in
    let rest = codes "i:" ++ decimal call in
    let below : site < sites = omega arith in
    let there : nat_lt site (length jobs) ≡ true = let n = take.count in grind (arith, nat_tests) in
    ap (tokens_meaning leaves jobs threads) (call-tokens sites thread call (omega arith) (omega arith))
    ∙ ap (λ o. call_put threads (provided_some (option_and_then (λ n. if nat_lt n (length jobs) then Some n else None) o) NoSite (λ k.
    provided_some (arguments_of leaves.classes (rest ∷ []) (params_at jobs k)) BadArguments (λ values. Ok (Indy k values))))) (unsigned_trip site (omega arith))
    ∙ ap (λ t. call_put threads (provided_some (if t then Some site else None) NoSite (λ k.
    provided_some (arguments_of leaves.classes (rest ∷ []) (params_at jobs k)) BadArguments (λ values. Ok (Indy k values))))) there
    ∙ ap (λ ts. call_put threads (provided_some (arguments_of leaves.classes (rest ∷ []) ts) BadArguments (λ values. Ok (Indy site values))))
    (take.params site below)
    ∙ ap (λ o. call_put threads (provided_some o BadArguments (λ values. Ok (Indy site values)))) (argument-read leaves.classes call low)
    ∙ ap Ok (with_call-end front calls (call_of sites thread call))
