-- A call that is read can be made: one of a call site, and so any.
use Rattle.std.proofs.Common.{◌≡◌, refl, sym, ◌∙◌, ap, subst, inl, inr, ℕ, ◌<◌, Bool, if◌then◌else◌, List, length, codes, Option, None, Some, option_and_then, Result, Ok, arith}
use Rattle.std.specs.Prelude.{nat_lt}
use Rattle.std.specs.Str.{bytes_eq}
use Rattle.std.proofs.lemmas.Bool.{cases_Bool}
use Rattle.std.proofs.lemmas.Bool.Decides.{nat_tests}
use Rattle.mh_values.specs.declared.value.Value.{Value}
use Rattle.mh_texts.specs.Number.{unsigned_of}
use Rattle.mh_leaf.specs.LeafTable.{LeafTable}
use Rattle.mh_base.specs.Provided.{provided_some}
use Rattle.mh_jobs.specs.declared.job.Job.{Job}
use Rattle.mh_jobs.specs.Jobs.{params_at}
use Rattle.mh_plan.specs.declared.call.Call.{Call}
use Rattle.mh_plan.specs.declared.call.Call.TheVariants.{Indy}
use Rattle.mh_plan.specs.declared.kinds.PlanKind.{PlanKind}
use Rattle.mh_plan.specs.declared.kinds.PlanKind.TheVariants.{NoSite, BadArguments}
use Rattle.mh_plan.specs.Plan.{arguments_of, call_meaning, leaf_call, indy_call, site_numbered}
use Rattle.mh_plan.specs.Calls.{IsCallOf}
use Rattle.mh_plan.proofs.FoundCalls.{arguments-typed, leaf_call-fits}

-- a number that is one of a site
numbered-within : (jobs : List Job) (o : Option ℕ) (site : ℕ) → option_and_then (λ n. if nat_lt n (length jobs) then Some n else None) o ≡ Some site →
    site < length jobs
numbered-within jobs None site is = cc
numbered-within jobs (Some n) site is =
    elim (cases_Bool (nat_lt n (length jobs))) [
      | inl e ↦
          let whole : Some n ≡ Some site = sym (ap (λ b. if b then Some n else None) e) ∙ is in
          let same : n ≡ site = cc in
          let below : n < length jobs = grind (arith, nat_tests, e) in subst (λ k. k < length jobs) same below
      | inr e ↦ cc (ap (λ b. if b then Some n else None) e)
    ]

with_values : (leaves : LeafTable) (jobs : List Job) (site : ℕ) (args : List (List ℕ)) (o : Option (List Value)) (call : Call) → site < length jobs →
    o ≡ arguments_of leaves.classes args (params_at jobs site) → provided_some o BadArguments (λ values. Ok (Indy site values)) ≡ Ok call →
    IsCallOf leaves jobs call
with_values leaves jobs site args None call within read is = cc
with_values leaves jobs site args (Some values) call within read is =
    let same : Indy site values ≡ call = cc in
    subst (IsCallOf leaves jobs) same (within, arguments-typed leaves.classes args (params_at jobs site) values (sym read))

with_site : (leaves : LeafTable) (jobs : List Job) (token : List ℕ) (args : List (List ℕ)) (o : Option ℕ) (call : Call) → o ≡ site_numbered jobs token →
    provided_some o NoSite (λ site. provided_some (arguments_of leaves.classes args (params_at jobs site)) BadArguments (λ values. Ok (Indy site values)))
    ≡ Ok call → IsCallOf leaves jobs call
with_site leaves jobs token args None call found is = cc
with_site leaves jobs token args (Some site) call found is =
    with_values leaves jobs site args (arguments_of leaves.classes args (params_at jobs site)) call
    (numbered-within jobs (unsigned_of token) site (sym found)) refl is

indy_call-fits : (leaves : LeafTable) (jobs : List Job) (token : List ℕ) (args : List (List ℕ)) (call : Call) →
    indy_call leaves.classes jobs token args ≡ Ok call → IsCallOf leaves jobs call
indy_call-fits leaves jobs token args call is = with_site leaves jobs token args (site_numbered jobs token) call refl is

-- a call of a leaf or of a call site
pub call_meaning-fits : (leaves : LeafTable) (jobs : List Job) (word token : List ℕ) (rest : List (List ℕ)) (call : Call) →
    call_meaning leaves jobs word token rest ≡ Ok call → IsCallOf leaves jobs call
call_meaning-fits leaves jobs word token rest call is =
    let split : Bool → Result Call PlanKind = λ b. if b then indy_call leaves.classes jobs token rest else leaf_call leaves word token rest in
    elim (cases_Bool (bytes_eq word (codes "indy"))) [
      | inl e ↦ indy_call-fits leaves jobs token rest call (sym (ap split e) ∙ is)
      | inr e ↦ leaf_call-fits leaves jobs word token rest call (sym (ap split e) ∙ is)
    ]
