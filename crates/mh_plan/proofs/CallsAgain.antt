-- The line of any call that was read, as it is written.
use Rattle.std.proofs.Common.{◌≡◌, sym, ap, subst, ◌∙◌, inl, inr, ℕ, Bool, true, if◌then◌else◌, List, [], ◌∷◌, codes, length, nat_lt, None, Some, Result, Ok}
use Rattle.std.proofs.lemmas.Bool.{cases_Bool}
use Rattle.std.proofs.lemmas.Slice.Eq.{bytes_eq-Decides}
use Rattle.std.specs.Fmt.{decimal}
use Rattle.std.specs.Str.{bytes_eq}
use Rattle.mh_base.specs.Provided.{provided_some}
use Rattle.mh_base.proofs.Conditions.{provided_some-parts}
use Rattle.mh_base.proofs.LineTokens.{AreFullTokens}
use Rattle.mh_texts.specs.Number.{unsigned_of}
use Rattle.mh_base.proofs.Inversion.{by_test, some_is, none_is_not, then_some}
use Rattle.mh_texts.proofs.SpelledNumbers.{unsigned_spelled}
use Rattle.mh_leaf.specs.LeafTable.{LeafTable}
use Rattle.mh_jobs.specs.declared.job.Job.{Job}
use Rattle.mh_jobs.specs.Jobs.{params_at}
use Rattle.mh_plan.specs.declared.call.Call.{Call}
use Rattle.mh_plan.specs.declared.call.Call.TheVariants.{Indy}
use Rattle.mh_plan.specs.declared.kinds.PlanKind.{PlanKind}
use Rattle.mh_plan.specs.declared.kinds.PlanKind.TheVariants.{NoSite, BadArguments}
use Rattle.mh_plan.specs.Plan.{is_call_of, arguments_of, leaf_call, site_numbered, indy_call}
use Rattle.mh_plan.specs.Written.{argument_texts}
use Rattle.mh_plan.proofs.WrittenArguments.{arguments-again, argument_texts-tokens}
use Rattle.mh_plan.proofs.WrittenCalls.{AreOfCall, IsWritten, leaf_call-written}

-- ---- calls of call sites

-- the number of a site is written as its token
site-text : (jobs : List Job) (token : List ℕ) (site : ℕ) → site_numbered jobs token ≡ Some site → token ≡ decimal site
site-text jobs token site told =
    let read = then_some (λ n. if nat_lt n (length jobs) then Some n else None) (unsigned_of token) site told in
    by_test (nat_lt read.0 (length jobs)) (Some read.0) None (Some site) read.2
    (λ below is. (unsigned_spelled token read.0 read.1).1 ∙ ap decimal (some_is read.0 site is))
    (λ below is. none_is_not site is)

indy_call-written : (leaves : LeafTable) (jobs : List Job) (subject : List ℕ) (args : List (List ℕ)) (call : Call) →
    AreFullTokens (codes "indy" ∷ subject ∷ args) → is_call_of (codes "indy") subject (length args) ≡ true →
    indy_call leaves.classes jobs subject args ≡ Ok call → IsWritten leaves jobs call
indy_call-written leaves jobs subject args call are formed told =
    let site = provided_some-parts (site_numbered jobs subject) NoSite _ call told in
    let values = provided_some-parts (arguments_of leaves.classes args (params_at jobs site.0)) BadArguments _ call site.2 in
    let texts = argument_texts leaves.classes values.0 in
    let is : Indy site.0 values.0 ≡ call = cc (values.2) in
    let meant : indy_call leaves.classes jobs subject texts ≡ Ok (Indy site.0 values.0) =
    ap (λ o. provided_some o NoSite (λ n. provided_some (arguments_of leaves.classes texts (params_at jobs n)) BadArguments (λ vs. Ok (Indy n vs)))) site.1
    ∙ ap (λ o. provided_some o BadArguments (λ vs. Ok (Indy site.0 vs)))
    (arguments-again leaves.classes args (params_at jobs site.0) values.0 values.1) in
    subst (IsWritten leaves jobs) is
    (subst (λ number. AreOfCall leaves jobs (codes "indy" ∷ number ∷ texts) (Indy site.0 values.0)) (site-text jobs subject site.0 site.1) (record {
      tokens_are = (are.0, (are.1.0, argument_texts-tokens leaves.classes args (params_at jobs site.0) values.0 are.1.1 values.1));
      formed = formed;
      meant = meant;
    }))

-- ---- any call

-- a call that was read is written by tokens that mean it
pub call-written : (leaves : LeafTable) (jobs : List Job) (tokens : List (List ℕ)) (call : Call) → AreOfCall leaves jobs tokens call →
    IsWritten leaves jobs call
call-written leaves jobs [] call of_call = absurd cc
call-written leaves jobs (word ∷ []) call of_call = absurd cc
call-written leaves jobs (word ∷ subject ∷ rest) call of_call =
    let split : Bool → Result Call PlanKind = λ b. if b then indy_call leaves.classes jobs subject rest else leaf_call leaves word subject rest in
    elim (cases_Bool (bytes_eq word (codes "indy"))) [
      | inl e ↦
          let is : word ≡ codes "indy" = (bytes_eq-Decides word (codes "indy")).0 e in
          indy_call-written leaves jobs subject rest call (subst (λ w. AreFullTokens (w ∷ subject ∷ rest)) is of_call.tokens_are)
          (subst (λ w. is_call_of w subject (length rest) ≡ true) is of_call.formed) (sym (ap split e) ∙ of_call.meant)
      | inr e ↦ leaf_call-written leaves jobs word subject rest call of_call.tokens_are of_call.formed e (sym (ap split e) ∙ of_call.meant)
    ]
