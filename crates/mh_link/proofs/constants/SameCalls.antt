-- What a site's attempt links depends on what is known of the constants that its call looks at alone.
use Rattle.std.proofs.Common.{◌≡◌, refl, ap, ℕ, List, [], Option, Some, None, Ok, Err}
use Rattle.std.specs.Prelude.{slice_get}
use Rattle.std.specs.Option.{option_map_or}
use Rattle.mh_values.specs.declared.types.MethodTy.{MethodTy}
use Rattle.mh_values.specs.Class.{illegal_argument_class}
use Rattle.mh_values.specs.Exception.{bare}
use Rattle.mh_tree.specs.Tree.{Tree}
use Rattle.mh_jobs.specs.declared.job.Argument.{Argument}
use Rattle.mh_jobs.specs.declared.job.BootstrapCall.{BootstrapCall}
use Rattle.mh_jobs.specs.declared.job.Job.{Job}
use Rattle.mh_jobs.specs.declared.sites.Bootstrap.{Bootstrap}
use Rattle.mh_jobs.specs.Given.{Given, Found, under}
use Rattle.mh_jobs.specs.Thrown.{OrThrown, ◌>>=◌}
use Rattle.mh_link.specs.Asking.{asked_at, asked_of_call}
use Rattle.mh_link.specs.Linked.{Error, Linked, linked}
use Rattle.mh_link.specs.Made.{edits, nodes, types_of}
use Rattle.mh_link.specs.Resolved.{Agree, arguments_of_site, call_at, call_under}
use Rattle.mh_link.specs.Sites.{edits_at, linked_at, types_at}
use Rattle.mh_link.proofs.constants.Resolving.{resolving}

-- the call of a bootstrap method, and what it looks at
pub call-same : (known other : Found) (call : OrThrown Bootstrap) → Agree known other (asked_of_call known (arguments_of_site call)) →
    (call_under known call ≡ call_under other call)
    × (asked_of_call known (arguments_of_site call) ≡ asked_of_call other (arguments_of_site call))
call-same known other (Ok bootstrap) agree =
    let both = resolving known other bootstrap.arguments agree in
    let made : List Argument → OrThrown BootstrapCall = λ arguments.
    Ok (record { method = bootstrap.method; name = bootstrap.name; ty = bootstrap.ty; arguments = arguments }) in
    (ap (λ (given : OrThrown (List Argument)). given >>= made) both.0, both.1)
call-same known other (Err e) agree = (refl, refl)

-- tables agree on what the job of a site looks at, if there is such a site
abbrev pub AgreeFor : Given → Found → Found → ℕ → Type 0
AgreeFor given known other site = (job : Job) → slice_get given.jobs site ≡ Some job → Agree known other (asked_at known job)

at-site : {A : Type 0} (made : OrThrown BootstrapCall → A) (none : A) (known other : Found) (o : Option Job) →
    ((job : Job) → o ≡ Some job → Agree known other (asked_at known job)) →
    option_map_or (λ (job : Job). made (call_under known job.call)) o none ≡ option_map_or (λ (job : Job). made (call_under other job.call)) o none
at-site made none known other None agree = refl
at-site made none known other (Some job) agree = ap made (call-same known other job.call (agree job refl)).0

module _ (given : Given) (known other : Found) (site serial : ℕ) (agree : AgreeFor given known other site) where
  -- what is linked at a site
  pub linked-same : linked_at (under known given) site serial ≡ linked_at (under other given) site serial
  linked-same =
      at-site {A = Linked} (λ call. linked given.leaves given.scripts call serial) (Error (bare illegal_argument_class)) known other
      (slice_get given.jobs site) agree

  -- the edits of the attempt
  pub edits-same : {K : Type 0} (recipe : Tree → List K) → edits_at recipe (under known given) site serial ≡ edits_at recipe (under other given) site serial
  edits-same {K} recipe =
      at-site {A = List (List K)} (λ call. edits recipe given.leaves given.scripts call serial) [] known other (slice_get given.jobs site) agree

  -- and the types of its nodes
  pub types-same : types_at (under known given) site serial ≡ types_at (under other given) site serial
  types-same =
      at-site {A = List MethodTy} (λ call. types_of given.leaves (nodes given.leaves given.scripts call serial)) [] known other
      (slice_get given.jobs site) agree
