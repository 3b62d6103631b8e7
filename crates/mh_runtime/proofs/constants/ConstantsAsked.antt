-- Which constants the attempts of a pass ask, where all nodes are what they should be.
use Rattle.std.proofs.Common.{◌≡◌, refl, sym, ◌∙◌, ap, ap₂, subst, ℕ, true, List, [], ◌∷◌, ◌++◌, append-nil, map, Option, None, Some}
use Rattle.std.specs.Prelude.{◌==◌, Contains, is_some, slice_get}
use Rattle.std.specs.List.{flat_map}
use Rattle.std.specs.Option.{option_map_or}
use Rattle.std.proofs.lemmas.Bool.{both_ways}
use Rattle.std.proofs.lemmas.List.Concat.{flat_map-append}
use Rattle.std.proofs.lemmas.List.Elements.{Contains-append_right}
use Rattle.mh_jobs.specs.declared.job.Job.{Job}
use Rattle.mh_jobs.specs.declared.unresolved.StaticArguments.{StaticArguments}
use Rattle.mh_jobs.specs.Given.{Given}
use Rattle.mh_jobs.specs.Thrown.{OrThrown}
use Rattle.mh_link.specs.Asking.{asked_at, asked_by, asked_of_call, below, with_below}
use Rattle.mh_link.specs.Constants.{Serials, serial_at, values_of}
use Rattle.mh_link.specs.Depth.{most_depth}
use Rattle.mh_link.specs.Named.{AreConstJobs, Constants, run_of}
use Rattle.mh_link.specs.Places.{Has, is_in}
use Rattle.mh_link.specs.Resolved.{arguments_of_site}
use Rattle.mh_link.specs.Sites.{asks_at, asks_of_job}
use Rattle.mh_link.proofs.walking.Places.{in-first}
use Rattle.mh_condy.specs.declared.pass.ConstAttempt.{ConstAttempt}
use Rattle.mh_condy.specs.Nodes.{AreNodes, Keeps, Nodes, found_in, serials_in}
use Rattle.mh_condy.proofs.Together.{asked-serials}
use Rattle.mh_condy.proofs.Trails.{known-kept}
use Rattle.mh_condy.proofs.WholeTrails.{below-values, call-values}
use Rattle.mh_report.specs.declared.attempt.Attempt.{Attempt}
use Rattle.mh_runtime.specs.Attempts.{AsksMore, looked_at}
use Rattle.mh_runtime.specs.Passes.{LinkPass}
use Rattle.mh_runtime.proofs.constants.Asking.{looked-kept}
use Rattle.mh_runtime.proofs.forms.Needed.{in-flat, of-flat}
use Rattle.mh_runtime.proofs.ledger.Numbers.{contains-map}
use Rattle.mh_runtime.proofs.ledger.Parts.{in-part}
use Rattle.mh_runtime.proofs.ledger.Places.{place-contains}
use Rattle.mh_runtime.proofs.sites.Sites.{contains-in}

module _ (given : Given) (named : AreConstJobs (run_of given)) (all : Nodes) (nodes : AreNodes (run_of given) all) where
  abbrev run : Constants
  run = run_of given

  abbrev table : Serials
  table = serials_in all

  abbrev own : ℕ → List ℕ
  own = asked_by run (found_in all)

  -- the constants that an attempt's call looks at itself
  abbrev looks : Attempt → List ℕ
  looks a = option_map_or (asked_at (found_in all)) (slice_get given.jobs a.site) []

  -- what a site asks stands below what its call looks at
  site-asks : (a : Attempt) (c : ℕ) → is_in (asks_at given table a.site) c ≡ is_in (with_below own most_depth (looks a)) c
  site-asks a c = by (slice_get given.jobs a.site)
    where
      by : (o : Option Job) → is_in (option_map_or (asks_of_job given table) o []) c
          ≡ is_in (with_below own most_depth (option_map_or (asked_at (found_in all)) o [])) c
      by None = refl
      by (Some job) =
          let call : OrThrown StaticArguments = arguments_of_site job.call in
          in-first [] (with_below (asked_by run (values_of run table)) most_depth (asked_of_call (values_of run table) call)) c
          ∙ ap (λ cs. is_in cs c) (sym (below-values run named all nodes (asked_of_call (found_in all) call)
          ∙ ap (with_below (asked_by run (values_of run table)) most_depth) (call-values run named all nodes call)))

  -- ---- one pass

  module _ (start links : LinkPass) (asks_more : AsksMore given start links) (keeps : Keeps links.constants.known all) where
    same-looked : looked_at given (found_in links.constants.known) asks_more.more ≡ flat_map looks asks_more.more
    same-looked = looked-kept given links.constants.known all keeps asks_more.more asks_more.goes.known

    -- a constant that was attempted is asked by the site of an attempt
    tried-asked : (c : ℕ) → Has asks_more.goes.attempts.more c → (a : Attempt) × Contains asks_more.more a × Has (asks_at given table a.site) c
    tried-asked c h =
        let under : Has (with_below own most_depth (flat_map looks asks_more.more)) c =
        subst (λ cs. Has (with_below own most_depth cs) c) same-looked (asks_more.goes.attempts.asked all keeps nodes c h) in
        let found = of-flat (λ x. x == c) (λ d. d ∷ below own most_depth d) (flat_map looks asks_more.more) under in
        let part = in-part looks asks_more.more found.0 found.1 in
        let a : Attempt = part.1 in (
          a,
          place-contains asks_more.more part.0 a part.2,
          site-asks a c ∙ in-flat (λ x. x == c) (λ d. d ∷ below own most_depth d) (looks a) found.0 part.3 found.2,
        )

    -- so is each of its attempts, where it began with none
    pub pass-asked : start.constants.attempts ≡ [] → (b : ConstAttempt) → Contains links.constants.attempts b →
        (a : Attempt) × Contains links.attempts a × Has (asks_at given table a.site) b.constant
    pass-asked none b h =
        let are : map (λ (x : ConstAttempt). x.constant) links.constants.attempts ≡ asks_more.goes.attempts.more =
        asks_more.goes.attempts.are ∙ ap (λ xs. map (λ (x : ConstAttempt). x.constant) xs ++ asks_more.goes.attempts.more) none in
        let found = tried-asked b.constant (subst (λ cs. Has cs b.constant) are
        (contains-in (map (λ (x : ConstAttempt). x.constant) links.constants.attempts) b.constant
        (contains-map (λ (x : ConstAttempt). x.constant) links.constants.attempts b h))) in (
          found.0,
          subst (λ xs. Contains xs found.0) (sym asks_more.are) (Contains-append_right start.attempts asks_more.more found.0 found.1),
          found.2,
        )

    -- each constant that the site of an attempt asks has a serial
    pub asked-serial : (a : Attempt) → Contains asks_more.more a → (c : ℕ) → Has (asks_at given table a.site) c → is_some (serial_at table c) ≡ true
    asked-serial a h c asked = by (slice_get given.jobs a.site) refl asked
      where
        by : (o : Option Job) → slice_get given.jobs a.site ≡ o → Has (option_map_or (asks_of_job given table) o []) c → is_some (serial_at table c) ≡ true
        by None is there = absurd (both_ways (is_in [] c) refl there)
        by (Some job) is there =
            asked-serials run named all nodes (arguments_of_site job.call) (λ d looked.
            let here : Has (looks a) d = subst (λ o. Has (option_map_or (asked_at (found_in all)) o []) d) (sym is) looked in
            known-kept links.constants.known all keeps d (asks_more.goes.known d (subst (λ cs. Has cs d) (sym same-looked)
            (in-flat (λ x. x == d) looks asks_more.more a h here)))) c there

-- ---- as calls of bootstrap methods

-- the static arguments of the calls of attempts
abbrev pub calls_made : Given → List Attempt → List (OrThrown StaticArguments)
calls_made given attempts = flat_map (λ a. option_map_or (λ (job : Job). arguments_of_site job.call ∷ []) (slice_get given.jobs a.site) []) attempts

pub flat-calls : (given : Given) (f : OrThrown StaticArguments → List ℕ) (attempts : List Attempt) →
    flat_map f (calls_made given attempts)
    ≡ flat_map (λ (a : Attempt). option_map_or (λ (job : Job). f (arguments_of_site job.call)) (slice_get given.jobs a.site) []) attempts
flat-calls given f [] = refl
flat-calls given f (a ∷ attempts) =
    flat_map-append f (option_map_or (λ (job : Job). arguments_of_site job.call ∷ []) (slice_get given.jobs a.site) []) (calls_made given attempts)
    ∙ ap₂ (λ xs ys. xs ++ ys) (by (slice_get given.jobs a.site)) (flat-calls given f attempts)
  where
    by : (o : Option Job) → flat_map f (option_map_or (λ (job : Job). arguments_of_site job.call ∷ []) o [])
        ≡ option_map_or (λ (job : Job). f (arguments_of_site job.call)) o []
    by None = refl
    by (Some job) = append-nil (f (arguments_of_site job.call))
