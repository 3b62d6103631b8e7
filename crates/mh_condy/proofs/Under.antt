-- A constant by its depth and its job: its outcome, and the ranks of the constants among its arguments.
use Rattle.std.proofs.Common.{◌≡◌, refl, sym, ◌∙◌, ap, ap₂, subst, ℕ, zero, suc, ◌+◌, ◌<◌, Bool, if◌then◌else◌, List, [], ◌∷◌, ◌++◌, Option, Some, None, Err, length, take, drop, get_or, arith}
use Rattle.std.specs.Prelude.{is_some, slice_get, unwrap_or, ok_or}
use Rattle.std.specs.Option.{option_map_or}
use Rattle.std.proofs.lemmas.List.{drop_more, take-append-drop, take_more}
use Rattle.std.proofs.lemmas.Option.{slice_get_within}
use Rattle.mh_values.specs.declared.value.Value.{Value}
use Rattle.mh_jobs.specs.declared.constants.ConstBootstrap.{ConstBootstrap}
use Rattle.mh_jobs.specs.declared.constants.ConstJob.{ConstJob}
use Rattle.mh_jobs.specs.declared.unresolved.Part.{Part}
use Rattle.mh_jobs.specs.declared.unresolved.Part.TheVariants.{Known, Constant}
use Rattle.mh_jobs.specs.Thrown.{OrThrown, ◌>>=◌, ◌>>◌, require}
use Rattle.mh_link.specs.Named.{Constants, Name, arguments_of_call}
use Rattle.mh_link.specs.Depth.{depth, most_depth, rank}
use Rattle.mh_jobs.specs.Given.{Found}
use Rattle.mh_link.specs.Resolved.{resolved}
use Rattle.mh_link.specs.Constants.{call_value, const_outcome, too_deep}
use Rattle.mh_link.specs.Asking.{asked_by, asked_of_call, asked_of_job}
use Rattle.mh_link.specs.Places.{Has}
use Rattle.mh_link.proofs.constants.Depths.{depth-falls, depth-some}
use Rattle.mh_condy.specs.Given.{AreUnder, call_outcome}
use Rattle.mh_condy.specs.Runs.{HavePlaces}

-- ---- depths

pub no-depth : (run : Constants) (c : ℕ) → rank run c ≡ 0 → depth run c ≡ None
no-depth run c e = cases (depth run c) refl e
  where
    cases : (o : Option ℕ) → depth run c ≡ o → unwrap_or o 0 ≡ 0 → o ≡ None
    cases None is e = refl
    cases (Some k) is e = absurd (let s = depth-some run most_depth c k is in omega arith)

pub some-depth : (run : Constants) (c : ℕ) → 0 < rank run c → depth run c ≡ Some (rank run c)
some-depth run c high = cases (depth run c) refl high
  where
    cases : (o : Option ℕ) → depth run c ≡ o → 0 < unwrap_or o 0 → o ≡ Some (unwrap_or o 0)
    cases None is high = absurd (omega arith)
    cases (Some k) is high = refl

-- ---- outcomes

abbrev outcome_with : Constants → Bool → Option ConstJob → Found → ℕ → OrThrown Value
outcome_with run deep at found serial =
    require deep too_deep
    >> (ok_or at too_deep >>= (λ (job : ConstJob). job.call >>= (λ (call : ConstBootstrap).
    resolved found call.arguments >>= (λ arguments. call_value run call serial arguments))))

abbrev asked_with : Bool → Option ConstJob → Found → List ℕ
asked_with deep at found = if deep then option_map_or (asked_of_job found) at [] else []

module _ (run : Constants) (c : ℕ) (found : Found) where
  -- a constant without a depth
  pub deep-less : (serial : ℕ) → depth run c ≡ None → (const_outcome run found c serial ≡ Err too_deep) × (asked_by run found c ≡ [])
  deep-less serial none = (
    ap (λ (o : Option ℕ). outcome_with run (is_some o) (slice_get run.jobs c) found serial) none,
    ap (λ (o : Option ℕ). asked_with (is_some o) (slice_get run.jobs c) found) none,
  )

  module _ (k : ℕ) (deep : depth run c ≡ Some k) (job : ConstJob) (at : slice_get run.jobs c ≡ Some job) where
    -- one whose call is this
    pub outcome-at : (call : OrThrown ConstBootstrap) → job.call ≡ call → (serial : ℕ) →
        (const_outcome run found c serial ≡ (call >>= (λ (b : ConstBootstrap). call_outcome run found b serial)))
        × (asked_by run found c ≡ asked_of_call found (arguments_of_call call))
    outcome-at call is serial = (
      ap₂ (λ (o : Option ℕ) (j : Option ConstJob). outcome_with run (is_some o) j found serial) deep at
          ∙ ap (λ (r : OrThrown ConstBootstrap). r >>= (λ (b : ConstBootstrap). call_outcome run found b serial)) is,
      ap₂ (λ (o : Option ℕ) (j : Option ConstJob). asked_with (is_some o) j found) deep at
          ∙ ap (λ (r : OrThrown ConstBootstrap). asked_of_call found (arguments_of_call r)) is,
    )

-- ---- arguments

-- the constants among the parts of a constant's call stand less deep than it
pub under-named : (run : Constants) (c k : ℕ) → depth run c ≡ Some k → (job : ConstJob) → slice_get run.jobs c ≡ Some job →
    ((d : ℕ) → Has job.names d → d < length run.jobs) → (parts : List Part) → Name job.names parts → AreUnder run k parts
under-named run c k e job at places [] named = tt
under-named run c k e job at places (Known a ∷ parts) named = under-named run c k e job at places parts named
under-named run c k e job at places (Constant d ∷ parts) named =
    let low = depth-falls run most_depth c k e job at d named.0 in
    let same : rank run d ≡ low.depth = ap (λ o. unwrap_or o 0) low.is in
    let less = low.less in
    (omega arith, places d named.0, under-named run c k e job at places parts named.1)

-- and are constants of the run
pub under-places : (run : Constants) (under : ℕ) (parts : List Part) → AreUnder run under parts → HavePlaces run parts
under-places run under [] low i d at = absurd cc
under-places run under (Known a ∷ parts) low zero d at = absurd cc
under-places run under (Known a ∷ parts) low (suc i) d at = under-places run under parts low i d at
under-places run under (Constant c ∷ parts) low zero d at = let same : c ≡ d = cc in subst (λ x. x < length run.jobs) same low.1
under-places run under (Constant c ∷ parts) low (suc i) d at = under-places run under parts low.2 i d at

pub named-places : (run : Constants) (names : List ℕ) → ((d : ℕ) → Has names d → d < length run.jobs) → (parts : List Part) → Name names parts →
    HavePlaces run parts
named-places run names places [] named i d at = absurd cc
named-places run names places (Known a ∷ parts) named zero d at = absurd cc
named-places run names places (Known a ∷ parts) named (suc i) d at = named-places run names places parts named i d at
named-places run names places (Constant c ∷ parts) named zero d at = let same : c ≡ d = cc in subst (λ x. x < length run.jobs) same (places c named.0)
named-places run names places (Constant c ∷ parts) named (suc i) d at = named-places run names places parts named.1 i d at

-- ---- parts by their places

part-get : (parts : List Part) (i : ℕ) (p q : Part) → slice_get parts i ≡ Some q → get_or parts i p ≡ q
part-get [] i p q at = absurd cc
part-get (x ∷ parts) zero p q at = cc
part-get (x ∷ parts) (suc i) p q at = part-get parts i p q at

pub parts-split : (parts : List Part) (i : ℕ) (q : Part) → slice_get parts i ≡ Some q → parts ≡ take i parts ++ q ∷ drop (i + 1) parts
parts-split parts i q at =
    sym (take-append-drop i parts)
    ∙ ap (λ xs. take i parts ++ xs) (drop_more parts i q (slice_get_within parts i q at) ∙ ap (λ x. x ∷ drop (i + 1) parts) (part-get parts i q q at))

pub parts-next : (parts : List Part) (i : ℕ) (q : Part) → slice_get parts i ≡ Some q → take (i + 1) parts ≡ take i parts ++ q ∷ []
parts-next parts i q at =
    take_more parts i q (slice_get_within parts i q at) ∙ ap (λ x. take i parts ++ x ∷ []) (part-get parts i q q at)

pub under-at : (run : Constants) (under : ℕ) (parts : List Part) (i d : ℕ) → AreUnder run under parts → slice_get parts i ≡ Some (Constant d) →
    (rank run d < under) × (d < length run.jobs)
under-at run under [] i d low at = absurd cc
under-at run under (Known a ∷ parts) zero d low at = absurd cc
under-at run under (Constant e ∷ parts) zero d low at =
    let same : e ≡ d = cc in
    (subst (λ x. rank run x < under) same low.0, subst (λ x. x < length run.jobs) same low.1)
under-at run under (Known a ∷ parts) (suc i) d low at = under-at run under parts i d low at
under-at run under (Constant e ∷ parts) (suc i) d low at = under-at run under parts i d low.2 at

pub part-low : (run : Constants) (under : ℕ) (parts shown : List Part) (i d : ℕ) → AreUnder run under parts → shown ≡ parts →
    slice_get shown i ≡ Some (Constant d) → rank run d < under
part-low run under parts shown i d low same at = (under-at run under parts i d low (ap (λ ps. slice_get ps i) (sym same) ∙ at)).0
