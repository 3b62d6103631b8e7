-- What a constant looks at.
use Rattle.std.proofs.Common.{◌≡◌, refl, ap, subst, ℕ, ◌<◌, ◌≤◌, Bool, true, false, inl, inr, if◌then◌else◌, List, [], ◌∷◌, Option, Some, None, Ok, Err, arith}
use Rattle.std.specs.Prelude.{is_ok, is_some, slice_get, unwrap_or, ok_or}
use Rattle.std.specs.Option.{option_map_or}
use Rattle.std.proofs.lemmas.Bool.{both_ways}
use Rattle.mh_values.specs.declared.value.Value.{Value}
use Rattle.mh_jobs.specs.Thrown.{OrThrown, ◌>>=◌, ◌>>◌, require}
use Rattle.mh_jobs.specs.declared.job.Argument.{Argument}
use Rattle.mh_jobs.specs.declared.unresolved.Part.{Part}
use Rattle.mh_jobs.specs.declared.unresolved.Part.TheVariants.{Known, Constant}
use Rattle.mh_jobs.specs.Given.{Found}
use Rattle.mh_link.specs.Resolved.{Agree, taken, resolved, asked}
use Rattle.mh_link.specs.Places.{is_in, Has}
use Rattle.mh_jobs.specs.declared.constants.ConstBootstrap.{ConstBootstrap}
use Rattle.mh_jobs.specs.declared.constants.ConstJob.{ConstJob}
use Rattle.mh_link.specs.Named.{Constants, Name, AreConstJobs, arguments_of_call}
use Rattle.mh_link.specs.Depth.{rank, depth, most_depth}
use Rattle.mh_link.specs.Constants.{too_deep, as_recorded, call_value, const_under}
use Rattle.mh_link.specs.Asking.{asked_of_call, asked_of_job, asked_by}
use Rattle.mh_link.proofs.walking.Places.{has-cons, has-here, has-there}
use Rattle.mh_link.proofs.constants.Depths.{depth-falls, depth-small}
use Rattle.mh_link.proofs.constants.Resolving.{resolving}

-- what is looked at is named
pub asked-named : (found : Found) (names : List ℕ) (parts : List Part) → Name names parts → (d : ℕ) → Has (asked found parts) d → Has names d
asked-named found names [] named d h = absurd (both_ways (is_in [] d) refl h)
asked-named found names (Known a ∷ parts) named d h = asked-named found names parts named d h
asked-named found names (Constant c ∷ parts) named d h =
    elim (has-cons c (if is_ok (taken (found c)) then asked found parts else []) d h) [
      | inl e ↦ subst (λ z. Has names z) e named.0
      | inr there ↦ cases (is_ok (taken (found c))) (asked-named found names parts named.1 d) there
    ]
  where
    cases : (b : Bool) → (Has (asked found parts) d → Has names d) → Has (if b then asked found parts else []) d → Has names d
    cases true later h = later h
    cases false later h = absurd (both_ways (is_in [] d) refl h)

-- a constant that looks at another has a depth, a job and a call, and it names the other
pub record LooksAt (run : Constants) (c d : ℕ) : Type 0 where
  pub deep : ℕ
  pub depth : depth run c ≡ Some deep
  pub job : ConstJob
  pub at : slice_get run.jobs c ≡ Some job
  pub names : Has job.names d

pub looks-at : (run : Constants) → AreConstJobs run → (found : Found) (c d : ℕ) → Has (asked_by run found c) d → LooksAt run c d
looks-at run named found c d h = by_depth (depth run c) refl h
  where
    by_call : (job : ConstJob) → slice_get run.jobs c ≡ Some job → (call : OrThrown ConstBootstrap) → job.call ≡ call →
        Has (asked_of_call found (arguments_of_call call)) d → Has job.names d
    by_call job at (Ok call) is h = asked-named found job.names call.arguments.parts (named c job at call is) d h
    by_call job at (Err e) is h = absurd (both_ways (is_in [] d) refl h)

    by_job : (k : ℕ) → depth run c ≡ Some k → (o : Option ConstJob) → slice_get run.jobs c ≡ o →
        Has (option_map_or (asked_of_job found) o []) d → LooksAt run c d
    by_job k e None none h = absurd (both_ways (is_in [] d) refl h)
    by_job k e (Some job) at h = record { deep = k; depth = e; job = job; at = at; names = by_call job at job.call refl h }

    by_depth : (o : Option ℕ) → depth run c ≡ o →
        Has (if is_some o then option_map_or (asked_of_job found) (slice_get run.jobs c) [] else []) d → LooksAt run c d
    by_depth None none h = absurd (both_ways (is_in [] d) refl h)
    by_depth (Some k) e h = by_job k e (slice_get run.jobs c) refl h

pub rank-falls : (run : Constants) → AreConstJobs run → (found : Found) (c d : ℕ) → Has (asked_by run found c) d → rank run d < rank run c
rank-falls run named found c d h =
    let p = looks-at run named found c d h in
    let q = depth-falls run most_depth c p.deep p.depth p.job p.at d p.names in
    let low : rank run d ≡ q.depth = ap (λ o. unwrap_or o 0) q.is in
    let high : rank run c ≡ p.deep = ap (λ o. unwrap_or o 0) p.depth in
    omega (arith, q.less)

pub rank-small : (run : Constants) (c : ℕ) → rank run c ≤ most_depth
rank-small run c = cases (depth run c) refl
  where
    cases : (o : Option ℕ) → depth run c ≡ o → unwrap_or o 0 ≤ most_depth
    cases None none = omega arith
    cases (Some k) e = depth-small run most_depth c k e

-- ---- what depends on what is looked at alone

pub agree-each : (known other : Found) (cs : List ℕ) → ((d : ℕ) → Has cs d → known d ≡ other d) → Agree known other cs
agree-each known other [] each = tt
agree-each known other (c ∷ cs) each = (each c (has-here c cs), agree-each known other cs (λ d h. each d (has-there c cs d h)))

-- an outcome by the depth and the job alone
abbrev outcome_with : Constants → Bool → Option ConstJob → Found → ℕ → OrThrown Value
outcome_with run deep at known serial =
    require deep too_deep
    >> (ok_or at too_deep >>= (λ (job : ConstJob). job.call >>= (λ (call : ConstBootstrap).
    resolved known call.arguments >>= (λ arguments. call_value run call serial arguments))))

abbrev asked_with : Bool → Option ConstJob → Found → List ℕ
asked_with deep at known = if deep then option_map_or (asked_of_job known) at [] else []

with-same : (run : Constants) (known other : Found) (deep : Bool) (at : Option ConstJob) → Agree known other (asked_with deep at known) →
    ((serial : ℕ) → outcome_with run deep at known serial ≡ outcome_with run deep at other serial) × (asked_with deep at known ≡ asked_with deep at other)
with-same run known other false at agree = (λ serial. refl, refl)
with-same run known other true None agree = (λ serial. refl, refl)
with-same run known other true (Some job) agree = cases job.call agree
  where
    cases : (call : OrThrown ConstBootstrap) → Agree known other (asked_of_call known (arguments_of_call call)) →
        ((serial : ℕ) → (call >>= (λ (c : ConstBootstrap). resolved known c.arguments >>= (λ arguments. call_value run c serial arguments)))
        ≡ (call >>= (λ (c : ConstBootstrap). resolved other c.arguments >>= (λ arguments. call_value run c serial arguments))))
        × (asked_of_call known (arguments_of_call call) ≡ asked_of_call other (arguments_of_call call))
    cases (Err e) agree = (λ serial. refl, refl)
    cases (Ok call) agree =
        let both = resolving known other call.arguments agree in
        (λ serial. ap (λ (r : OrThrown (List Argument)). r >>= (λ arguments. call_value run call serial arguments)) both.0, both.1)

pub under-same : (run : Constants) (known other : Found) (c : ℕ) → Agree known other (asked_by run known c) →
    ((serial : ℕ) → const_under run known c serial ≡ const_under run other c serial) × (asked_by run known c ≡ asked_by run other c)
under-same run known other c agree =
    let both = with-same run known other (is_some (depth run c)) (slice_get run.jobs c) agree in
    (λ serial. ap (λ o. as_recorded run.leaves.classes o) (both.0 serial), both.1)
