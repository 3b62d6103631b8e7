-- What lanes attempt where their base has learnt sites.
use Rattle.std.proofs.Common.{◌≡◌, refl, ◌∙◌, ap, ap₂, ℕ, suc, List, [], ◌∷◌, ◌++◌, append-nil, map, Option, None, Some, arith}
use Rattle.std.specs.Prelude.{All, Contains, IsSome, slice_get}
use Rattle.std.specs.List.{flat_map}
use Rattle.std.proofs.lemmas.List.Elements.{All-contains}
use Rattle.mh_jobs.specs.Given.{Given}
use Rattle.mh_report.specs.declared.attempt.Attempt.{Attempt}
use Rattle.mh_plan.specs.declared.call.Call.{Call}
use Rattle.mh_plan.specs.Naming.{sites_named}
use Rattle.mh_report.specs.Results.{serial_at}
use Rattle.mh_runtime.specs.declared.joining.Joined.{Joined}
use Rattle.mh_runtime.specs.declared.lane.Lane.{Lane}
use Rattle.mh_runtime.specs.declared.pass.Pass.{Pass}
use Rattle.mh_runtime.specs.Attempts.{AreLinked}
use Rattle.mh_runtime.specs.Joined.{ThreadPasses}
use Rattle.mh_runtime.specs.Joining.{AreJoinedSoFar, calls_of}
use Rattle.mh_runtime.specs.Lanes.{AreUnlearnt, HasRun, passes_of}
use Rattle.mh_runtime.specs.Passes.{LinkPass}
use Rattle.mh_runtime.proofs.ledger.Owners.{thread-of}
use Rattle.mh_runtime.proofs.ledger.Places.{place-contains}

-- ---- one lane

-- what is there is not missing
not-none : (o : Option ℕ) → o ≡ None → IsSome o → ⊥
not-none None none some = cc some
not-none (Some n) none some = cc none

-- attempts of sites that the base has learnt, and of none that it has learnt, are none
pub none-made : (base : LinkPass) (sites : List ℕ) (attempts : List Attempt) → AreLinked base.linked sites → All (λ a. Contains sites a.site) attempts →
    AreUnlearnt base attempts → attempts ≡ []
none-made base sites [] linked reached unlearnt = refl
none-made base sites (a ∷ attempts) linked reached unlearnt =
    let first : Contains (a ∷ attempts) a = (0, omega arith, refl) in
    let named : Contains sites a.site = All-contains (λ (x : Attempt). Contains sites x.site) (a ∷ attempts) a reached first in
    absurd (not-none (serial_at base.linked a.site) (All-contains (λ (x : Attempt). serial_at base.linked x.site ≡ None) (a ∷ attempts) a unlearnt first)
    (All-contains (λ site. IsSome (serial_at base.linked site)) sites a.site linked named))

module _ {J : Type 0} (given : Given) (base : Pass J) (thread : ℕ) (calls : List Call) (lane : Lane J) (ran : HasRun given base thread calls lane) where
  -- a lane knows what its base knows
  pub lane-knows : (site serial : ℕ) → serial_at base.links.linked site ≡ Some serial → serial_at lane.pass.links.linked site ≡ Some serial
  lane-knows site serial is = ran.learnt site serial is

  -- where the base has learnt the sites that its calls name, it makes no attempt
  pub lane-attempts-none : AreLinked base.links.linked (flat_map sites_named calls) → lane.pass.links.attempts ≡ []
  lane-attempts-none linked = none-made base.links (flat_map sites_named calls) lane.pass.links.attempts linked ran.run.reached ran.unlearnt

-- ---- all lanes

pub flat-none : {X Y : Type 0} (f : X → List Y) (xs : List X) → ((i : ℕ) (x : X) → slice_get xs i ≡ Some x → f x ≡ []) → flat_map f xs ≡ []
flat-none f [] each = refl
flat-none f (x ∷ xs) each = ap₂ (λ ys zs. ys ++ zs) (each 0 x refl) (flat-none f xs (λ i. each (suc i)))

-- where the base has learnt the sites that all calls name, no attempt comes to those that it has made
pub no-attempts : {J : Type 0} (given : Given) (base : Pass J) (count : ℕ) (lanes : List (Lane J)) (joined : Joined J) →
    AreJoinedSoFar given base count lanes joined →
    ((thread : ℕ) (calls : List Call) → slice_get (calls_of lanes) thread ≡ Some calls → AreLinked base.links.linked (flat_map sites_named calls)) →
    joined.pass.links.attempts ≡ base.links.attempts
no-attempts given base count lanes joined all linked =
    all.attempts ∙ (ap (λ made. base.links.attempts ++ made) (flat-none (λ (p : ThreadPasses). p.links.attempts) (map passes_of lanes) none)
    ∙ append-nil base.links.attempts)
  where
    none : (i : ℕ) (p : ThreadPasses) → slice_get (map passes_of lanes) i ≡ Some p → p.links.attempts ≡ []
    none i p at =
        let is = thread-of given (calls_of lanes) (map passes_of lanes) all.used i p at in
        none-made base.links (flat_map sites_named is.calls) p.links.attempts (linked i is.calls is.named) is.used.run.reached
        (All-contains (λ (q : ThreadPasses). AreUnlearnt base.links q.links.attempts) (map passes_of lanes) p all.unlearnt
        (place-contains (map passes_of lanes) i p at))
