-- A constant with a depth stands over those that it names.
use Rattle.std.proofs.Common.{◌≡◌, refl, sym, ◌∙◌, ap, subst, ℕ, zero, suc, ◌<◌, ◌≤◌, inl, inr, List, [], ◌∷◌, Option, Some, None, arith}
use Rattle.std.specs.Prelude.{max, map, option_map, slice_get}
use Rattle.std.specs.Option.{option_map_or}
use Rattle.std.proofs.lemmas.Bool.{both_ways}
use Rattle.mh_link.specs.Places.{is_in, Has}
use Rattle.mh_jobs.specs.declared.constants.ConstJob.{ConstJob}
use Rattle.mh_link.specs.Named.{Constants}
use Rattle.mh_link.specs.Depth.{greatest, depth_within}
use Rattle.mh_link.proofs.walking.Places.{has-cons}

-- ---- options

-- what a mapped option has was mapped
pub record Mapped {A B : Type 0} (f : A → B) (o : Option A) (y : B) : Type 0 where
  pub from : A
  pub was : o ≡ Some from
  pub is : f from ≡ y

pub mapped : {A B : Type 0} (f : A → B) (o : Option A) (y : B) → option_map f o ≡ Some y → Mapped f o y
mapped f None y e = cc
mapped f (Some x) y e = record { from = x; was = refl; is = cc }

-- ---- the greatest of some depths

-- a number has a depth that is at most g
pub record DepthUpTo (f : ℕ → Option ℕ) (d g : ℕ) : Type 0 where
  pub depth : ℕ
  pub is : f d ≡ Some depth
  pub within : depth ≤ g

-- the first of them and the others
record Front (f : ℕ → Option ℕ) (x : ℕ) (xs : List ℕ) (g : ℕ) : Type 0 where
  here : ℕ
  rest : ℕ
  is : f x ≡ Some here
  others : greatest (map f xs) ≡ Some rest
  most : max here rest ≡ g

front : (f : ℕ → Option ℕ) (x : ℕ) (xs : List ℕ) (g : ℕ) → greatest (map f (x ∷ xs)) ≡ Some g → Front f x xs g
front f x xs g e = cases (f x) refl e
  where
    cases : (o : Option ℕ) → f x ≡ o → greatest (o ∷ map f xs) ≡ Some g → Front f x xs g
    cases None none e = cc
    cases (Some k) is e =
        let m = mapped (max k) (greatest (map f xs)) g e in
        record { here = k; rest = m.from; is = is; others = m.was; most = m.is }

pub greatest-each : (f : ℕ → Option ℕ) (xs : List ℕ) (g : ℕ) → greatest (map f xs) ≡ Some g → (d : ℕ) → Has xs d → DepthUpTo f d g
greatest-each f [] g e d h = absurd (both_ways (is_in [] d) refl h)
greatest-each f (x ∷ xs) g e d h =
    let p = front f x xs g e in
    elim (has-cons x xs d h) [
      | inl same ↦ record { depth = p.here; is = ap f (sym same) ∙ p.is; within = let m = p.most in omega arith }
      | inr there ↦
          let rest = greatest-each f xs p.rest p.others d there in
          record { depth = rest.depth; is = rest.is; within = let m = p.most in let w = rest.within in omega arith }
    ]

pub greatest-kept : (f h : ℕ → Option ℕ) → ((d k : ℕ) → f d ≡ Some k → h d ≡ Some k) → (xs : List ℕ) (g : ℕ) →
    greatest (map f xs) ≡ Some g → greatest (map h xs) ≡ Some g
greatest-kept f h kept [] g e = e
greatest-kept f h kept (x ∷ xs) g e =
    let p = front f x xs g e in
    ap (λ o. greatest (o ∷ map h xs)) (kept x p.here p.is)
    ∙ (ap (λ o. option_map (max p.here) o) (greatest-kept f h kept xs p.rest p.others) ∙ ap (λ n. Some n) p.most)

pub greatest-small : (f : ℕ → Option ℕ) (n : ℕ) → ((d k : ℕ) → f d ≡ Some k → k ≤ n) → (xs : List ℕ) (g : ℕ) →
    greatest (map f xs) ≡ Some g → g ≤ n
greatest-small f n small [] g e = let z : 0 ≡ g = cc in omega arith
greatest-small f n small (x ∷ xs) g e =
    let p = front f x xs g e in
    omega (arith, p.most, small x p.here p.is, greatest-small f n small xs p.rest p.others)

-- ---- depths

-- a constant with a depth has a job, and the depth is 1 more than the greatest of those that it names
pub record Deep (run : Constants) (n c k : ℕ) : Type 0 where
  pub job : ConstJob
  pub at : slice_get run.jobs c ≡ Some job
  pub most : ℕ
  pub over : greatest (map (λ d. depth_within run n d) job.names) ≡ Some most
  pub is : suc most ≡ k

pub deep : (run : Constants) (n c k : ℕ) → depth_within run (suc n) c ≡ Some k → Deep run n c k
unfolding depth_within
deep run n c k e = cases (slice_get run.jobs c) refl e
  where
    cases : (o : Option ConstJob) → slice_get run.jobs c ≡ o →
        option_map_or (λ (job : ConstJob). option_map suc (greatest (map (λ d. depth_within run n d) job.names))) o None ≡ Some k → Deep run n c k
    cases None none e = cc
    cases (Some job) at e =
        let m = mapped suc (greatest (map (λ d. depth_within run n d) job.names)) k e in
        record { job = job; at = at; most = m.from; over = m.was; is = m.is }

deep-again : (run : Constants) (n c k : ℕ) (job : ConstJob) → slice_get run.jobs c ≡ Some job → (g : ℕ) →
    greatest (map (λ d. depth_within run n d) job.names) ≡ Some g → suc g ≡ k → depth_within run (suc n) c ≡ Some k
unfolding depth_within
deep-again run n c k job at g over is =
    ap (λ o. option_map_or (λ (job : ConstJob). option_map suc (greatest (map (λ d. depth_within run n d) job.names))) o None) at
    ∙ (ap (λ o. option_map suc o) over ∙ ap (λ n. Some n) is)

none-at-zero : (run : Constants) (c k : ℕ) → depth_within run zero c ≡ Some k → ⊥
unfolding depth_within
none-at-zero run c k e = cc

pub depth-grows : (run : Constants) (n c k : ℕ) → depth_within run n c ≡ Some k → depth_within run (suc n) c ≡ Some k
depth-grows run zero c k e = absurd (none-at-zero run c k e)
depth-grows run (suc n) c k e =
    let at = deep run n c k e in
    deep-again run (suc n) c k at.job at.at at.most
    (greatest-kept (λ d. depth_within run n d) (λ d. depth_within run (suc n) d) (λ d j. depth-grows run n d j) at.job.names at.most at.over) at.is

pub depth-small : (run : Constants) (n c k : ℕ) → depth_within run n c ≡ Some k → k ≤ n
depth-small run zero c k e = absurd (none-at-zero run c k e)
depth-small run (suc n) c k e =
    let at = deep run n c k e in
    omega (arith, at.is, greatest-small (λ d. depth_within run n d) n (λ d j. depth-small run n d j) at.job.names at.most at.over)

pub depth-some : (run : Constants) (n c k : ℕ) → depth_within run n c ≡ Some k → 0 < k
depth-some run zero c k e = absurd (none-at-zero run c k e)
depth-some run (suc n) c k e = let at = deep run n c k e in let is = at.is in omega arith

-- a constant that another names stands less deep
pub record Lower (run : Constants) (n d k : ℕ) : Type 0 where
  pub depth : ℕ
  pub is : depth_within run n d ≡ Some depth
  pub less : depth < k

pub depth-falls : (run : Constants) (n c k : ℕ) → depth_within run n c ≡ Some k → (job : ConstJob) → slice_get run.jobs c ≡ Some job →
    (d : ℕ) → Has job.names d → Lower run n d k
depth-falls run zero c k e job at d h = absurd (none-at-zero run c k e)
depth-falls run (suc n) c k e job at d h =
    let p = deep run n c k e in
    let same : p.job ≡ job = let e : Some p.job ≡ Some job = sym p.at ∙ at in cc in
    let under = greatest-each (λ x. depth_within run n x) p.job.names p.most p.over d (subst (λ (j : ConstJob). Has j.names d) (sym same) h) in
    record {
      depth = under.depth;
      is = depth-grows run n d under.depth under.is;
      less = let w = under.within in let i = p.is in omega arith;
    }
