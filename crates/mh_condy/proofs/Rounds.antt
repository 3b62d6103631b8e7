-- Depths as numbers, a round after the other.
use Rattle.std.proofs.Common.{◌≡◌, refl, ◌∙◌, ap, ap₂, subst, ℕ, zero, suc, ◌+◌, ◌-◌, ◌≤◌, List, [], ◌∷◌, ◌++◌, Option, Some, None, length, map, replicate, take, arith}
use Rattle.std.specs.Prelude.{max, option_map, slice_get, slice_index}
use Rattle.std.specs.Option.{option_map_or}
use Rattle.std.proofs.lemmas.List.{length-map, length-replicate}
use Rattle.mh_jobs.specs.declared.constants.ConstJob.{ConstJob}
use Rattle.mh_link.specs.Named.{Constants}
use Rattle.mh_link.specs.Depth.{depth_within, greatest, most_depth}
use Rattle.mh_link.proofs.constants.Depths.{depth-small, depth-some}
use Rattle.mh_condy.specs.Depths.{as_depth, as_number, over_names, AreDepthsWithin}
use Rattle.mh_condy.specs.Runs.{AreDepths}

pub max-max : (a b : ℕ) (o : Option ℕ) → option_map (max a) (option_map (max b) o) ≡ option_map (max (max a b)) o
max-max a b None = refl
max-max a b (Some c) = ap (λ n. Some n) (let e : max a (max b c) ≡ max (max a b) c = omega arith in e)

-- a depth is never 0, so its number stands for it
depth-again : (run : Constants) (n c : ℕ) → as_depth (as_number (depth_within run n c)) ≡ depth_within run n c
depth-again run n c = cases (depth_within run n c) refl
  where
    cases : (o : Option ℕ) → depth_within run n c ≡ o → as_depth (as_number o) ≡ o
    cases None e = refl
    cases (Some zero) e = absurd (let s = depth-some run n c 0 e in omega arith)
    cases (Some (suc k)) e = refl

pub number-small : (run : Constants) (n c : ℕ) → as_number (depth_within run n c) ≤ n
number-small run n c = cases (depth_within run n c) refl
  where
    cases : (o : Option ℕ) → depth_within run n c ≡ o → as_number o ≤ n
    cases None e = omega arith
    cases (Some k) e = depth-small run n c k e

map-each : (f g : ℕ → Option ℕ) (xs : List ℕ) → ((x : ℕ) → f x ≡ g x) → map f xs ≡ map g xs
map-each f g [] same = refl
map-each f g (x ∷ xs) same = ap₂ (λ y ys. y ∷ ys) (same x) (map-each f g xs same)

over-is : (run : Constants) (n : ℕ) (depths names : List ℕ) → AreDepthsWithin run n depths →
    over_names depths names ≡ as_number (option_map suc (greatest (map (λ d. depth_within run n d) names)))
over-is run n depths names within =
    ap (λ ds. as_number (option_map suc (greatest ds)))
    (map-each (λ d. as_depth (slice_index depths d)) (λ d. depth_within run n d) names (λ d. ap as_depth (within.1 d) ∙ depth-again run n d))

at-each : (g : ConstJob → ℕ) (h : ConstJob → Option ℕ) (jobs : List ConstJob) → ((job : ConstJob) → g job ≡ as_number (h job)) → (c : ℕ) →
    slice_index (map g jobs) c ≡ as_number (option_map_or h (slice_get jobs c) None)
at-each g h [] same c = refl
at-each g h (job ∷ jobs) same zero = same job
at-each g h (job ∷ jobs) same (suc c) = at-each g h jobs same c

-- the depths that are one greater at most
abbrev pub deeper : Constants → List ℕ → List ℕ
deeper run depths = map (λ (job : ConstJob). over_names depths job.names) run.jobs

pub round-more : (run : Constants) (n : ℕ) (depths : List ℕ) → AreDepthsWithin run n depths → AreDepthsWithin run (suc n) (deeper run depths)
unfolding depth_within
round-more run n depths within = (
  length-map run.jobs (λ (job : ConstJob). over_names depths job.names),
  λ c. at-each (λ (job : ConstJob). over_names depths job.names)
      (λ (job : ConstJob). option_map suc (greatest (map (λ d. depth_within run n d) job.names))) run.jobs
      (λ job. over-is run n depths job.names within) c,
)

-- a depth more, for the job at a place
one-more : (depths : List ℕ) (jobs : List ConstJob) (c : ℕ) (job : ConstJob) → slice_get jobs c ≡ Some job →
    map (λ (j : ConstJob). over_names depths j.names) (take (suc c) jobs)
    ≡ map (λ (j : ConstJob). over_names depths j.names) (take c jobs) ++ over_names depths job.names ∷ []
one-more depths [] c job at = absurd cc
one-more depths (j ∷ jobs) zero job at = let same : j ≡ job = cc in ap (λ (x : ConstJob). over_names depths x.names ∷ []) same
one-more depths (j ∷ jobs) (suc c) job at = ap (λ ns. over_names depths j.names ∷ ns) (one-more depths jobs c job at)

pub next-depth : (depths : List ℕ) (jobs : List ConstJob) (c : ℕ) (job : ConstJob) → slice_get jobs c ≡ Some job →
    map (λ (j : ConstJob). over_names depths j.names) (take (c + 1) jobs)
    ≡ map (λ (j : ConstJob). over_names depths j.names) (take c jobs) ++ over_names depths job.names ∷ []
next-depth depths jobs c job at =
    ap (λ n. map (λ (j : ConstJob). over_names depths j.names) (take n jobs)) (let e : c + 1 ≡ suc c = omega arith in e) ∙ one-more depths jobs c job at

-- no depth is above 64
pub none-above : (run : Constants) (n : ℕ) (depths : List ℕ) → n ≤ 64 → AreDepthsWithin run n depths → (c : ℕ) → slice_index depths c ≤ 64
none-above run n depths low within c = let small = number-small run n c in let is = within.1 c in omega (arith, is)

-- none at first
zeros : (n c : ℕ) → slice_index (replicate n 0) c ≡ 0
zeros zero c = refl
zeros (suc n) zero = refl
zeros (suc n) (suc c) = zeros n c

pub round-none : (run : Constants) → AreDepthsWithin run 0 (replicate (length run.jobs) 0)
unfolding depth_within
round-none run = (length-replicate (length run.jobs) 0, λ c. zeros (length run.jobs) c)

-- depths that a round does not change are those of all later rounds
pub round-still : (run : Constants) (n : ℕ) (depths : List ℕ) → deeper run depths ≡ depths → AreDepthsWithin run n depths → (m : ℕ) →
    AreDepthsWithin run (n + m) depths
round-still run n depths still within zero = subst (λ k. AreDepthsWithin run k depths) (let e : n ≡ n + 0 = omega arith in e) within
round-still run n depths still within (suc m) =
    subst (λ k. AreDepthsWithin run k depths) (let e : suc (n + m) ≡ n + suc m = omega arith in e)
    (subst (AreDepthsWithin run (suc (n + m))) still (round-more run (n + m) depths (round-still run n depths still within m)))

-- after 64 rounds they are the depths
pub round-all : (run : Constants) (depths : List ℕ) → AreDepthsWithin run 64 depths → AreDepths run depths
unfolding most_depth
round-all run depths within = record { count = within.0; each = λ c there. within.1 c }

pub round-early : (run : Constants) (n : ℕ) (depths : List ℕ) → n ≤ 64 → deeper run depths ≡ depths → AreDepthsWithin run n depths → AreDepths run depths
round-early run n depths low still within =
    round-all run depths (subst (λ k. AreDepthsWithin run k depths) (let e : n + (64 - n) ≡ 64 = omega arith in e)
    (round-still run n depths still within (64 - n)))
