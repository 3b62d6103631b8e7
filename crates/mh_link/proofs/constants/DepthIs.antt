-- The depth of a constant in the depths of those that it names.
use Rattle.std.proofs.Common.{◌≡◌, refl, sym, ◌∙◌, ap, subst, ℕ, zero, suc, ◌<◌, ◌≤◌, Bool, true, false, if◌then◌else◌, List, [], ◌∷◌, Option, Some, None, arith}
use Rattle.std.specs.Prelude.{max, map, option_map, slice_get, nat_le}
use Rattle.std.specs.Option.{option_map_or}
use Rattle.std.proofs.lemmas.Bool.{cond-false, cond-true, le-leb, leb-false, leb-true, lt-leb}
use Rattle.mh_jobs.specs.declared.constants.ConstJob.{ConstJob}
use Rattle.mh_link.specs.Named.{Constants}
use Rattle.mh_link.specs.Depth.{cut, depth, depth_within, greatest, most_depth}
use Rattle.mh_link.proofs.constants.Depths.{depth-some}

cut-small : (n k : ℕ) → k ≤ n → cut n (Some k) ≡ Some k
cut-small n k low = cond-true (nat_le k n) (Some k) None (le-leb k n low)

cut-great : (n k : ℕ) → n < k → cut n (Some k) ≡ None
cut-great n k high = cond-false (nat_le k n) (Some k) None (lt-leb k n high)

cut-none : (n k : ℕ) (o : Option ℕ) → n < k → cut n (option_map (max k) o) ≡ None
cut-none n k None high = refl
cut-none n k (Some g) high = cut-great n (max k g) (omega arith)

cut-max : (n k : ℕ) (o : Option ℕ) → k ≤ n → option_map (max k) (cut n o) ≡ cut n (option_map (max k) o)
cut-max n k None low = refl
cut-max n k (Some g) low = cases (nat_le g n) refl
  where
    cases : (b : Bool) → nat_le g n ≡ b → option_map (max k) (if b then Some g else None) ≡ cut n (Some (max k g))
    cases true is = sym (cut-small n (max k g) (let l = leb-true g n is in omega arith))
    cases false is = sym (cut-great n (max k g) (let l = leb-false g n is in omega arith))

cut-greatest : (n : ℕ) (f : ℕ → Option ℕ) (xs : List ℕ) → greatest (map (λ x. cut n (f x)) xs) ≡ cut n (greatest (map f xs))
cut-greatest n f [] = sym (cut-small n 0 (omega arith))
cut-greatest n f (x ∷ xs) = cases (f x) (cut-greatest n f xs)
  where
    cases : (o : Option ℕ) → greatest (map (λ x. cut n (f x)) xs) ≡ cut n (greatest (map f xs)) →
        greatest (cut n o ∷ map (λ x. cut n (f x)) xs) ≡ cut n (greatest (o ∷ map f xs))
    cases None rest = refl
    cases (Some k) rest = within (nat_le k n) refl
      where
        within : (b : Bool) → nat_le k n ≡ b →
            greatest ((if b then Some k else None) ∷ map (λ x. cut n (f x)) xs) ≡ cut n (option_map (max k) (greatest (map f xs)))
        within true is = ap (λ o. option_map (max k) o) rest ∙ cut-max n k (greatest (map f xs)) (leb-true k n is)
        within false is = sym (cut-none n k (greatest (map f xs)) (leb-false k n is))

cut-suc : (n : ℕ) (o : Option ℕ) → option_map suc (cut n o) ≡ cut (suc n) (option_map suc o)
cut-suc n None = refl
cut-suc n (Some k) = cases (nat_le k n) refl
  where
    cases : (b : Bool) → nat_le k n ≡ b → option_map suc (if b then Some k else None) ≡ cut (suc n) (Some (suc k))
    cases true is = sym (cut-small (suc n) (suc k) (let l = leb-true k n is in omega arith))
    cases false is = sym (cut-great (suc n) (suc k) (let l = leb-false k n is in omega arith))

-- the depth that one has by the depths of those that it names
abbrev over : Constants → (ℕ → Option ℕ) → ℕ → Option ℕ
over run f c = option_map_or (λ (job : ConstJob). option_map suc (greatest (map f job.names))) (slice_get run.jobs c) None

within-suc : (run : Constants) (n c : ℕ) → depth_within run (suc n) c ≡ over run (λ d. depth_within run n d) c
unfolding depth_within
within-suc run n c = refl

within-zero : (run : Constants) (c : ℕ) → depth_within run zero c ≡ None
unfolding depth_within
within-zero run c = refl

-- a depth within a bound, by the depths of those that it names within the next one
over-cut : (run : Constants) (n c : ℕ) (f g : ℕ → Option ℕ) → ((d : ℕ) → f d ≡ cut n (g d)) → over run f c ≡ cut (suc n) (over run g c)
over-cut run n c f g same = cases (slice_get run.jobs c)
  where
    map-same : (xs : List ℕ) → map f xs ≡ map (λ d. cut n (g d)) xs
    map-same [] = refl
    map-same (x ∷ xs) = ap (λ o. o ∷ map f xs) (same x) ∙ ap (λ os. cut n (g x) ∷ os) (map-same xs)

    cases : (o : Option ConstJob) →
        option_map_or (λ (job : ConstJob). option_map suc (greatest (map f job.names))) o None
        ≡ cut (suc n) (option_map_or (λ (job : ConstJob). option_map suc (greatest (map g job.names))) o None)
    cases None = refl
    cases (Some job) =
        ap (λ ds. option_map suc (greatest ds)) (map-same job.names)
        ∙ (ap (λ o. option_map suc o) (cut-greatest n g job.names) ∙ cut-suc n (greatest (map g job.names)))

pub within-cut : (run : Constants) (n c : ℕ) → depth_within run n c ≡ cut n (depth_within run (suc n) c)
within-cut run zero c = within-zero run c ∙ cases (depth_within run 1 c) refl
  where
    cases : (o : Option ℕ) → depth_within run 1 c ≡ o → None ≡ cut 0 o
    cases None e = refl
    cases (Some k) e = sym (cut-great 0 k (depth-some run 1 c k e))
within-cut run (suc n) c =
    within-suc run n c
    ∙ (over-cut run n c (λ d. depth_within run n d) (λ d. depth_within run (suc n) d) (within-cut run n)
    ∙ ap (λ o. cut (suc n) o) (sym (within-suc run (suc n) c)))

depth-at : (run : Constants) (m n c : ℕ) → m ≡ suc n → depth_within run m c ≡ cut m (over run (λ d. depth_within run m d) c)
depth-at run m n c e =
    subst (λ m. depth_within run m c ≡ cut m (over run (λ d. depth_within run m d) c)) (sym e)
    (within-cut run (suc n) c ∙ ap (λ o. cut (suc n) o) (within-suc run (suc n) c))

pub depth-is : (run : Constants) (c : ℕ) → depth run c ≡ cut most_depth (over run (λ d. depth run d) c)
unfolding most_depth
depth-is run c = depth-at run 64 63 c refl
