-- The latest place of a hash, found along the places of its bucket.
use Rattle.std.proofs.Common.{◌≡◌, ◌≢◌, ℕ, zero, suc, ◌-◌, ◌<◌, ◌≤◌, ◌%◌, List, length, sym, refl, ap, ◌∙◌, subst, arith, Option, Some, None}
use Rattle.std.specs.Prelude.{slice_index}
use native.Mathlib.Decide.{dec_lt}
use Rattle.std.proofs.Math.Nat.{mod-lt}
use Rattle.std.specs.Prelude.{get_or}
use Rattle.mh_setonce.specs.Places.{IsLatest}
use Rattle.mh_setonce.specs.Index.{AreIndexed, LeadsTo, buckets_of}
use Rattle.mh_setonce.proofs.Buckets.{bucket-at, bucket-count, read-is}

-- no place from here on, and below the bound, has the hash
abbrev pub LacksPast : List ℕ → ℕ → ℕ → ℕ → Type 0
LacksPast hashes hash place bound = (i : ℕ) → place ≤ i → i < bound → slice_index hashes i ≢ hash

-- what the search knows at a place, which is written one higher
pub record Sought (hashes newest : List ℕ) (hash place bound : ℕ) : Type 0 where
  pub leads : LeadsTo hashes newest hash place
  pub below : place ≤ bound
  pub lacks : LacksPast hashes hash place bound

-- the place before one of the bucket
pub leads-before : (hashes newest before : List ℕ) (hash k place : ℕ) → AreIndexed hashes newest before → k < length hashes →
    slice_index hashes k % length newest ≡ hash % length newest → place ≡ slice_index before k → LeadsTo hashes newest hash place × (place < suc k)
leads-before hashes newest before hash k place all low same is = (leads, below place is)
  where
    n : ℕ
    n = length newest

    counted : length (buckets_of n hashes) ≡ length hashes
    counted = bucket-count n hashes

    below : (p : ℕ) → p ≡ slice_index before k → p < suc k
    below zero e = omega arith
    below (suc j) e = omega (arith, (all.index.before_is k j (omega (arith, low, counted)) (sym e)).0)

    leads : LeadsTo hashes newest hash place
    leads j e =
        let h = all.index.before_is k j (omega (arith, low, counted)) (sym is ∙ e) in
        let low_j : j < length hashes = omega (arith, low, h.0) in
        (low_j, sym (bucket-at n hashes j low_j) ∙ (h.1 ∙ (bucket-at n hashes k low ∙ same)))

-- the latest place of a bucket
pub leads-newest : (hashes newest before : List ℕ) (hash place : ℕ) → AreIndexed hashes newest before → place ≡ slice_index newest (hash % length newest) →
    LeadsTo hashes newest hash place
leads-newest hashes newest before hash place all is k e =
    let h = all.index.newest_is (hash % length newest) k (sym is ∙ e) in
    let low : k < length hashes = omega (arith, h.0, bucket-count (length newest) hashes) in
    (low, sym (bucket-at (length newest) hashes k low) ∙ h.1)

-- no place past the latest of its bucket has the hash
pub lacks-past-newest : (hashes newest before : List ℕ) (hash place : ℕ) → AreIndexed hashes newest before →
    place ≡ slice_index newest (hash % length newest) → LacksPast hashes hash place (length hashes)
lacks-past-newest hashes newest before hash place all is i past low same =
    let n = all.index.newer i (omega (arith, low, bucket-count (length newest) hashes)) in
    let here : slice_index (buckets_of (length newest) hashes) i ≡ hash % length newest =
    bucket-at (length newest) hashes i low ∙ ap (λ v. v % length newest) same in
    omega (arith, past, is, subst (λ k. i < slice_index newest k) here n)

-- no place between one and the one before it in its bucket has the hash
pub lacks-between : (hashes newest before : List ℕ) (hash k place : ℕ) → AreIndexed hashes newest before → k < length hashes →
    slice_index hashes k % length newest ≡ hash % length newest → place ≡ slice_index before k → LacksPast hashes hash place k
lacks-between hashes newest before hash k place all low bucket is i past below same =
    let n : ℕ = length newest in
    let low_i : i < length hashes = omega (arith, low, below) in
    let counted : length (buckets_of n hashes) ≡ length hashes = bucket-count n hashes in
    let e : slice_index (buckets_of n hashes) i ≡ slice_index (buckets_of n hashes) k =
    bucket-at n hashes i low_i ∙ (ap (λ v. v % n) same ∙ (sym bucket ∙ sym (bucket-at n hashes k low))) in
    omega (arith, past, is, all.index.later k i (omega (arith, low, counted)) below e)

-- a place is no higher than the last item
pub low-end : (hashes newest : List ℕ) (hash place : ℕ) → LeadsTo hashes newest hash place → place ≤ length hashes
low-end hashes newest hash zero leads = omega arith
low-end hashes newest hash (suc k) leads = omega (arith, (leads k refl).0)

-- the latest place of a bucket that was read
pub first-read : (hashes newest before : List ℕ) (hash size bucket place : ℕ) → AreIndexed hashes newest before → size ≡ length newest → 0 < size →
    bucket ≡ hash % size → place ≡ get_or newest bucket place →
    LeadsTo hashes newest hash place × LacksPast hashes hash place (length hashes) × (place ≤ length hashes)
first-read hashes newest before hash size bucket place all many some b is =
    let small : bucket < length newest = omega (arith, many, b, mod-lt hash some) in
    let at : place ≡ slice_index newest (hash % length newest) =
    read-is newest bucket place is small ∙ (ap (slice_index newest) b ∙ ap (λ k. slice_index newest (hash % k)) many) in
    let leads = leads-newest hashes newest before hash place all at in
    (leads, lacks-past-newest hashes newest before hash place all at, low-end hashes newest hash place leads)

-- the place before one that was read
pub next-read : (hashes newest before : List ℕ) (k hash place : ℕ) → AreIndexed hashes newest before → k < length hashes →
    hash ≡ get_or hashes k hash → place ≡ get_or before k place →
    (hash ≡ slice_index hashes k) × LeadsTo hashes newest hash place × LacksPast hashes hash place k × (place ≤ k)
next-read hashes newest before k hash place all low here is =
    let h : hash ≡ slice_index hashes k = read-is hashes k hash here low in
    let paired : length before ≡ length hashes = all.index.paired ∙ bucket-count (length newest) hashes in
    let at : place ≡ slice_index before k = read-is before k place is (omega (arith, low, paired)) in
    let same = ap (λ v. v % length newest) (sym h) in
    let next = leads-before hashes newest before hash k place all low same at in
    (h, next.0, lacks-between hashes newest before hash k place all low same at, omega (arith, next.1))

-- the search at the next place
pub sought-next : (hashes newest before : List ℕ) (hash here place bound : ℕ) → AreIndexed hashes newest before → Sought hashes newest hash here bound →
    0 < here → slice_index hashes (here - 1) ≢ hash → place ≡ slice_index before (here - 1) → Sought hashes newest hash place bound × (place < here)
sought-next hashes newest before hash zero place bound all so some other is = absurd (omega arith)
sought-next hashes newest before hash (suc k) place bound all so some other' is' =
    let at = so.leads k refl in
    let next = leads-before hashes newest before hash k place all at.0 at.1 is in
    let between = lacks-between hashes newest before hash k place all at.0 at.1 is in
    let below : place ≤ bound = omega (arith, next.1, so.below) in
    (record { leads = next.0; below = below; lacks = λ i past low same. cases i past low same (dec_lt k i) (dec_lt i k) }, next.1)
  where
    down : suc k - 1 ≡ k
    down = omega arith

    other : slice_index hashes k ≢ hash
    other e = other' (ap (slice_index hashes) down ∙ e)

    is : place ≡ slice_index before k
    is = is' ∙ ap (slice_index before) down

    cases : (i : ℕ) → place ≤ i → i < bound → slice_index hashes i ≡ hash → Dec (k < i) → Dec (i < k) → ⊥
    cases i past low same (yes above) _ = so.lacks i (omega arith) low same
    cases i past low same (no not) (yes below) =
        let at = so.leads k refl in lacks-between hashes newest before hash k place all at.0 at.1 is i past below same
    cases i past low same (no not) (no not') = let e : i ≡ k = omega arith in other (ap (slice_index hashes) (sym e) ∙ same)

-- the latest place below a bound is the latest below a higher one, where no place between them has the hash
pub latest-above : (hashes : List ℕ) (hash low bound : ℕ) (found : Option ℕ) → low ≤ bound → LacksPast hashes hash low bound →
    IsLatest hashes hash low found → IsLatest hashes hash bound found
latest-above hashes hash low bound None le lacks none = λ i below same. above i below same (dec_lt i low)
  where
    above : (i : ℕ) → i < bound → slice_index hashes i ≡ hash → Dec (i < low) → ⊥
    above i below same (yes lt) = none i lt same
    above i below same (no not) = lacks i (omega arith) below same
latest-above hashes hash low bound (Some place) le lacks found = (omega (arith, found.0), found.1, λ i past below same. above i past below same (dec_lt i low))
  where
    above : (i : ℕ) → place < i → i < bound → slice_index hashes i ≡ hash → Dec (i < low) → ⊥
    above i past below same (yes lt) = found.2 i past lt same
    above i past below same (no not) = lacks i (omega arith) below same
