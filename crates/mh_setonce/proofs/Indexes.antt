-- The index of items by their buckets, with one more item.
use Rattle.std.proofs.Common.{◌≡◌, ◌≢◌, ℕ, suc, ◌+◌, ◌<◌, List, [], ◌∷◌, ◌++◌, length, set, sym, ap, ◌∙◌, subst, arith, length-append}
use Rattle.std.specs.Prelude.{slice_index}
use native.Mathlib.Decide.{ℕ_discrete, dec_lt}
use Rattle.std.proofs.lemmas.List.{get_or_append_left, get_or-append-add, get_or-set_same, get_or-set_other}
use Rattle.mh_setonce.specs.Index.{IsIndex}

-- one item put after the others
pub at-old : (xs : List ℕ) (y i : ℕ) → i < length xs → slice_index (xs ++ y ∷ []) i ≡ slice_index xs i
at-old xs y i low = get_or_append_left xs (y ∷ []) 0 i low

pub at-new : (xs : List ℕ) (y i : ℕ) → i ≡ length xs → slice_index (xs ++ y ∷ []) i ≡ y
at-new xs y i e = let f : i ≡ length xs + 0 = omega arith in ap (λ k. slice_index (xs ++ y ∷ []) k) f ∙ get_or-append-add xs (y ∷ []) 0 0

pub longer : (xs : List ℕ) (y : ℕ) → length (xs ++ y ∷ []) ≡ length xs + 1
longer xs y = length-append xs (y ∷ [])

module _ (buckets newest before : List ℕ) (m place : ℕ) (old : IsIndex buckets newest before) (small : m < length newest)
    (is : place ≡ slice_index newest m) where
  there : slice_index (set newest m (length buckets + 1)) m ≡ length buckets + 1
  there = get_or-set_same newest m (length buckets + 1) 0 small

  other : (k : ℕ) → k ≢ m → slice_index (set newest m (length buckets + 1)) k ≡ slice_index newest k
  other k ne = get_or-set_other newest m k (length buckets + 1) 0 ne

  same_place : (i : ℕ) → i < length buckets → slice_index (buckets ++ m ∷ []) i ≡ slice_index buckets i
  same_place i low = at-old buckets m i low

  at_bucket : (i k : ℕ) → i < length buckets + 1 → Dec (k ≡ m) → (k ≢ m → i < slice_index newest k) → i < slice_index (set newest m (length buckets + 1)) k
  at_bucket i k low (yes e) h = subst (λ v. i < slice_index (set newest m (length buckets + 1)) v) (sym e) (subst (λ v. i < v) (sym there) low)
  at_bucket i k low (no ne) h = subst (λ v. i < v) (sym (other k ne)) (h ne)

  pub newer-more : (i : ℕ) → i < length (buckets ++ m ∷ []) → i < slice_index (set newest m (length buckets + 1)) (slice_index (buckets ++ m ∷ []) i)
  newer-more i low = cases (dec_lt i (length buckets))
    where
      P : ℕ → Type 0
      P k = i < slice_index (set newest m (length buckets + 1)) k

      up : i < length buckets + 1
      up = omega (arith, low, longer buckets m)

      cases : Dec (i < length buckets) → P (slice_index (buckets ++ m ∷ []) i)
      cases (yes lt) = at_bucket i (slice_index (buckets ++ m ∷ []) i) up (ℕ_discrete _ _) (λ ne. subst (λ k. i < slice_index newest k) (sym (same_place i lt))
          (old.newer i lt))
      cases (no not) = at_bucket i (slice_index (buckets ++ m ∷ []) i) up (ℕ_discrete _ _)
          (λ ne. absurd (ne (at-new buckets m i (omega (arith, longer buckets m)))))

  pub newest_is-more : (k j : ℕ) → slice_index (set newest m (length buckets + 1)) k ≡ suc j → (j < length (buckets ++ m ∷ []))
      × (slice_index (buckets ++ m ∷ []) j ≡ k)
  newest_is-more k j e = cases (ℕ_discrete k m)
    where
      cases : Dec (k ≡ m) → (j < length (buckets ++ m ∷ [])) × (slice_index (buckets ++ m ∷ []) j ≡ k)
      cases (yes same) =
          let f : length buckets + 1 ≡ suc j = sym there ∙ (ap (slice_index (set newest m (length buckets + 1))) (sym same) ∙ e) in
          let last : j ≡ length buckets = omega (arith, f) in
          (omega (arith, longer buckets m), at-new buckets m j last ∙ sym same)
      cases (no ne) =
          let h = old.newest_is k j (sym (other k ne) ∙ e) in
          (omega (arith, longer buckets m, h.0), same_place j h.0 ∙ h.1)

  pub later-more : (i j : ℕ) → i < length (buckets ++ m ∷ []) → j < i → slice_index (buckets ++ m ∷ []) j ≡ slice_index (buckets ++ m ∷ []) i →
      j < slice_index (before ++ place ∷ []) i
  later-more i j low lower e = cases (dec_lt i (length buckets))
    where
      cases : Dec (i < length buckets) → j < slice_index (before ++ place ∷ []) i
      cases (yes lt) =
          let h = old.later i j lt lower (sym (same_place j (omega (arith, lt, lower))) ∙ (e ∙ same_place i lt)) in
          subst (λ v. j < v) (sym (at-old before place i (omega (arith, old.paired)))) h
      cases (no not) =
          let last : i ≡ length buckets = omega (arith, longer buckets m) in
          let low_j : j < length buckets = omega arith in
          let f : slice_index buckets j ≡ m = sym (same_place j low_j) ∙ (e ∙ at-new buckets m i last) in
          let h : j < slice_index newest m = subst (λ k. j < slice_index newest k) f (old.newer j low_j) in
          subst (λ v. j < v) (is' last) h
        where
          is' : i ≡ length buckets → slice_index newest m ≡ slice_index (before ++ place ∷ []) i
          is' last = sym is ∙ sym (at-new before place i (omega (arith, old.paired)))

  pub before_is-more : (i k : ℕ) → i < length (buckets ++ m ∷ []) → slice_index (before ++ place ∷ []) i ≡ suc k →
      (k < i) × (slice_index (buckets ++ m ∷ []) k ≡ slice_index (buckets ++ m ∷ []) i)
  before_is-more i k low e = cases (dec_lt i (length buckets))
    where
      cases : Dec (i < length buckets) → (k < i) × (slice_index (buckets ++ m ∷ []) k ≡ slice_index (buckets ++ m ∷ []) i)
      cases (yes lt) =
          let h = old.before_is i k lt (sym (at-old before place i (omega (arith, old.paired))) ∙ e) in
          (h.0, same_place k (omega (arith, h.0)) ∙ (h.1 ∙ sym (same_place i lt)))
      cases (no not) =
          let last : i ≡ length buckets = omega (arith, longer buckets m) in
          let h = old.newest_is m k (sym is ∙ (sym (at-new before place i (omega (arith, old.paired))) ∙ e)) in
          (omega (arith, h.0), same_place k h.0 ∙ (h.1 ∙ sym (at-new buckets m i last)))

pub is_index-more : (buckets newest before : List ℕ) (m place : ℕ) → IsIndex buckets newest before → m < length newest → place ≡ slice_index newest m
    → IsIndex (buckets ++ m ∷ []) (set newest m (length buckets + 1)) (before ++ place ∷ [])
is_index-more buckets newest before m place old small is = record {
  paired = longer before place ∙ (ap (λ k. k + 1) old.paired ∙ sym (longer buckets m));
  newer = newer-more buckets newest before m place old small is;
  newest_is = newest_is-more buckets newest before m place old small is;
  later = later-more buckets newest before m place old small is;
  before_is = before_is-more buckets newest before m place old small is;
}
