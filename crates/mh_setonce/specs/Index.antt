-- An index of items by the buckets of their hashes: for each bucket its latest place, and for each place the one before it in its bucket.
use Rattle.std.specs.Prelude.{◌≡◌, ℕ, suc, ◌<◌, ◌≤◌, ◌%◌, ◌^◌, ◌⊎◌, List, length, map, slice_index}

-- the buckets of hashes, if there are this many buckets
abbrev pub buckets_of : ℕ → List ℕ → List ℕ
buckets_of count hashes = map (λ hash. hash % count) hashes

-- places are written one higher, and 0 is none
pub record IsIndex (buckets newest before : List ℕ) : Type 0 where
  pub paired : length before ≡ length buckets
  pub newer : (i : ℕ) → i < length buckets → i < slice_index newest (slice_index buckets i)
  pub newest_is : (m k : ℕ) → slice_index newest m ≡ suc k → (k < length buckets) × (slice_index buckets k ≡ m)
  pub later : (i j : ℕ) → i < length buckets → j < i → slice_index buckets j ≡ slice_index buckets i → j < slice_index before i
  pub before_is : (i k : ℕ) → i < length buckets → slice_index before i ≡ suc k → (k < i) × (slice_index buckets k ≡ slice_index buckets i)

-- a power of two
abbrev pub IsPower : ℕ → Type 0
IsPower n = (k : ℕ) × (n ≡ 2 ^ k)

-- how many buckets there may be
abbrev pub IsSize : ℕ → Type 0
IsSize n = (n ≡ 0) ⊎ IsPower n

-- the index of these hashes, with no more items than buckets
pub record AreIndexed (hashes newest before : List ℕ) : Type 0 where
  pub index : IsIndex (buckets_of (length newest) hashes) newest before
  pub fits : length hashes ≤ length newest
  pub sized : IsSize (length newest)

-- the place, written one higher, is 0, or that of an item in the bucket of the hash
abbrev pub LeadsTo : List ℕ → List ℕ → ℕ → ℕ → Type 0
LeadsTo hashes newest hash place = (k : ℕ) → place ≡ suc k → (k < length hashes) × (slice_index hashes k % length newest ≡ hash % length newest)
