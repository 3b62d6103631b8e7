-- Items by their hashes: what contracts see, and at which places the items of one hash are.
use Rattle.std.specs.Prelude.{◌≡◌, ◌≢◌, ℕ, ◌<◌, List, map, slice_index, Option, Some, None}

-- the hash of the item at each place, and how many more items can be added without memory
pub record PlacesView : Type 0 where
  pub hashes : List ℕ
  pub room : ℕ

-- the latest place below a bound whose item has the hash, or none if no item below the bound has it
abbrev pub IsLatest : List ℕ → ℕ → ℕ → Option ℕ → Type 0
IsLatest hashes hash bound None = (i : ℕ) → i < bound → slice_index hashes i ≢ hash
IsLatest hashes hash bound (Some place) = (place < bound) × (slice_index hashes place ≡ hash) × ((i : ℕ) → place < i → i < bound → slice_index hashes i ≢ hash)

-- the hashes of the keys of items
abbrev pub hashes_of : {V K : Type 0} → (V → K) → (K → ℕ) → List V → List ℕ
hashes_of key hash items = map (λ v. hash (key v)) items
