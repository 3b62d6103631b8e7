-- An item sought by its key, along the places of the key's hash.
use Rattle.std.proofs.Common.{◌≡◌, ◌≢◌, ℕ, ◌+◌, ◌<◌, ◌≤◌, List, length, sym, ap, ◌∙◌, arith, Option, Some, None}
use Rattle.std.specs.Prelude.{slice_get, slice_index}
use Rattle.std.specs.Option.{option_map}
use native.Mathlib.Decide.{dec_lt}
use Rattle.std.proofs.lemmas.Option.{slice_get-map, get_or_from_slice_get}
use Rattle.mh_setonce.specs.Places.{IsLatest, hashes_of}
use Rattle.mh_setonce.specs.Walks.{Lacks}

-- how many places are left where the search stands at this one
abbrev pub left_of : Option ℕ → ℕ
left_of None = 0
left_of (Some place) = place + 1

module _ {V K : Type 0} (key : V → K) (hash : K → ℕ) where
  -- what the search for a key knows: no item from a bound on has it, and here is the latest place below the bound that has its hash
  pub record Seeks (items : List V) (k : K) (here : Option ℕ) : Type 0 where
    pub bound : ℕ
    pub latest : IsLatest (hashes_of key hash items) (hash k) bound here
    pub within : bound ≤ length items
    pub lacks : (i : ℕ) (v : V) → bound ≤ i → slice_get items i ≡ Some v → key v ≢ k

  -- the hash at a place
  pub hash-at : (items : List V) (i : ℕ) (v : V) → slice_get items i ≡ Some v → slice_index (hashes_of key hash items) i ≡ hash (key v)
  hash-at items i v at =
      get_or_from_slice_get (hashes_of key hash items) i (hash (key v)) 0 (slice_get-map (λ w. hash (key w)) items i ∙ ap (option_map (λ w. hash (key w))) at)

  -- the place is that of an item
  pub seeks-place : (items : List V) (k : K) (place : ℕ) → Seeks items k (Some place) → place < length items
  seeks-place items k place s = omega (arith, s.latest.0, s.within)

  -- the search goes on
  pub seeks-next : (items : List V) (hashes : List ℕ) (k : K) (place : ℕ) (v : V) (here : Option ℕ) → hashes ≡ hashes_of key hash items →
      Seeks items k (Some place) → slice_get items place ≡ Some v → key v ≢ k → IsLatest hashes (slice_index hashes place) place here → Seeks items k here
  seeks-next items hashes k place v here all s at other latest = record {
    bound = place;
    latest = rw (s.latest.1) at (rw (all) at latest);
    within = omega (arith, seeks-place items k place s);
    lacks = λ i w past at_i e. cases i w past at_i e (dec_lt i s.bound) (dec_lt place i);
  }
    where
      cases : (i : ℕ) (w : V) → place ≤ i → slice_get items i ≡ Some w → key w ≡ k → Dec (i < s.bound) → Dec (place < i) → ⊥
      cases i w past at_i e (no not) _ = s.lacks i w (omega arith) at_i e
      cases i w past at_i e (yes low) (yes above) = s.latest.2 i above low (hash-at items i w at_i ∙ ap hash e)
      cases i w past at_i e (yes low) (no not) =
          let same : i ≡ place = omega arith in
          let both : Some w ≡ Some v = sym at_i ∙ (ap (slice_get items) same ∙ at) in
          let is : w ≡ v = cc in
          other (ap key (sym is) ∙ e)

  -- the search has ended
  pub seeks-none : (items : List V) (k : K) → Seeks items k None → Lacks key items k
  seeks-none items k s i v at e = cases (dec_lt i s.bound)
    where
      cases : Dec (i < s.bound) → ⊥
      cases (yes low) = s.latest i low (hash-at items i v at ∙ ap hash e)
      cases (no not) = s.lacks i v (omega arith) at e
