-- Walks of many chains, one of each.
use Rattle.std.specs.Prelude.{◌≡◌, ℕ, ◌<◌, ◌≤◌, ◌⊎◌, List, length, map, slice_get, Some}
use Rattle.mh_setonce.specs.Views.{ChainView, WalkView}
use Rattle.mh_setonce.specs.Walks.{Meet}

-- the chains of walks
abbrev pub chains_of : {V : Type 0} → List (WalkView V) → List ChainView
chains_of walks = map (λ w. w.chain) walks

-- of two walks of one chain, one begins with the other
abbrev pub DoMeet : {V : Type 0} → List (WalkView V) → List (WalkView V) → Type 0
DoMeet {V} walks others = (c : ℕ) (a b : WalkView V) → slice_get walks c ≡ Some a → slice_get others c ≡ Some b → (n : ℕ) × Meet a.nodes b.nodes n

-- the longer of two walks
abbrev pub IsLonger : {V : Type 0} → WalkView V → WalkView V → WalkView V → Type 0
IsLonger walk other kept = ((kept ≡ walk) × (length other.nodes ≤ length walk.nodes)) ⊎ ((kept ≡ other) × (length walk.nodes < length other.nodes))
