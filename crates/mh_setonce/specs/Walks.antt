-- Walks, as lists of the nodes that were learnt of a chain.
use Rattle.std.specs.Prelude.{◌≡◌, ◌≢◌, ℕ, List, ◌++◌, length, min, take, slice_get, Option, Some, None}
use denote.Ref.{Bor}

-- the new walk begins with the nodes so far
abbrev pub StartsWith : {V : Type 0} → List V → List V → Type 0
StartsWith {V} more nodes = (rest : List V) × (more ≡ nodes ++ rest)

-- no two nodes have the same key
abbrev pub Distinct : {V K : Type 0} → (V → K) → List V → Type 0
Distinct {V} key nodes = (i j : ℕ) (v w : V) → slice_get nodes i ≡ Some v → slice_get nodes j ≡ Some w → key v ≡ key w → i ≡ j

-- no node has the key
abbrev pub Lacks : {V K : Type 0} → (V → K) → List V → K → Type 0
Lacks {V} key nodes k = (i : ℕ) (v : V) → slice_get nodes i ≡ Some v → key v ≢ k

-- this is a node with the key
abbrev pub Has : {V K : Type 0} → (V → K) → List V → K → V → Type 0
Has key nodes k v = (i : ℕ) × (slice_get nodes i ≡ Some v) × (key v ≡ k)

-- the node with the key, or none if no node has it
abbrev pub FindsNode : {V K : Type 0} → (V → K) → List V → K → Option (Bor V) → Type 0
FindsNode key nodes k None = Lacks key nodes k
FindsNode key nodes k (Some node) = Has key nodes k node.now

-- this many nodes are those of the shorter walk, and the other walk begins with them
abbrev pub Meet : {V : Type 0} → List V → List V → ℕ → Type 0
Meet a b n = (n ≡ min (length a) (length b)) × (take n a ≡ take n b)
