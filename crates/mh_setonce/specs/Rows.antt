-- Rows of cells, and what a walk keeps of the cells of its chain.
use Rattle.std.specs.Prelude.{◌≡◌, ℕ, ◌≤◌, ◌*◌, ◌⊎◌, List, [], ◌∷◌, ◌++◌, length, slice_get, Some, refl}
use Rattle.std.specs.Coded.{Coded, code_by, coded×, coded_ℕ, coded_list}
use Rattle.mh_setonce.specs.Views.{ChainView, chain_coded}
use Rattle.mh_setonce.specs.Learnings.{LearntView, node_of, nodes_of, names_of}
use Rattle.mh_setonce.specs.Places.{hashes_of}
use Rattle.mh_setonce.specs.Walks.{StartsWith, Distinct, Lacks}

-- the names of the cells of rows, one row after the other
abbrev pub cells_of : List (List ℕ) → List ℕ
cells_of [] = []
cells_of (row ∷ rows) = row ++ cells_of rows

-- each row has this many cells
abbrev pub AreSized : ℕ → List (List ℕ) → Type 0
AreSized size rows = (i : ℕ) (row : List ℕ) → slice_get rows i ≡ Some row → length row ≡ size

-- the boxes of rows of this size have place for this many cells
abbrev pub HasRoom : ℕ → List ℕ → ℕ → Type 0
HasRoom size boxes room = room ≤ length boxes * size

-- what is known of the rows of a chain: the chain, and the names of the cells of the rows so far
pub record RowsView : Type 0 where
  pub chain : ChainView
  pub cells : List ℕ

-- what is known of rows is stored as the pair of its fields
abbrev pub rows_coded : Coded RowsView
rows_coded = code_by (ChainView × List ℕ) (coded× chain_coded (coded_list coded_ℕ)) (λ r. (r.chain, r.cells)) (λ p. record { chain = p.0; cells = p.1 })
    (λ _. refl)

-- rows of a chain: they are the values of its first boxes
pub record AreRows (size : ℕ) (chain : ChainView) (rows : List (LearntView (List ℕ))) : Type 0 where
  pub boxed : StartsWith chain.rows (names_of rows)
  pub sized : AreSized size (nodes_of rows)

-- a walk along these cells: its nodes are the values of the first cells, no two have the same key, and they are indexed by their hashes
pub record IsWalk {V K : Type 0} (key : V → K) (hash : K → ℕ) (rows : RowsView) (ls : List (LearntView V)) (hashes : List ℕ) : Type 0 where
  pub noted : StartsWith rows.cells (names_of ls)
  pub within : length ls ≤ rows.chain.room
  pub distinct : Distinct key (nodes_of ls)
  pub indexed : hashes ≡ hashes_of key hash (nodes_of ls)

-- a node with a new key was added, or nothing changed
abbrev pub Kept : {V K : Type 0} → (V → K) → List (LearntView V) → LearntView V → List (LearntView V) → Type 0
Kept key ls one more = ((more ≡ ls ++ one ∷ []) × Lacks key (nodes_of ls) (key (node_of one))) ⊎ (more ≡ ls)

-- the cells with which two lists both begin
abbrev pub Share : List ℕ → List ℕ → Type 0
Share a b = (cells : List ℕ) × StartsWith cells a × StartsWith cells b
