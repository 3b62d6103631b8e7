-- What is learnt of cells.
use Rattle.std.specs.Prelude.{ℕ, List, map, refl}
use Rattle.std.specs.Coded.{Coded, code_by, coded×, coded_ℕ}

-- a value, and the name of the cell that holds it for good
pub record LearntView (V : Type 0) : Type 0 where
  pub node : V
  pub cell : ℕ

-- what is learnt is stored as the pair of its fields
abbrev pub learnt_coded : {V : Type 0} → Coded V → Coded (LearntView V)
learnt_coded {V} c = code_by (V × ℕ) (coded× c coded_ℕ) (λ l. (l.node, l.cell)) (λ p. record { node = p.0; cell = p.1 }) (λ _. refl)

-- the value that was learnt
abbrev pub node_of : {V : Type 0} → LearntView V → V
node_of l = l.node

-- the values that were learnt
abbrev pub nodes_of : {V : Type 0} → List (LearntView V) → List V
nodes_of ls = map node_of ls

-- the name of the cell
abbrev pub name_of : {V : Type 0} → LearntView V → ℕ
name_of l = l.cell

-- the names of the cells
abbrev pub names_of : {V : Type 0} → List (LearntView V) → List ℕ
names_of ls = map name_of ls
