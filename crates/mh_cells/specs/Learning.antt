-- What is kept of cells: for each cell its value, and the name of the cell that shows it for good.
use Rattle.std.specs.Prelude.{◌≡◌, ℕ, List, length, map, slice_get, Option, Some, None, IfSome}
use Rattle.std.specs.Option.{option_map}
use Rattle.mh_setonce.specs.Learnings.{LearntView, node_of}

-- the values of cells, if they were learnt
abbrev pub values_of : {V : Type 0} → List (Option (LearntView V)) → List (Option V)
values_of ls = map (option_map node_of) ls

-- there is a value, or none, for each cell; each was shown by the cell at its place, and belongs there
pub record AreLearnt {V : Type 0} (key : V → ℕ) (cells : List ℕ) (ls : List (Option (LearntView V))) : Type 0 where
  pub count : length ls ≡ length cells
  pub noted : (at : ℕ) (l : LearntView V) → slice_get ls at ≡ Some (Some l) → (slice_get cells at ≡ Some l.cell) × (key l.node ≡ at)

-- if both values were learnt, they are of the same cell
abbrev pub AreOfOne : {V : Type 0} → Option (LearntView V) → Option (LearntView V) → Type 0
AreOfOne {V} mine theirs = (a b : LearntView V) → mine ≡ Some a → theirs ≡ Some b → b.cell ≡ a.cell

-- what one or the other has learnt was learnt, and nothing else
pub record HasBoth {V : Type 0} (mine theirs new : Option (LearntView V)) : Type 0 where
  pub own : IfSome mine (λ l. new ≡ Some l)
  pub other : IfSome theirs (λ l. new ≡ Some l)
  pub none : mine ≡ None → new ≡ theirs
