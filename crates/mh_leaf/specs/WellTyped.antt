-- Tables whose leaves have types that their kinds allow, as a manifest registers them.
use Rattle.std.specs.Prelude.{◌≡◌, ℕ, Some, slice_get, IsTrue}
use Rattle.mh_values.specs.Classes.{AreClasses}
use Rattle.mh_leaf.specs.declared.leaf.Leaf.{Leaf}
use Rattle.mh_leaf.specs.LeafTable.{LeafTable}
use Rattle.mh_leaf.specs.Outcome.{is_well_typed}

-- each leaf is well typed, over classes that begin with the built-in ones
pub record IsWellTyped (table : LeafTable) : Type 0 where
  pub classes : AreClasses table.classes
  pub leaves : (l : ℕ) (leaf : Leaf) → slice_get table.leaves l ≡ Some leaf → IsTrue (is_well_typed table.classes leaf)
