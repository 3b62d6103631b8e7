-- The leaves of a run, with the classes that their types and values name.
use Rattle.std.specs.Prelude.{List}
use Rattle.mh_values.specs.declared.class.Class.{Class}
use Rattle.mh_leaf.specs.declared.leaf.Leaf.{Leaf}

-- what a manifest registers: classes by their numbers, and leaves by theirs
pub record LeafTable : Type 0 where
  pub classes : List Class
  pub leaves : List Leaf
