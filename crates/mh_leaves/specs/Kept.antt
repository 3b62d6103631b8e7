-- What leaves keep: what is registered, and an index that finds it.
use Rattle.std.specs.Prelude.{List}
use Rattle.mh_values.specs.declared.class.Class.{Class}
use Rattle.mh_leaf.specs.declared.leaf.Leaf.{Leaf}
use Rattle.mh_leaves.specs.declared.index.Index.{Index}
use Rattle.mh_leaves.specs.Index.{IsIndexOf}
use Rattle.mh_leaves.specs.Registered.{AreRegistered}

-- classes and leaves as a manifest registers them, and their index
pub record AreKept (classes : List Class) (leaves : List Leaf) (index : Index) : Type 0 where
  pub registered : AreRegistered (record { classes = classes; leaves = leaves })
  pub indexed : IsIndexOf index leaves
