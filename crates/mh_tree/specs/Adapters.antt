-- The three ways to adapt the arguments of a tree: the rule of each, and the tree that it makes.
use Rattle.std.specs.Prelude.{ℕ, List}
use Rattle.mh_values.specs.declared.class.Class.{Class}
use Rattle.mh_values.specs.declared.types.MethodTy.{MethodTy}
use Rattle.mh_tree.specs.declared.inserting.Adapter.{Adapter}
use Rattle.mh_tree.specs.declared.inserting.Adapter.TheVariants as adapter
use Rattle.mh_tree.specs.Rows.{TypeOrRefusal, bind_row, drop_row, permute_row}
use Rattle.mh_tree.specs.Tree.{Tree}
use Rattle.mh_tree.specs.Tree as tree

-- the type that an adapter gives to a target, or the exception that refuses it
abbrev pub adapter_row : List Class → Adapter → MethodTy → ℕ → TypeOrRefusal
adapter_row classes (adapter.Bind place value) target target_weight = bind_row classes target target_weight place value
adapter_row classes (adapter.Drop place types) target target_weight = drop_row target target_weight place types.now
adapter_row classes (adapter.Permute asked order) target target_weight = permute_row target target_weight asked.now order.now

-- the tree that an adapter makes of a target
abbrev pub adapter_tree : Adapter → Tree → Tree
adapter_tree (adapter.Bind place value) target = tree.Bind target place value
adapter_tree (adapter.Drop place types) target = tree.Drop target place types.now
adapter_tree (adapter.Permute asked order) target = tree.Permute target asked.now order.now
