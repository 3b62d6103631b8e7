-- The four ways to join a tree with a part: the rule of each, and the tree that it makes.
use Rattle.std.specs.Prelude.{ℕ}
use Rattle.mh_values.specs.declared.types.MethodTy.{MethodTy}
use Rattle.mh_tree.specs.declared.joints.Joint.{Joint}
use Rattle.mh_tree.specs.declared.joints.Joint.TheVariants as joint
use Rattle.mh_tree.specs.Rows.{TypeOrRefusal, collect_row, filter_row, filterret_row, fold_row}
use Rattle.mh_tree.specs.Tree.{Tree}
use Rattle.mh_tree.specs.Tree as tree

-- the type that a joint gives to a target and a part, or the exception that refuses it
abbrev pub joint_row : Joint → MethodTy → ℕ → MethodTy → ℕ → TypeOrRefusal
joint_row (joint.Filter place) target target_weight part part_weight = filter_row target target_weight place part part_weight
joint_row joint.FilterReturn target target_weight part part_weight = filterret_row target target_weight part part_weight
joint_row (joint.Fold place) target target_weight part part_weight = fold_row target target_weight place part part_weight
joint_row (joint.Collect place) target target_weight part part_weight = collect_row target target_weight place part part_weight

-- the tree that joins a target with a part
abbrev pub joint_tree : Joint → Tree → Tree → Tree
joint_tree (joint.Filter place) target part = tree.FilterArg target place part
joint_tree joint.FilterReturn target part = tree.FilterRet target part
joint_tree (joint.Fold place) target part = tree.Fold target place part
joint_tree (joint.Collect place) target part = tree.Collect target place part
