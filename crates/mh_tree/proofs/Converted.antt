-- Trees that are converted by one of the two rules: their meaning, type, weight and side types.
use Rattle.std.proofs.Common.{◌≡◌, refl, ℕ, ◌+◌, List}
use Rattle.mh_values.specs.declared.types.MethodTy.{MethodTy}
use Rattle.mh_values.specs.declared.value.Value.{Value}
use Rattle.mh_values.specs.Computation.{and_then}
use Rattle.mh_convert.specs.declared.conv.Rules.{Rules}
use Rattle.mh_convert.specs.declared.conv.Rules.TheVariants as rules
use Rattle.mh_leaf.specs.LeafTable.{LeafTable}
use Rattle.mh_tree.specs.Rows.{convert_row}
use Rattle.mh_tree.specs.Tree.{Tree, converted, weight}
use Rattle.mh_tree.specs.Typing.{sides, type_of, with_type}
use Rattle.mh_tree.specs.Meaning.{mean, known, or_throw, conv_all, conv_result}

pub mean-converted :
    (by : Rules) (table : LeafTable) (t : Tree) (asked : MethodTy) (args : List Value) (n : ℕ) →
    mean table (converted by t asked) args n
    ≡ known (type_of table t) (λ ty. or_throw (conv_all by table.classes asked.params ty.params args)
    (λ xs. and_then (mean table t xs n) n (λ r k. conv_result by table.classes ty.ret asked.ret r)))
mean-converted rules.AsType table t asked args n = refl
mean-converted rules.Explicit table t asked args n = refl

pub type-converted :
    (by : Rules) (table : LeafTable) (t : Tree) (asked : MethodTy) →
    type_of table (converted by t asked) ≡ with_type (type_of table t) (λ ty. convert_row by table.classes ty (weight t) asked)
type-converted rules.AsType table t asked = refl
type-converted rules.Explicit table t asked = refl

pub weight-converted : (by : Rules) (t : Tree) (asked : MethodTy) → weight (converted by t asked) ≡ 1 + weight t
weight-converted rules.AsType t asked = refl
weight-converted rules.Explicit t asked = refl

pub sides-converted : (by : Rules) (table : LeafTable) (t : Tree) (asked : MethodTy) → sides table (converted by t asked) ≡ sides table t
sides-converted rules.AsType table t asked = refl
sides-converted rules.Explicit table t asked = refl
