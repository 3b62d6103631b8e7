-- The leaves of `demo/Host`, with which the worked examples link.
use Rattle.std.specs.Prelude.{ℕ, ℤ, false, List, [], ◌∷◌, ◌++◌, codes, Option, Some, None}
use Rattle.mh_values.specs.declared.types.Primitive.TheVariants as primitive
use Rattle.mh_values.specs.declared.types.Comp.TheVariants as comp
use Rattle.mh_values.specs.declared.types.Ty.{Ty}
use Rattle.mh_values.specs.declared.types.Ty.TheVariants as ty
use Rattle.mh_values.specs.declared.value.Num.TheVariants as num
use Rattle.mh_values.specs.declared.value.Value.{Value}
use Rattle.mh_values.specs.declared.value.Value.TheVariants as value
use Rattle.mh_values.specs.Class.{builtin_classes, class_at, class_below}
use Rattle.mh_leaf.specs.declared.leaf.Kind.{Kind}
use Rattle.mh_leaf.specs.declared.leaf.Kind.TheVariants as kind
use Rattle.mh_leaf.specs.declared.leaf.Leaf.{Leaf}
use Rattle.mh_leaf.specs.LeafTable.{LeafTable}
use Rattle.mh_leaf.specs.Outcome.{int_type, long_type, boolean_type, string_type}
use Rattle.mh_tree.specs.Tree.{Tree}
use Rattle.mh_tree.specs.Tree as tree
use Rattle.mh_jobs.proofs.Host.{host_class, of}

-- `int[]`
abbrev pub ints : Ty
ints = ty.Array (comp.Prim primitive.I)

-- `java/lang/RuntimeException`
abbrev pub runtime : Ty
runtime = ty.Class (class_at 11)

-- two ints
abbrev pub two_ints : List Ty
two_ints = int_type ∷ int_type ∷ []

-- a static leaf of `demo/Host`
abbrev pub static_leaf : List ℕ → List ℕ → List Ty → Option Ty → Kind → Leaf
static_leaf name descriptor params ret kind = record {
  owner = host_class;
  name = name;
  descriptor = descriptor;
  is_virtual = false;
  ty = of params ret;
  kind = kind;
}

-- the leaves of the examples
abbrev pub host : LeafTable
host = record {
  classes = builtin_classes ++ class_below (codes "demo/Host") 0 ∷ [];
  leaves =
      static_leaf (codes "add") (codes "(II)I") two_ints (Some int_type) kind.Iadd
      ∷ static_leaf (codes "sub") (codes "(II)I") two_ints (Some int_type) kind.Isub
      ∷ static_leaf (codes "div") (codes "(II)I") two_ints (Some int_type) kind.Idiv
      ∷ static_leaf (codes "tick") (codes "(I)I") (int_type ∷ []) (Some int_type) kind.Tick
      ∷ static_leaf (codes "same") (codes "(I)I") (int_type ∷ []) (Some int_type) kind.Same
      ∷ static_leaf (codes "wide") (codes "(JI)J") (long_type ∷ int_type ∷ []) (Some long_type) kind.First
      ∷ static_leaf (codes "zin") (codes "(ZI)I") (boolean_type ∷ int_type ∷ []) (Some int_type) kind.Tick
      ∷ static_leaf (codes "nothing") (codes "()V") [] None kind.Note
      ∷ static_leaf (codes "sum") (codes "(JJ)J") (long_type ∷ long_type ∷ []) (Some long_type) kind.Ladd
      ∷ static_leaf (codes "flag") (codes "(Z)V") (boolean_type ∷ []) None kind.Note
      ∷ static_leaf (codes "cat") (codes "(Ljava/lang/String;Ljava/lang/String;)Ljava/lang/String;") (string_type ∷ string_type ∷ [])
      (Some string_type) kind.Concat
      ∷ static_leaf (codes "less") (codes "(II)Z") two_ints (Some boolean_type) kind.Ilt
      ∷ static_leaf (codes "saw") (codes "(Ljava/lang/RuntimeException;I)I") (runtime ∷ int_type ∷ []) (Some int_type) kind.Tick
      ∷ static_leaf (codes "arr") (codes "([I)[I") (ints ∷ []) (Some ints) kind.Same
      ∷ [];
}

-- the leaf of a number
abbrev pub leaf : ℕ → Tree
leaf n = tree.Leaf (record { 0 = n })

-- a boxed int
abbrev pub boxed_int : ℤ → Value
boxed_int n = value.Boxed (num.I n)

-- a boxed long
abbrev pub boxed_long : ℤ → Value
boxed_long n = value.Boxed (num.J n)
