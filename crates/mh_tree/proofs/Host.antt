-- The leaves of the worked examples: static methods of the class `demo/Host`, and one virtual method.
use Rattle.std.specs.Prelude.{ℕ, ℤ, false, true, List, [], ◌∷◌, ◌++◌, codes, Option, Some, None}
use Rattle.mh_values.specs.declared.class.ClassId.{ClassId}
use Rattle.mh_values.specs.declared.types.Primitive.TheVariants as primitive
use Rattle.mh_values.specs.declared.types.Comp.TheVariants as comp
use Rattle.mh_values.specs.declared.types.Ty.{Ty}
use Rattle.mh_values.specs.declared.types.Ty.TheVariants as ty
use Rattle.mh_values.specs.declared.value.Num.TheVariants as num
use Rattle.mh_values.specs.declared.value.LeafId.{LeafId}
use Rattle.mh_values.specs.declared.calls.LeafCall.{LeafCall}
use Rattle.mh_values.specs.declared.value.Value.{Value}
use Rattle.mh_values.specs.declared.value.Value.TheVariants as value
use Rattle.mh_values.specs.Class.{builtin_classes, class_at, class_below, object_class, throwable_class}
pub use Rattle.mh_values.proofs.SameTypes.{method_type as of}
use Rattle.mh_leaf.specs.declared.leaf.Kind.{Kind}
use Rattle.mh_leaf.specs.declared.leaf.Kind.TheVariants as kind
use Rattle.mh_leaf.specs.declared.leaf.Leaf.{Leaf}
use Rattle.mh_leaf.specs.LeafTable.{LeafTable}
use Rattle.mh_leaf.specs.Outcome.{int_type, long_type, boolean_type, string_type}
use Rattle.mh_tree.specs.Tree.{Tree}
use Rattle.mh_tree.specs.Tree as tree

abbrev pub host_class : ClassId
host_class = class_at 28

abbrev pub runtime_class : ClassId
runtime_class = class_at 11

abbrev pub object : Ty
object = ty.Class object_class

abbrev pub number : Ty
number = ty.Class (class_at 1)

abbrev pub ints : Ty
ints = ty.Array (comp.Prim primitive.I)

abbrev pub static_leaf : List ℕ → List Ty → Option Ty → Kind → Leaf
static_leaf name params ret kind = record {
  owner = host_class;
  name = name;
  descriptor = [];
  is_virtual = false;
  ty = of params ret;
  kind = kind;
}

abbrev pub virtual_leaf : List ℕ → List Ty → Option Ty → Kind → Leaf
virtual_leaf name params ret kind = record {
  owner = host_class;
  name = name;
  descriptor = [];
  is_virtual = true;
  ty = of (ty.Class host_class ∷ params) ret;
  kind = kind;
}

abbrev pub host : LeafTable
host = record {
  classes = builtin_classes ++ class_below (codes "demo/Host") 0 ∷ [];
  leaves =
      static_leaf (codes "add") (int_type ∷ int_type ∷ []) (Some int_type) kind.Iadd
      ∷ static_leaf (codes "sub") (int_type ∷ int_type ∷ []) (Some int_type) kind.Isub
      ∷ static_leaf (codes "div") (int_type ∷ int_type ∷ []) (Some int_type) kind.Idiv
      ∷ static_leaf (codes "tick") (int_type ∷ []) (Some int_type) kind.Tick
      ∷ static_leaf (codes "same") (int_type ∷ []) (Some int_type) kind.Same
      ∷ static_leaf (codes "wide") (long_type ∷ int_type ∷ []) (Some long_type) kind.First
      ∷ static_leaf (codes "zin") (boolean_type ∷ int_type ∷ []) (Some int_type) kind.Tick
      ∷ static_leaf (codes "nothing") [] None kind.Note
      ∷ static_leaf (codes "sum") (long_type ∷ long_type ∷ []) (Some long_type) kind.Ladd
      ∷ static_leaf (codes "flag") (boolean_type ∷ []) None kind.Note
      ∷ static_leaf (codes "cat") (string_type ∷ string_type ∷ []) (Some string_type) kind.Concat
      ∷ static_leaf (codes "less") (int_type ∷ int_type ∷ []) (Some boolean_type) kind.Ilt
      ∷ static_leaf (codes "saw") (ty.Class runtime_class ∷ int_type ∷ []) (Some int_type) kind.Tick
      ∷ static_leaf (codes "arr") (ints ∷ []) (Some ints) kind.Same
      ∷ static_leaf (codes "put") (object ∷ []) None kind.Note
      ∷ static_leaf (codes "items") (ty.Array (comp.Class object_class) ∷ []) None kind.Note
      ∷ virtual_leaf (codes "me") [] None kind.Note
      ∷ static_leaf (codes "fin") (ty.Class throwable_class ∷ int_type ∷ []) (Some int_type) kind.Tick
      ∷ [];
}

abbrev pub at : ℕ → LeafId
at n = record { 0 = n }

abbrev pub leaf : ℕ → Tree
leaf n = tree.Leaf (at n)

abbrev pub called : ℕ → List Value → LeafCall
called n args = record { leaf = at n; args = args }

abbrev pub int : ℤ → Value
int n = value.Prim (num.I n)

abbrev pub long : ℤ → Value
long n = value.Prim (num.J n)

abbrev pub boxed_int : ℤ → Value
boxed_int n = value.Boxed (num.I n)
