-- What a manifest has registered so far.
use Rattle.std.specs.Prelude.{◌≡◌, ℕ, ◌<◌, ◌≤◌, Bool, true, false, Ok, List, [], ◌∷◌, ◌++◌, length, Option, Some, slice_get, All, IsTrue}
use Rattle.std.specs.Option.{option_and_then, option_map}
use Rattle.mh_values.specs.declared.class.Class.{Class}
use Rattle.mh_values.specs.declared.class.ClassId.{ClassId}
use Rattle.mh_values.specs.declared.types.MethodTy.{MethodTy}
use Rattle.mh_values.specs.declared.types.Ty.TheVariants as ty
use Rattle.mh_values.specs.declared.value.Value.{Value}
use Rattle.mh_values.specs.declared.value.Outcome.{Outcome}
use Rattle.mh_values.specs.declared.value.LeafId.{LeafId}
use Rattle.mh_values.specs.Class.{builtin_classes, IsSubclass, throwable_class}
use Rattle.mh_values.specs.Classes.{class_of}
use Rattle.mh_values.specs.Descriptor.{desc}
use Rattle.mh_values.specs.Slots.{slots_of_all}
use Rattle.mh_leaf.specs.declared.leaf.Kind.{Kind}
use Rattle.mh_leaf.specs.declared.leaf.Kind.TheVariants.{Throw}
use Rattle.mh_leaf.specs.declared.leaf.Leaf.{Leaf}
use Rattle.mh_leaf.specs.LeafTable.{LeafTable}
use Rattle.mh_leaf.specs.Outcome.{leaf_outcome, is_kind_type}

-- the built-in classes, and no leaf
abbrev pub nothing_registered : LeafTable
nothing_registered = record { classes = builtin_classes; leaves = [] }

-- one more class
abbrev pub with_class : LeafTable → List ℕ → ClassId → LeafTable
with_class table name superclass = record table { classes = table.classes ++ class_of name (Some superclass) ∷ [] }

-- one more leaf
abbrev pub with_leaf : LeafTable → Leaf → LeafTable
with_leaf table leaf = record table { leaves = table.leaves ++ leaf ∷ [] }

-- how many leaves there may be
abbrev pub most_leaves : ℕ
most_leaves = 4096

-- a leaf that throws by itself throws an exception
abbrev pub ThrowsException : List Class → Kind → Type 0
ThrowsException classes (Throw class) = IsSubclass classes class throwable_class
ThrowsException classes _ = Unit {0}

-- the type of a leaf's method handle: a receiver of the owner's class comes first
abbrev pub handle_type : Bool → ClassId → MethodTy → MethodTy
handle_type true owner t = record { params = ty.Class owner ∷ t.params; ret = t.ret }
handle_type false owner t = t

-- a leaf has the type of its descriptor among the classes, with the receiver first if it is virtual
abbrev pub IsDescribed : List Class → Leaf → Type 0
IsDescribed classes leaf = (t : MethodTy) × (desc classes leaf.descriptor ≡ Ok t) × (leaf.ty ≡ handle_type leaf.is_virtual leaf.owner t)

-- A leaf's owner is a class of the list, and its kind allows its type. Its parameters, including the receiver, take at most 254 slots. Its descriptor says its
-- type.
pub record IsLeafOf (classes : List Class) (leaf : Leaf) : Type 0 where
  pub owner : leaf.owner.0 < length classes
  pub typed : IsTrue (is_kind_type leaf.kind leaf.ty)
  pub throws : ThrowsException classes leaf.kind
  pub few : slots_of_all leaf.ty.params ≤ 254
  pub described : IsDescribed classes leaf

-- what holds of the leaves of each manifest
pub record AreRegistered (table : LeafTable) : Type 0 where
  pub few : length table.leaves ≤ most_leaves
  pub leaves : All (IsLeafOf table.classes) table.leaves

-- the type of a leaf of the table
abbrev pub type_of_leaf : LeafTable → LeafId → Option MethodTy
type_of_leaf table id = option_map (λ leaf. leaf.ty) (slice_get table.leaves id.0)

-- what a leaf of the table does
abbrev pub outcome_of : LeafTable → LeafId → List Value → ℕ → Option Outcome
outcome_of table id args n = option_and_then (λ leaf. leaf_outcome leaf args n) (slice_get table.leaves id.0)
