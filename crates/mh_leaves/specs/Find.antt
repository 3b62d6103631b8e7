-- Which leaf a call names.
use Rattle.std.specs.Prelude.{ℕ, ◌==◌, List, Bool, true, not, ◌&&◌, Option, None, Some, Result, Ok, Err, position, slice_get}
use Rattle.std.specs.Option.{option_map}
use Rattle.std.specs.Str.{bytes_eq}
use Rattle.mh_values.specs.declared.class.ClassId.{ClassId}
use Rattle.mh_values.specs.declared.value.LeafId.{LeafId}
use Rattle.mh_values.specs.Classes.{class_named}
use Rattle.mh_leaf.specs.declared.leaf.Leaf.{Leaf}
use Rattle.mh_leaf.specs.LeafTable.{LeafTable}
use Rattle.mh_leaves.specs.declared.naming.How.{How}
use Rattle.mh_leaves.specs.declared.naming.How.TheVariants.{Any, Static, Virtual}
use Rattle.mh_leaves.specs.declared.naming.Missing.{Missing}
use Rattle.mh_leaves.specs.declared.naming.Missing.TheVariants.{NoClass, NoMethod}

-- whether a leaf is called in that way
abbrev pub is_way : How → Leaf → Bool
is_way Any leaf = true
is_way Static leaf = not leaf.is_virtual
is_way Virtual leaf = leaf.is_virtual

-- whether two owners, names and descriptors are equal
abbrev pub are_texts : ClassId → List ℕ → List ℕ → ClassId → List ℕ → List ℕ → Bool
are_texts owner name descriptor other_owner other_name other_descriptor =
    (owner.0 == other_owner.0 && bytes_eq name other_name) && bytes_eq descriptor other_descriptor

-- whether a leaf has this owner, name and descriptor
abbrev pub has_texts : ClassId → List ℕ → List ℕ → Leaf → Bool
has_texts owner name descriptor leaf = are_texts leaf.owner leaf.name leaf.descriptor owner name descriptor

-- whether a leaf has these texts and is called in that way
abbrev pub is_called : ClassId → List ℕ → List ℕ → How → Leaf → Bool
is_called owner name descriptor how leaf = has_texts owner name descriptor leaf && is_way how leaf

-- the number of a leaf that was found, or what is missing
abbrev pub leaf_numbered : Option ℕ → Result LeafId Missing
leaf_numbered (Some at) = Ok (record { 0 = at })
leaf_numbered None = Err NoMethod

-- the leaf of an owner, if the owner is a class, that has these texts and is called in that way
abbrev pub leaf_called : Option ClassId → List ℕ → List ℕ → How → List Leaf → Result LeafId Missing
leaf_called None name descriptor how leaves = Err NoClass
leaf_called (Some owner) name descriptor how leaves =
    leaf_numbered (position (is_called owner name descriptor how) leaves)

-- the leaf with this owner, name and descriptor that is called in that way, or what is missing
abbrev pub find_leaf : LeafTable → List ℕ → List ℕ → List ℕ → How → Result LeafId Missing
find_leaf table owner name descriptor how = leaf_called (class_named table.classes owner) name descriptor how table.leaves

-- whether a leaf of the table has a receiver
abbrev pub is_virtual_leaf : LeafTable → LeafId → Option Bool
is_virtual_leaf table id = option_map (λ leaf. leaf.is_virtual) (slice_get table.leaves id.0)
