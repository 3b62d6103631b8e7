-- What the manifest of the tests registers.
use Rattle.std.specs.Prelude.{ℕ, false, List, [], ◌∷◌, ◌++◌, codes, Option, Some}
use Rattle.mh_values.specs.Class.{builtin_classes, class_below}
use Rattle.mh_leaf.specs.declared.leaf.Leaf.{Leaf}
use Rattle.mh_leaf.specs.declared.leaf.Kind.{Kind}
use Rattle.mh_leaf.specs.declared.leaf.Kind.TheVariants as kind
use Rattle.mh_leaf.specs.LeafTable.{LeafTable}
use Rattle.mh_leaf.specs.Outcome.{int_type}
use Rattle.mh_values.specs.declared.types.Ty.{Ty}
use Rattle.mh_form.specs.declared.body.FormBody.{FormBody}
use Rattle.mh_form.specs.declared.name.Name.{Name}
use Rattle.mh_form.specs.declared.name.Name.TheVariants.{Call, Link}
use Rattle.mh_form.specs.declared.slot.Slot.{Slot}
use Rattle.mh_form.specs.Run.{IsLeaf, IsPart, run_body}
use Rattle.mh_form.specs.Slots.{called}
use Rattle.mh_values.specs.declared.value.LeafId.{LeafId}
use Rattle.mh_values.specs.Computation.{Ran}

-- a static leaf of `demo/Host` that gives an int
abbrev pub int_leaf : List ℕ → List ℕ → List Ty → Kind → Leaf
int_leaf name descriptor params kind = record {
  owner = record { 0 = 28 };
  name = name;
  descriptor = descriptor;
  is_virtual = false;
  ty = record { params = params; ret = Some int_type };
  kind = kind;
}

-- `tick` gives the count of leaf calls before it, and `div` divides
abbrev pub host : LeafTable
host = record {
  classes = builtin_classes ++ class_below (codes "demo/Host") 0 ∷ [];
  leaves =
      int_leaf (codes "tick") (codes "(I)I") (int_type ∷ []) kind.Tick
      ∷ int_leaf (codes "div") (codes "(II)I") (int_type ∷ int_type ∷ []) kind.Idiv
      ∷ [];
}

-- a leaf by its number
abbrev pub at : ℕ → LeafId
at n = record { 0 = n }

-- a body of one name
abbrev pub naming : Name → ℕ → FormBody
naming name out = record { params = []; fields = 1; names = name ∷ []; out = Some out }

-- runs the part in its field twice
abbrev pub two_links : FormBody
two_links = record { params = []; fields = 1; names = Link 0 (0 ∷ []) ∷ Link 0 (0 ∷ []) ∷ []; out = Some 2 }

-- the run of a leaf of the table by a body, which is a part of a second one, which is a part of a third
abbrev pub nested_on : LeafTable → FormBody → FormBody → FormBody → ℕ → Slot → ℕ → Ran (Option Slot)
nested_on table call link twice leaf arg n =
    run_body twice (IsPart (run_body link (IsPart (run_body call (IsLeaf (called table (at leaf)) ∷ [])) ∷ [])) ∷ []) (arg ∷ []) n

-- the run of a leaf of the table twice, below two parts
abbrev pub nested : LeafTable → ℕ → List ℕ → Slot → ℕ → Ran (Option Slot)
nested table leaf places arg n = nested_on table (naming (Call 0 places) 1) (naming (Link 0 (0 ∷ [])) 1) two_links leaf arg n
