-- The leaves of a manifest are well typed.
use Rattle.std.proofs.Common.{◌≡◌, refl, ℕ, zero, suc, subst, true, List, [], ◌∷◌, Some}
use Rattle.std.specs.Prelude.{slice_get, All}
use Rattle.std.proofs.lemmas.List.Elements.{All-head, All-tail}
use Rattle.std.proofs.lemmas.Bool.{and_from}
use Rattle.mh_values.specs.declared.class.Class.{Class}
use Rattle.mh_values.specs.Class.{throwable_class}
use Rattle.mh_values.specs.Classes.{AreClasses}
use Rattle.mh_values.proofs.Subclasses.{is_subclass-complete}
use Rattle.mh_leaf.specs.declared.leaf.Kind.{Kind}
use Rattle.mh_leaf.specs.declared.leaf.Kind.TheVariants as kind
use Rattle.mh_leaf.specs.declared.leaf.Leaf.{Leaf}
use Rattle.mh_leaf.specs.LeafTable.{LeafTable}
use Rattle.mh_leaf.specs.Outcome.{throws_exceptions, is_well_typed}
use Rattle.mh_leaf.specs.WellTyped.{IsWellTyped}
use Rattle.mh_leaves.specs.Registered.{ThrowsException, IsLeafOf, AreRegistered}

throws : (classes : List Class) → AreClasses classes → (k : Kind) → ThrowsException classes k → throws_exceptions classes k ≡ true
throws classes are (kind.Throw class) h = is_subclass-complete classes are.ordered.ascending class throwable_class h
throws classes are k h = refl

each : (classes : List Class) → AreClasses classes → (leaves : List Leaf) → All (IsLeafOf classes) leaves → (l : ℕ) (leaf : Leaf) →
    slice_get leaves l ≡ Some leaf → is_well_typed classes leaf ≡ true
each classes are [] all l leaf is = absurd cc
each classes are (first ∷ leaves) all zero leaf is =
    let here = All-head (IsLeafOf classes) first leaves all in
    let e : first ≡ leaf = cc in
    subst (λ x. is_well_typed classes x ≡ true) e (and_from _ _ here.typed (throws classes are first.kind here.throws))
each classes are (first ∷ leaves) all (suc l) leaf is = each classes are leaves (All-tail (IsLeafOf classes) first leaves all) l leaf is

pub registered-well_typed : (table : LeafTable) → AreClasses table.classes → AreRegistered table → IsWellTyped table
registered-well_typed table are registered = record {
  classes = are;
  leaves = each table.classes are table.leaves registered.leaves;
}
