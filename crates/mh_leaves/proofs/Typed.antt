-- A leaf of an owner that is there, whose kind allows its type, may be registered.
use Rattle.std.proofs.Common.{◌≡◌, subst, ◌<◌, ◌≤◌, true, List, length}
use Rattle.std.proofs.lemmas.Bool.{and_parts}
use Rattle.mh_values.specs.declared.class.Class.{Class}
use Rattle.mh_values.specs.Class.{throwable_class}
use Rattle.mh_values.specs.Slots.{slots_of_all}
use Rattle.mh_values.proofs.Subclasses.{reaches-sound}
use Rattle.mh_leaf.specs.declared.leaf.Kind.{Kind}
use Rattle.mh_leaf.specs.declared.leaf.Kind.TheVariants as kind
use Rattle.mh_leaf.specs.declared.leaf.Leaf.{Leaf}
use Rattle.mh_leaf.specs.Outcome.{is_kind_type, throws_exceptions, is_well_typed}
use Rattle.mh_leaves.specs.Registered.{ThrowsException, IsDescribed, IsLeafOf}

throws : (classes : List Class) (k : Kind) → throws_exceptions classes k ≡ true → ThrowsException classes k
throws classes (kind.Throw class) h = reaches-sound (length classes) classes class throwable_class h
throws classes kind.Iadd h = tt
throws classes kind.Isub h = tt
throws classes kind.Imul h = tt
throws classes kind.Idiv h = tt
throws classes kind.Ladd h = tt
throws classes kind.Ieq h = tt
throws classes kind.Ilt h = tt
throws classes kind.Not h = tt
throws classes kind.Concat h = tt
throws classes kind.Length h = tt
throws classes kind.Same h = tt
throws classes kind.First h = tt
throws classes kind.Pick h = tt
throws classes kind.Tick h = tt
throws classes kind.Note h = tt

pub leaf-typed : (classes tested : List Class) (leaf : Leaf) → leaf.owner.0 < length classes → tested ≡ classes → is_well_typed tested leaf ≡ true →
    slots_of_all leaf.ty.params ≤ 254 → IsDescribed classes leaf → IsLeafOf classes leaf
leaf-typed classes tested leaf owner same typed few described =
    let is : is_well_typed classes leaf ≡ true = subst (λ cs. is_well_typed cs leaf ≡ true) same typed in
    let q = and_parts (is_kind_type leaf.kind leaf.ty) (throws_exceptions classes leaf.kind) is in
    record { owner = owner; typed = q.0; throws = throws classes leaf.kind q.1; few = few; described = described }
