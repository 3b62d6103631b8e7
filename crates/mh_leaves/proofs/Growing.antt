-- What is registered stays so when a class or a leaf is put after the others.
use Rattle.std.proofs.Common.{◌≡◌, refl, suc, true, false, if◌then◌else◌, sym, ap, ◌∙◌, ℕ, ◌+◌, ◌<◌, List, [], ◌∷◌, ◌++◌, length, slice_get, Option, None, Some, Result, Ok, Err, OnOk, OnErr, IfSome, arith, length-append}
use Rattle.std.specs.Option.{option_map_or}
use Rattle.std.proofs.lemmas.Option.{slice_get_within}
use Rattle.std.proofs.lemmas.List.Elements.{All-push}
use Rattle.std.specs.Str.{bytes_eq}
use Rattle.mh_base.proofs.Slices.{slice_get-front}
use Rattle.mh_values.specs.Classes.{named_from, class_named}
use Rattle.mh_values.specs.declared.class.Class.{Class}
use Rattle.mh_values.specs.declared.class.ClassId.{ClassId}
use Rattle.mh_values.specs.Class.{class_at, superclass_of, IsSubclass, itself, above}
use Rattle.mh_leaf.specs.declared.leaf.Kind.{Kind}
use Rattle.mh_leaf.specs.declared.leaf.Kind.TheVariants.{Iadd, Isub, Imul, Idiv, Ladd, Ieq, Ilt, Not, Concat, Length, Same, First, Pick, Tick, Note, Throw}
use Rattle.mh_leaf.specs.declared.leaf.Leaf.{Leaf}
use Rattle.mh_leaves.specs.Registered.{AreRegistered, IsLeafOf, ThrowsException, most_leaves}
use Rattle.mh_leaves.proofs.Meanings.{desc-grown}

-- a class that has a name is one of the list
named_from-within : (n : ℕ) (classes : List Class) (name : List ℕ) (c : ClassId) → named_from n classes name ≡ Some c → c.0 < n + length classes
named_from-within n [] name c h = absurd cc
named_from-within n (x ∷ xs) name c h =
    let later : named_from (n + 1) xs name ≡ Some c → c.0 < n + suc (length xs) = λ k. omega (arith, named_from-within (n + 1) xs name c k) in
    let here : Some (class_at n) ≡ Some c → c.0 < n + suc (length xs) = λ k. let e : n ≡ c.0 = ap (λ o. option_map_or (λ (d : ClassId). d.0) o 0) k in
    omega (arith, e) in
    elim (bytes_eq x.name name) as (λ b. (if b then Some (class_at n) else named_from (n + 1) xs name) ≡ Some c → c.0 < n + suc (length xs))
    [ true ↦ here | false ↦ later ] h

pub class_named-within : (classes : List Class) (name : List ℕ) (c : ClassId) → class_named classes name ≡ Some c → c.0 < length classes
class_named-within classes name c h = omega (arith, named_from-within 0 classes name c h)

pub class_named-all : (classes : List Class) (name : List ℕ) (o : Option ClassId) → o ≡ class_named classes name → IfSome o (λ c. c.0 < length classes)
class_named-all classes name None is = tt
class_named-all classes name (Some c) is = class_named-within classes name c (sym is)

-- a superclass of the list is one of a longer list
found-grown : (classes more : List Class) (a b : ClassId) (o : Option Class) → slice_get classes a.0 ≡ o →
    option_map_or (λ class. class.superclass) o None ≡ Some b → superclass_of (classes ++ more) a ≡ Some b
found-grown classes more a b None is h = absurd cc
found-grown classes more a b (Some z) is h =
    ap (λ o. option_map_or (λ class. class.superclass) o None) (slice_get-front classes more a.0 (slice_get_within classes a.0 z is) ∙ is) ∙ h

pub superclass-grown : (classes more : List Class) (a b : ClassId) → superclass_of classes a ≡ Some b → superclass_of (classes ++ more) a ≡ Some b
superclass-grown classes more a b h = found-grown classes more a b (slice_get classes a.0) refl h

subclass-grown : (classes more : List Class) (a b : ClassId) → IsSubclass classes a b → IsSubclass (classes ++ more) a b
subclass-grown classes more a b itself = itself
subclass-grown classes more a b (above {b = c} is further) =
    above (superclass-grown classes more a c is) (subclass-grown classes more c b further)

throws-grown : (classes more : List Class) (kind : Kind) → ThrowsException classes kind → ThrowsException (classes ++ more) kind
throws-grown classes more (Throw class) h = subclass-grown classes more class _ h
throws-grown classes more Iadd h = tt
throws-grown classes more Isub h = tt
throws-grown classes more Imul h = tt
throws-grown classes more Idiv h = tt
throws-grown classes more Ladd h = tt
throws-grown classes more Ieq h = tt
throws-grown classes more Ilt h = tt
throws-grown classes more Not h = tt
throws-grown classes more Concat h = tt
throws-grown classes more Length h = tt
throws-grown classes more Same h = tt
throws-grown classes more First h = tt
throws-grown classes more Pick h = tt
throws-grown classes more Tick h = tt
throws-grown classes more Note h = tt

leaf-grown : (classes more : List Class) (leaf : Leaf) → IsLeafOf classes leaf → IsLeafOf (classes ++ more) leaf
leaf-grown classes more leaf h = record {
  owner = omega (arith, h.owner, length-append classes more);
  typed = h.typed;
  throws = throws-grown classes more leaf.kind h.throws;
  few = h.few;
  described = (h.described.0, desc-grown classes more leaf.descriptor h.described.0 h.described.1, h.described.2);
}

-- a class more
pub registered-class : (classes more new : List Class) (leaves : List Leaf) → AreRegistered (record { classes = classes; leaves = leaves }) →
    new ≡ classes ++ more → AreRegistered (record { classes = new; leaves = leaves })
registered-class classes more new leaves h pushed = rw pushed (record {
  few = h.few;
  leaves = λ k d within. leaf-grown classes more _ (h.leaves k d within);
})

-- a leaf more
pub registered-leaf : (classes : List Class) (leaves new : List Leaf) (leaf : Leaf) → AreRegistered (record { classes = classes; leaves = leaves }) →
    IsLeafOf classes leaf → (length leaves ≡ most_leaves → ⊥) → new ≡ leaves ++ leaf ∷ [] → AreRegistered (record { classes = classes; leaves = new })
registered-leaf classes leaves new leaf h is fewer pushed = rw pushed (record {
  few = omega (arith, h.few, fewer, length-append leaves (leaf ∷ []));
  leaves = All-push (IsLeafOf classes) leaves leaf h.leaves is;
})

-- the same where a class may not have been declared
pub registered-declared : {T E : Type 0} (r : Result T E) (classes more new : List Class) (leaves : List Leaf) →
    AreRegistered (record { classes = classes; leaves = leaves }) → OnOk r (new ≡ classes ++ more) → OnErr r (new ≡ classes) →
    AreRegistered (record { classes = new; leaves = leaves })
registered-declared (Ok x) classes more new leaves h ok err = registered-class classes more new leaves h ok
registered-declared (Err e) classes more new leaves h ok err = rw err h
