-- A leaf of a kind that allows its type gives, on arguments of that type, values of its return type or an exception.
use Rattle.std.proofs.Common.{◌≡◌, refl, sym, subst, ℕ, ◌==◌, ◌+ℤ◌, ◌-ℤ◌, ◌*ℤ◌, true, false, not, cond, List, length, Some, None, nat_le}
use Rattle.std.specs.Int.{w32, cast_signed}
use Rattle.std.proofs.lemmas.Bool.{and_parts}
use Rattle.mh_values.specs.declared.class.Class.{Class}
use Rattle.mh_values.specs.declared.types.MethodTy.{MethodTy}
use Rattle.mh_values.specs.declared.value.Value.{Value}
use Rattle.mh_values.specs.declared.value.Outcome.TheVariants.{Return, Throw}
use Rattle.mh_values.specs.declared.value.LeafId.{LeafId}
use Rattle.mh_values.specs.Class.{null_pointer_class}
use Rattle.mh_values.specs.Classes.{AreClasses}
use Rattle.mh_values.specs.Computation.{Gave}
use Rattle.mh_values.specs.Exception.{bare}
use Rattle.mh_values.specs.HasType.{HaveTypes}
use Rattle.mh_values.specs.Returns.{Returns}
use Rattle.mh_values.proofs.BelowTypes.{null_pointer-below}
use Rattle.mh_values.proofs.PrimitiveNumbers.{boolean-within}
use Rattle.mh_values.proofs.SameTypes.{same_return-is}
use Rattle.mh_leaf.specs.declared.leaf.Kind.{Kind}
use Rattle.mh_leaf.specs.declared.leaf.Kind.TheVariants as kind
use Rattle.mh_leaf.specs.declared.leaf.Leaf.{Leaf}
use Rattle.mh_leaf.proofs.ArgumentTypes.{longs_there, boolean_there, two_there}
use Rattle.mh_leaf.specs.Outcome.{int, characters_of, two_longs, one_boolean, two_values, kind_on, lacks_receiver, leaf_outcome, calls_of, ran_of, ran_of_some, leaf_run, int_type, long_type, boolean_type, string_type, returns_first, is_kind_type, throws_exceptions, is_well_typed}
pub use Rattle.mh_leaf.proofs.SingleOutcomes.{
  Ends,
  divided-returns,
  first_of_more-ends,
  fixed,
  int-cast,
  int-wrapped,
  ints-end,
  joined-returns,
  length-ends,
  long-wrapped,
  mapped-ends,
  pick-ends,
  same-ends,
}

pub kind-ends : (classes : List Class) → AreClasses classes → (k : Kind) (t : MethodTy) (args : List Value) (n : ℕ) → is_kind_type k t ≡ true →
    throws_exceptions classes k ≡ true → HaveTypes classes args t.params → Ends classes (kind_on k args n) t.ret
kind-ends classes are kind.Iadd t args n is throws have =
    fixed classes t _ _ args _ is have (ints-end classes _ int_type args (λ p calls. int-wrapped (p.0 +ℤ p.1)))
kind-ends classes are kind.Isub t args n is throws have =
    fixed classes t _ _ args _ is have (ints-end classes _ int_type args (λ p calls. int-wrapped (p.0 -ℤ p.1)))
kind-ends classes are kind.Imul t args n is throws have =
    fixed classes t _ _ args _ is have (ints-end classes _ int_type args (λ p calls. int-wrapped (p.0 *ℤ p.1)))
kind-ends classes are kind.Idiv t args n is throws have =
    fixed classes t _ _ args _ is have (ints-end classes _ int_type args (λ p calls. divided-returns classes are p.0 p.1 calls))
kind-ends classes are kind.Ladd t args n is throws have =
    fixed classes t _ _ args _ is have (λ longs. let q = longs_there classes args longs in mapped-ends classes _ (two_longs args) q.0 (Some long_type) q.1
    (λ calls. long-wrapped (q.0.0 +ℤ q.0.1)))
kind-ends classes are kind.Ieq t args n is throws have = fixed classes t _ _ args _ is have (ints-end classes _ boolean_type args (λ p calls. boolean-within _))
kind-ends classes are kind.Ilt t args n is throws have = fixed classes t _ _ args _ is have (ints-end classes _ boolean_type args (λ p calls. boolean-within _))
kind-ends classes are kind.Not t args n is throws have =
    fixed classes t _ _ args _ is have (λ one. let q = boolean_there classes args one in mapped-ends classes _ (one_boolean args) q.0 (Some boolean_type) q.1
    (λ calls. boolean-within (not q.0)))
kind-ends classes are kind.Concat t args n is throws have =
    fixed classes t _ _ args _ is have (λ two.
    let q = two_there classes args string_type string_type two in
    mapped-ends classes _ (two_values args) q.0 (Some string_type) q.1 (joined-returns classes are (characters_of q.0.0) (characters_of q.0.1)))
kind-ends classes are kind.Length t args n is throws have = fixed classes t _ _ args _ is have (length-ends classes are args)
kind-ends classes are kind.Same t args n is throws have =
    let q = and_parts (length t.params == 1) (returns_first t) is in same-ends classes t.params t.ret args q.0 q.1 have
kind-ends classes are kind.First t args n is throws have =
    let q = and_parts (nat_le 2 (length t.params)) (returns_first t) is in first_of_more-ends classes t.params t.ret args q.0 q.1 have
kind-ends classes are kind.Pick t args n is throws have = pick-ends classes t.params t.ret args is have
kind-ends classes are kind.Tick t args n is throws have = (
  int (cast_signed w32 n),
  refl,
  λ calls. subst (λ r. Returns classes (ran_of (int (cast_signed w32 n)) calls) r)
      (sym (same_return-is t.ret (Some int_type) is)) (int-cast n),
)
kind-ends classes are kind.Note t args n is throws have =
    (Return None, refl, λ calls. subst (λ r. Returns classes (Gave None calls) r) (sym (same_return-is t.ret None is)) tt)
kind-ends classes are (kind.Throw class) t args n is throws have = (Throw (bare class), refl, λ calls. throws)

-- ---- leaves

pub outcome-there : (classes : List Class) → AreClasses classes → (leaf : Leaf) (args : List Value) (n : ℕ) → is_well_typed classes leaf ≡ true →
    HaveTypes classes args leaf.ty.params → Ends classes (leaf_outcome leaf args n) leaf.ty.ret
outcome-there classes are leaf args n is have =
    let q = and_parts (is_kind_type leaf.kind leaf.ty) (throws_exceptions classes leaf.kind) is in
    elim (lacks_receiver leaf args) as (λ b. Ends classes (cond b (Some (Throw (bare null_pointer_class))) (kind_on leaf.kind args n)) leaf.ty.ret) [
      | true ↦ (Throw (bare null_pointer_class), refl, λ calls. null_pointer-below classes are)
      | false ↦ kind-ends classes are leaf.kind leaf.ty args n q.0 q.1 have
    ]

-- a leaf returns values of its return type
pub leaf-returns : (classes : List Class) → AreClasses classes → (l : LeafId) (leaf : Leaf) (args : List Value) (n : ℕ) → is_well_typed classes leaf ≡ true →
    HaveTypes classes args leaf.ty.params → Returns classes (leaf_run l (Some leaf) args n) leaf.ty.ret
leaf-returns classes are l leaf args n is have =
    let q = outcome-there classes are leaf args n is have in
    subst (λ o. Returns classes (ran_of_some o (calls_of l leaf args)) leaf.ty.ret) (sym q.1) (q.2 (calls_of l leaf args))
