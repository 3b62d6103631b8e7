-- Arguments of given types, taken apart as leaves take them.
use Rattle.std.proofs.Common.{◌≡◌, refl, ap, ap₂, ℤ, Bool, true, List, [], ◌∷◌, Some}
use Rattle.mh_values.specs.declared.class.Class.{Class}
use Rattle.mh_values.specs.declared.types.Ty.{Ty}
use Rattle.mh_values.specs.declared.value.Num.TheVariants as num
use Rattle.mh_values.specs.declared.value.Value.{Value}
use Rattle.mh_values.specs.declared.value.Value.TheVariants as value
use Rattle.mh_values.specs.HasType.{has_type, HaveTypes}
use Rattle.mh_leaf.specs.Outcome.{two_ints, two_longs, one_boolean, one_value, two_values, int_type, long_type, boolean_type}

-- ---- values of primitive types

is_int : (classes : List Class) (v : Value) → has_type classes v int_type ≡ true → (a : ℤ) × (v ≡ value.Prim (num.I a))
is_int classes (value.Prim (num.I a)) h = (a, refl)
is_int classes v h = absurd cc

is_long : (classes : List Class) (v : Value) → has_type classes v long_type ≡ true → (a : ℤ) × (v ≡ value.Prim (num.J a))
is_long classes (value.Prim (num.J a)) h = (a, refl)
is_long classes v h = absurd cc

pub is_boolean : (classes : List Class) (v : Value) → has_type classes v boolean_type ≡ true → (b : Bool) × (v ≡ value.Prim (num.Z b))
is_boolean classes (value.Prim (num.Z b)) h = (b, refl)
is_boolean classes v h = absurd cc

-- ---- arguments, one by one

pub ints_there : (classes : List Class) (args : List Value) → HaveTypes classes args (int_type ∷ int_type ∷ []) → (p : ℤ × ℤ) × (two_ints args ≡ Some p)
ints_there classes [] h = absurd h
ints_there classes (v ∷ []) h = absurd h.1
ints_there classes (v ∷ w ∷ []) h =
    let a = is_int classes v h.0 in
    let b = is_int classes w h.1.0 in
    ((a.0, b.0), ap₂ (λ x y. two_ints (x ∷ y ∷ [])) a.1 b.1)
ints_there classes (v ∷ w ∷ x ∷ xs) h = absurd h.1.1

pub longs_there : (classes : List Class) (args : List Value) → HaveTypes classes args (long_type ∷ long_type ∷ []) → (p : ℤ × ℤ) × (two_longs args ≡ Some p)
longs_there classes [] h = absurd h
longs_there classes (v ∷ []) h = absurd h.1
longs_there classes (v ∷ w ∷ []) h =
    let a = is_long classes v h.0 in
    let b = is_long classes w h.1.0 in
    ((a.0, b.0), ap₂ (λ x y. two_longs (x ∷ y ∷ [])) a.1 b.1)
longs_there classes (v ∷ w ∷ x ∷ xs) h = absurd h.1.1

pub boolean_there : (classes : List Class) (args : List Value) → HaveTypes classes args (boolean_type ∷ []) → (b : Bool) × (one_boolean args ≡ Some b)
boolean_there classes [] h = absurd h
boolean_there classes (v ∷ []) h = let b = is_boolean classes v h.0 in (b.0, ap (λ x. one_boolean (x ∷ [])) b.1)
boolean_there classes (v ∷ w ∷ vs) h = absurd h.1

pub one_there : (classes : List Class) (args : List Value) (t : Ty) → HaveTypes classes args (t ∷ []) → (v : Value) × (one_value args ≡ Some v)
    × (has_type classes v t ≡ true)
one_there classes [] t h = absurd h
one_there classes (v ∷ []) t h = (v, refl, h.0)
one_there classes (v ∷ w ∷ vs) t h = absurd h.1

pub two_there : (classes : List Class) (args : List Value) (s t : Ty) → HaveTypes classes args (s ∷ t ∷ []) → (p : Value × Value) × (two_values args ≡ Some p)
two_there classes [] s t h = absurd h
two_there classes (v ∷ []) s t h = absurd h.1
two_there classes (v ∷ w ∷ []) s t h = ((v, w), refl)
two_there classes (v ∷ w ∷ x ∷ xs) s t h = absurd h.1.1
