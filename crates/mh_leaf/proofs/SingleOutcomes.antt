-- How the kinds of leaves end on arguments of their types, kind by kind.
use Rattle.std.proofs.Common.{◌≡◌, refl, sym, ap, subst, inl, inr, ℕ, zero, suc, ◌==◌, ℤ, pos, negsuc, Bool, true, false, ◌&&◌, if◌then◌else◌, cond, List, [], ◌∷◌, ◌++◌, length, Option, Some, None, nat_le, codes, FitsSigned, rules, ◌^◌, arith}
use Rattle.std.proofs.lemmas.Bool.{cases_Bool, eqb-true, and_parts, and_from, lt-ltb}
use Rattle.std.proofs.lemmas.Int.{SFits-int_wrap}
use Rattle.std.specs.Int.{w32, w64, cast_signed, cast_unsigned, int_wrap}
use Rattle.std.specs.Prelude.{option_map, option_and_then, slice_get, sum_by, int_div}
use Rattle.mh_values.specs.declared.class.Class.{Class}
use Rattle.mh_values.specs.declared.types.Ty.{Ty}
use Rattle.mh_values.specs.declared.types.MethodTy.{MethodTy}
use Rattle.mh_values.specs.declared.value.Num.TheVariants as num
use Rattle.mh_values.specs.declared.value.Value.{Value}
use Rattle.mh_values.specs.declared.value.Value.TheVariants as value
use Rattle.mh_values.specs.declared.value.Outcome.{Outcome}
use Rattle.mh_values.specs.declared.value.Outcome.TheVariants.{Throw}
use Rattle.mh_values.specs.declared.calls.LeafCall.{LeafCall}
use Rattle.mh_values.specs.Class.{is_subclass, string_class, class_cast_class, internal_error_class, null_pointer_class}
use Rattle.mh_values.specs.Classes.{AreClasses}
use Rattle.mh_values.specs.Computation.{Gave}
use Rattle.mh_values.specs.Exception.{bare, saying}
use Rattle.mh_values.specs.HasType.{has_type, HaveTypes}
use Rattle.mh_values.specs.Primitives.{is_signed}
use Rattle.mh_values.specs.Returns.{Returns}
use Rattle.mh_values.specs.Same.{is_same_type, is_same_return}
use Rattle.mh_values.specs.ValueLimits.{is_short_text}
use Rattle.mh_values.proofs.BelowTypes.{arithmetic-below, class_cast-below, internal_error-below, null_pointer-below}
use Rattle.mh_values.proofs.SameTypes.{same_type-is, same_return-is, same_method_type-is, method_type}
use Rattle.mh_values.proofs.Subclasses.{is_subclass-itself}
use Rattle.mh_leaf.proofs.ArgumentTypes.{is_boolean, ints_there, one_there}
use Rattle.mh_leaf.proofs.TextUnits.{units-within}
use Rattle.mh_leaf.specs.Outcome.{units_of, int, returned, divided, text, joined, measured, two_ints, one_value, first_value, picked_value, ran_of, int_type, boolean_type, string_type, is_type, chooses}

-- ---- machine numbers

-- a machine number is in the range of its type
int-fits : (z : ℤ) → FitsSigned w32 z → is_signed 31 z ≡ true
int-fits (pos n) fits = lt-ltb n (2 ^ 31) (omega (arith, fits.sfits))
int-fits (negsuc n) fits = lt-ltb n (2 ^ 31) (omega (arith, fits.sfits))

long-fits : (z : ℤ) → FitsSigned w64 z → is_signed 63 z ≡ true
long-fits (pos n) fits = lt-ltb n (2 ^ 63) (omega (arith, fits.sfits))
long-fits (negsuc n) fits = lt-ltb n (2 ^ 63) (omega (arith, fits.sfits))

-- and so is a wrapped one
pub int-wrapped : (z : ℤ) → is_signed 31 (int_wrap w32 z) ≡ true
int-wrapped z = int-fits (int_wrap w32 z) (SFits-int_wrap w32 z)

pub long-wrapped : (z : ℤ) → is_signed 63 (int_wrap w64 z) ≡ true
long-wrapped z = long-fits (int_wrap w64 z) (SFits-int_wrap w64 z)

-- and one of the bits of an unsigned one
pub int-cast : (n : ℕ) → is_signed 31 (cast_signed w32 n) ≡ true
int-cast n = let fits : FitsSigned w32 (cast_signed w32 n) = search rules in int-fits (cast_signed w32 n) fits

-- ---- what single outcomes return

pub divided-returns : (classes : List Class) → AreClasses classes → (a b : ℤ) (calls : List LeafCall) →
    Returns classes (ran_of (divided a b) calls) (Some int_type)
divided-returns classes are a (pos zero) calls = arithmetic-below classes are
divided-returns classes are a (pos (suc b)) calls = int-cast (cast_unsigned w32 (int_div a (pos (suc b))))
divided-returns classes are a (negsuc b) calls = int-cast (cast_unsigned w32 (int_div a (negsuc b)))

text-returns : (classes : List Class) → AreClasses classes → (s : List ℕ) (calls : List LeafCall) → Returns classes (ran_of (text s) calls) (Some string_type)
text-returns classes are s calls =
    let refused = Throw (saying internal_error_class (codes "string too long")) in
    let P : Bool → Type 0 = λ b. Returns classes (ran_of (cond b (returned (value.Text s)) refused) calls) (Some string_type) in
    elim (cases_Bool (is_short_text s)) [
      | inl short ↦ subst P (sym short) (and_from (is_subclass classes string_class string_class) (is_short_text s)
          (is_subclass-itself classes string_class) short)
      | inr long ↦ subst P (sym long) (internal_error-below classes are)
    ]

pub joined-returns : (classes : List Class) → AreClasses classes → (s t : Option (List ℕ)) (calls : List LeafCall) →
    Returns classes (ran_of (joined s t) calls) (Some string_type)
joined-returns classes are (Some s) (Some t) calls = text-returns classes are (s ++ t) calls
joined-returns classes are (Some s) None calls = class_cast-below classes are
joined-returns classes are None t calls = class_cast-below classes are

-- ---- kinds

-- there is an outcome, and it is one of the return type
abbrev pub Ends : List Class → Option Outcome → Option Ty → Type 0
Ends classes o ret = (outcome : Outcome) × (o ≡ Some outcome) × ((calls : List LeafCall) → Returns classes (ran_of outcome calls) ret)

-- an outcome of what the arguments hold, for a leaf of a fixed type
pub mapped-ends : {A : Type 0} (classes : List Class) (f : A → Outcome) (o : Option A) (a : A) (ret : Option Ty) → o ≡ Some a →
    ((calls : List LeafCall) → Returns classes (ran_of (f a) calls) ret) → Ends classes (option_map f o) ret
mapped-ends classes f o a ret is returns = (f a, ap (option_map f) is, returns)

-- a length, of what has the type of texts
measured-ends : (classes : List Class) → AreClasses classes → (v : Value) → has_type classes v string_type ≡ true → Ends classes (measured v) (Some int_type)
measured-ends classes are (value.Text s) typed =
    let short : is_short_text s ≡ true = (and_parts (is_subclass classes string_class string_class) (is_short_text s) typed).1 in
    let units = int (pos (sum_by units_of s)) in
    (units, ap (λ b. if b then Some units else None) short, λ calls. units-within s short)
measured-ends classes are value.Null typed = (Throw (bare null_pointer_class), refl, λ calls. null_pointer-below classes are)
measured-ends classes are v typed = (Throw (bare class_cast_class), refl, λ calls. class_cast-below classes are)

pub length-ends : (classes : List Class) → AreClasses classes → (args : List Value) → HaveTypes classes args (string_type ∷ []) →
    Ends classes (option_and_then measured (one_value args)) (Some int_type)
length-ends classes are args have =
    let q = one_there classes args string_type have in
    subst (λ o. Ends classes (option_and_then measured o) (Some int_type)) (sym q.1) (measured-ends classes are q.0 q.2)

-- a leaf with the only type that its kind allows
pub fixed : (classes : List Class) (t : MethodTy) (params : List Ty) (ret : Ty) (args : List Value) (o : Option Outcome) → is_type t params ret ≡ true →
    HaveTypes classes args t.params → (HaveTypes classes args params → Ends classes o (Some ret)) → Ends classes o t.ret
fixed classes t params ret args o is have ends =
    let e : t ≡ method_type params (Some ret) = same_method_type-is t (method_type params (Some ret)) is in
    subst (λ (m : MethodTy). Ends classes o m.ret) (sym e) (ends (subst (λ (m : MethodTy). HaveTypes classes args m.params) e have))

pub ints-end : (classes : List Class) (f : ℤ × ℤ → Outcome) (ret : Ty) (args : List Value) →
    ((p : ℤ × ℤ) (calls : List LeafCall) → Returns classes (ran_of (f p) calls) (Some ret)) → HaveTypes classes args (int_type ∷ int_type ∷ []) →
    Ends classes (option_map f (two_ints args)) (Some ret)
ints-end classes f ret args returns have =
    let q = ints_there classes args have in mapped-ends classes f (two_ints args) q.0 (Some ret) q.1 (returns q.0)

-- the first argument where the return type is that of the first parameter
first-ends : (classes : List Class) (v : Value) (p : Ty) (o : Option Value) (ret : Option Ty) → o ≡ Some v → is_same_return (Some p) ret ≡ true →
    has_type classes v p ≡ true → Ends classes (option_map returned o) ret
first-ends classes v p o ret is same typed =
    mapped-ends classes returned o v ret is
    (λ calls. subst (λ r. Returns classes (Gave (Some v) calls) r) (same_return-is (Some p) ret same) typed)

pub same-ends : (classes : List Class) (params : List Ty) (ret : Option Ty) (args : List Value) → (length params == 1) ≡ true →
    is_same_return (slice_get params 0) ret ≡ true → HaveTypes classes args params → Ends classes (option_map returned (one_value args)) ret
same-ends classes [] ret args one same have = absurd cc
same-ends classes (p ∷ []) ret args one same have =
    let q = one_there classes args p have in first-ends classes q.0 p (one_value args) ret q.1 same q.2
same-ends classes (p ∷ q ∷ ps) ret args one same have = let e : length (p ∷ q ∷ ps) ≡ 1 = eqb-true (length (p ∷ q ∷ ps)) 1 one in absurd (omega (arith, e))

pub first_of_more-ends : (classes : List Class) (params : List Ty) (ret : Option Ty) (args : List Value) → nat_le 2 (length params) ≡ true →
    is_same_return (slice_get params 0) ret ≡ true → HaveTypes classes args params → Ends classes (option_map returned (first_value args)) ret
first_of_more-ends classes (p ∷ q ∷ ps) ret [] two same have = absurd have
first_of_more-ends classes (p ∷ q ∷ ps) ret (v ∷ []) two same have = absurd have.1
first_of_more-ends classes (p ∷ q ∷ ps) ret (v ∷ w ∷ vs) two same have = first-ends classes v p (Some v) ret refl same have.0
first_of_more-ends classes (p ∷ []) ret args two same have = absurd cc
first_of_more-ends classes [] ret args two same have = absurd cc

picked-ends : (classes : List Class) (b : Bool) (v w : Value) (s t : Ty) (ret : Option Ty) → is_same_type s t ≡ true → is_same_return (Some t) ret ≡ true →
    has_type classes v s ≡ true → has_type classes w t ≡ true → Ends classes (option_map returned (picked_value (value.Prim (num.Z b) ∷ v ∷ w ∷ []))) ret
picked-ends classes true v w s t ret same ends v_typed w_typed =
    let typed : has_type classes v t ≡ true = subst (λ x. has_type classes v x ≡ true) (same_type-is s t same) v_typed in
    first-ends classes v t (Some v) ret refl ends typed
picked-ends classes false v w s t ret same ends v_typed w_typed = first-ends classes w t (Some w) ret refl ends w_typed

pub pick-ends : (classes : List Class) (params : List Ty) (ret : Option Ty) (args : List Value) → chooses params ret ≡ true → HaveTypes classes args params →
    Ends classes (option_map returned (picked_value args)) ret
pick-ends classes (c ∷ s ∷ t ∷ []) ret [] h have = absurd have
pick-ends classes (c ∷ s ∷ t ∷ []) ret (u ∷ []) h have = absurd have.1
pick-ends classes (c ∷ s ∷ t ∷ []) ret (u ∷ v ∷ []) h have = absurd have.1.1
pick-ends classes (c ∷ s ∷ t ∷ []) ret (u ∷ v ∷ w ∷ []) h have =
    let q = and_parts (is_same_type c boolean_type && is_same_type s t) (is_same_return (Some t) ret) h in
    let r = and_parts (is_same_type c boolean_type) (is_same_type s t) q.0 in
    let b = is_boolean classes u (subst (λ x. has_type classes u x ≡ true) (same_type-is c boolean_type r.0) have.0) in
    subst (λ x. Ends classes (option_map returned (picked_value (x ∷ v ∷ w ∷ []))) ret) (sym b.1)
    (picked-ends classes b.0 v w s t ret r.1 q.1 have.1.0 have.1.1.0)
pick-ends classes (c ∷ s ∷ t ∷ []) ret (u ∷ v ∷ w ∷ x ∷ xs) h have = absurd have.1.1.1
pick-ends classes params ret args h have = absurd cc
