-- Branches end as their types say, where their parts do.
use Rattle.std.proofs.Common.{◌≡◌, sym, subst, ℕ, ◌-◌, true, false, Bool, List, [], ◌∷◌, take, length, Option, Some, None, Ok, arith}
use Rattle.std.specs.Prelude.{option_to_list}
use Rattle.std.proofs.lemmas.Bool.{and_parts}
use Rattle.mh_values.specs.declared.class.Class.{Class}
use Rattle.mh_values.specs.declared.class.ClassId.{ClassId}
use Rattle.mh_values.specs.declared.types.Ty.{Ty}
use Rattle.mh_values.specs.declared.types.Ty.TheVariants as ty
use Rattle.mh_values.specs.declared.types.MethodTy.{MethodTy}
use Rattle.mh_values.specs.declared.value.Exc.{Exc}
use Rattle.mh_values.specs.declared.value.Num.TheVariants as num
use Rattle.mh_values.specs.declared.value.Value.{Value}
use Rattle.mh_values.specs.declared.value.Value.TheVariants as value
use Rattle.mh_values.specs.Class.{is_subclass}
use Rattle.mh_values.specs.Classes.{AreClasses}
use Rattle.mh_values.specs.Computation.{and_then, guarded, is_caught}
use Rattle.mh_values.specs.HasType.{HaveTypes, is_type_below}
use Rattle.mh_values.specs.Returns.{Returns}
use Rattle.mh_values.specs.Same.{begins_with_types}
use Rattle.mh_values.proofs.BelowTypes.{value-below}
use Rattle.mh_values.proofs.SameTypes.{same_return-is, same_method_type-is, begins_with-rest}
use Rattle.mh_leaf.specs.Outcome.{boolean_type}
use Rattle.mh_leaf.proofs.ArgumentTypes.{is_boolean}
use Rattle.mh_tree.specs.Rows.{takes_exception, guard_row, catch_row}
use Rattle.mh_tree.specs.Meaning.{Done, decided}
use Rattle.mh_tree.specs.Sound.{Body, IsSound}
use Rattle.mh_tree.proofs.RowParts.{guard_row-parts, catch_row-parts}
use Rattle.mh_tree.proofs.Returning.{returns-then, returns-guarded}
use Rattle.mh_tree.proofs.TypedLists.{types-front}

-- the first arguments have the first types
pub first-typed : (classes : List Class) (args : List Value) (types front : List Ty) → begins_with_types types front ≡ true → HaveTypes classes args types →
    HaveTypes classes (take (length front) args) front
first-typed classes args types front begins have =
    let rest = begins_with-rest types front begins in
    types-front classes args front rest.0 (subst (HaveTypes classes args) rest.1 have)

by_boolean : (classes : List Class) (b : Bool) (yes_run no_run : Done) (ret : Option Ty) → Returns classes yes_run ret → Returns classes no_run ret →
    Returns classes (decided (Some (value.Prim (num.Z b))) yes_run no_run) ret
by_boolean classes true yes_run no_run ret h k = h
by_boolean classes false yes_run no_run ret h k = k

decided-returns : (classes : List Class) (r : Option Value) (yes_run no_run : Done) (ret : Option Ty) → HaveTypes classes (option_to_list r) (boolean_type ∷ [])
    → Returns classes yes_run ret → Returns classes no_run ret → Returns classes (decided r yes_run no_run) ret
decided-returns classes None yes_run no_run ret have h k = absurd have
decided-returns classes (Some v) yes_run no_run ret have h k =
    let b = is_boolean classes v have.0 in
    subst (λ x. Returns classes (decided (Some x) yes_run no_run) ret) (sym b.1) (by_boolean classes b.0 yes_run no_run ret h k)

pub guard-sound : (classes : List Class) (test body other : Body) (c : MethodTy) (c_weight : ℕ) (t : MethodTy) (weight : ℕ) (e : MethodTy) (e_weight : ℕ)
    (u : MethodTy) → IsSound classes test c → IsSound classes body t → IsSound classes other e → guard_row c c_weight t weight e e_weight ≡ Ok u →
    IsSound classes (λ args n. and_then (test (take (length c.params) args) n) n (λ r k. decided r (body args k) (other args k))) u
guard-sound classes test body other c c_weight t weight e e_weight u test-sound sound other-sound typed =
    let q = guard_row-parts c c_weight t weight e e_weight u typed in
    let other' : IsSound classes other t = subst (IsSound classes other) (same_method_type-is e t q.0) other-sound in
    subst (IsSound classes (λ args n. and_then (test (take (length c.params) args) n) n (λ r k. decided r (body args k) (other args k)))) (sym q.3)
    (λ args n have.
    returns-then classes (test (take (length c.params) args) n) c.ret t.ret n (λ r k. decided r (body args k) (other args k))
    (test-sound (take (length c.params) args) n (first-typed classes args t.params c.params q.2 have)) (λ r k given.
    decided-returns classes r (body args k) (other args k) t.ret
    (subst (λ ret. HaveTypes classes (option_to_list r) (option_to_list ret)) (same_return-is c.ret (Some boolean_type) q.1) given) (sound args k have)
    (other' args k have)))

-- the arguments of a handler: the exception, and the first ones of the target
pub handler-typed : (classes : List Class) → AreClasses classes → (class : ClassId) (params types : List Ty) (args : List Value) (e : Exc) →
    takes_exception classes class params types ≡ true → is_subclass classes e.class class ≡ true → HaveTypes classes args types →
    HaveTypes classes (value.Thrown e ∷ take (length params - 1) args) params
handler-typed classes are class [] types args e takes below have = absurd cc
handler-typed classes are class (first ∷ others) types args e takes below have =
    let q = and_parts (is_type_below classes (ty.Class class) first) (begins_with_types types others) takes in
    let count : length others ≡ length (first ∷ others) - 1 = omega arith in (
      value-below classes are (ty.Class class) first q.0 (value.Thrown e) below,
      subst (λ m. HaveTypes classes (take m args) others) count (first-typed classes args types others q.1 have),
    )

pub catch-sound : (classes : List Class) → AreClasses classes → (body handler : Body) (t : MethodTy) (weight : ℕ) (class : ClassId) (h : MethodTy)
    (h_weight : ℕ) (u : MethodTy) → IsSound classes body t → IsSound classes handler h → catch_row classes t weight class h h_weight ≡ Ok u →
    IsSound classes (λ args n. guarded (body args n) (is_caught classes class) n (λ e k. handler (value.Thrown e ∷ take (length h.params - 1) args) k)) u
catch-sound classes are body handler t weight class h h_weight u sound handler-sound typed =
    let q = catch_row-parts classes t weight class h h_weight u typed in
    subst (IsSound classes (λ args n. guarded (body args n) (is_caught classes class) n (λ e k. handler (value.Thrown e ∷ take (length h.params - 1) args) k)))
    (sym q.3)
    (λ args n have.
    returns-guarded classes (body args n) t.ret (is_caught classes class) n (λ e k. handler (value.Thrown e ∷ take (length h.params - 1) args) k)
    (sound args n have)
    (λ e k below.
    subst (Returns classes (handler (value.Thrown e ∷ take (length h.params - 1) args) k)) (same_return-is h.ret t.ret q.2)
    (handler-sound (value.Thrown e ∷ take (length h.params - 1) args) k (handler-typed classes are class h.params t.params args e q.1 below have))))
