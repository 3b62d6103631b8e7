-- Constants, identities and what throws end as their types say.
use Rattle.std.proofs.Common.{◌≡◌, refl, sym, subst, true, List, [], ◌∷◌, Option, Some, Ok}
use Rattle.std.specs.Prelude.{slice_get}
use Rattle.mh_values.specs.declared.class.Class.{Class}
use Rattle.mh_values.specs.declared.class.ClassId.{ClassId}
use Rattle.mh_values.specs.declared.types.Ty.{Ty}
use Rattle.mh_values.specs.declared.types.Ty.TheVariants as ty
use Rattle.mh_values.specs.declared.types.MethodTy.{MethodTy}
use Rattle.mh_values.specs.declared.value.Value.{Value}
use Rattle.mh_values.specs.declared.value.Value.TheVariants as value
use Rattle.mh_values.specs.Class.{is_subclass, throwable_class}
use Rattle.mh_values.specs.Classes.{AreClasses}
use Rattle.mh_values.specs.Computation.{found}
use Rattle.mh_values.specs.HasType.{has_type}
use Rattle.mh_values.specs.Returns.{Returns}
use Rattle.mh_values.proofs.BelowTypes.{class_cast-below, null_pointer-below}
use Rattle.mh_values.proofs.Subclasses.{is_subclass-trans}
use Rattle.mh_values.proofs.SameTypes.{method_type}
use Rattle.mh_convert.specs.Conversion.{fit}
use Rattle.mh_convert.proofs.Typed.{fit-typed}
use Rattle.mh_tree.specs.Rows.{constant_row, identity_row, throw_row}
use Rattle.mh_tree.specs.Meaning.{Done, fitted, giving, thrown}
use Rattle.mh_tree.specs.Sound.{IsSound}
use Rattle.mh_tree.proofs.RowParts.{constant_row-parts, identity_row-parts, throw_row-parts}
use Rattle.mh_tree.proofs.TypedLists.{types-get}

-- what runs on the one argument
one-sound : (classes : List Class) (p : Ty) (ret : Option Ty) (next : Value → Done) → ((v : Value) → has_type classes v p ≡ true → Returns classes (next v) ret)
    → IsSound classes (λ args n. found (slice_get args 0) next) (method_type (p ∷ []) ret)
one-sound classes p ret next h args n have =
    let v = types-get classes args (p ∷ []) 0 p have refl in
    subst (λ o. Returns classes (found o next) ret) (sym v.1) (h v.0 v.2)

pub constant-sound : (classes : List Class) (t : Option Ty) (v : Value) (u : MethodTy) → constant_row classes t v ≡ Ok u →
    IsSound classes (λ args n. found t (λ r. fitted (fit classes v r) giving)) u
constant-sound classes t v u typed args n have =
    let q = constant_row-parts classes t v u typed in
    let given : Returns classes (giving q.1) (Some q.0) = fit-typed classes v q.1 q.0 q.3 in
    let fits = subst (λ r. Returns classes (fitted r giving) (Some q.0)) (sym q.3) given in
    let there = subst (λ o. Returns classes (found o (λ r. fitted (fit classes v r) giving)) (Some q.0)) (sym q.2) fits in
    subst (λ (m : MethodTy). Returns classes (found t (λ r. fitted (fit classes v r) giving)) m.ret) (sym q.4) there

pub identity-sound : (classes : List Class) (t : Option Ty) (u : MethodTy) → identity_row t ≡ Ok u →
    IsSound classes (λ args n. found (slice_get args 0) giving) u
identity-sound classes t u typed =
    let q = identity_row-parts t u typed in
    subst (IsSound classes (λ args n. found (slice_get args 0) giving)) (sym q.2) (one-sound classes q.0 (Some q.0) giving (λ v h. h))

thrown-returns : (classes : List Class) → AreClasses classes → (class : ClassId) → is_subclass classes class throwable_class ≡ true →
    (ret : Option Ty) (v : Value) → has_type classes v (ty.Class class) ≡ true → Returns classes (thrown v) ret
thrown-returns classes are class below ret (value.Thrown e) h = is_subclass-trans classes are.ordered.ascending e.class class throwable_class h below
thrown-returns classes are class below ret value.Null h = null_pointer-below classes are
thrown-returns classes are class below ret v h = class_cast-below classes are

pub throw-sound : (classes : List Class) → AreClasses classes → (ret : Option Ty) (class : ClassId) (u : MethodTy) → throw_row classes ret class ≡ Ok u →
    IsSound classes (λ args n. found (slice_get args 0) thrown) u
throw-sound classes are ret class u typed =
    let q = throw_row-parts classes ret class u typed in
    subst (IsSound classes (λ args n. found (slice_get args 0) thrown)) (sym q.1)
    (one-sound classes (ty.Class class) ret thrown (thrown-returns classes are class q.0 ret))
