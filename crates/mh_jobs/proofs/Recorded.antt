-- What is recorded of an exception is an Error.
use Rattle.std.proofs.Common.{◌≡◌, refl, sym, subst, Bool, true, false, cond, List}
use Rattle.mh_values.specs.declared.class.Class.{Class}
use Rattle.mh_values.specs.declared.value.Exc.{Exc}
use Rattle.mh_values.specs.Class.{is_subclass}
use Rattle.mh_values.specs.Classes.{AreClasses}
use Rattle.mh_values.proofs.BelowTypes.{in_front}
use Rattle.mh_jobs.specs.Thrown.{recorded, caused, error_class, bootstrap_method_error_class}

chosen : (classes : List Class) (b : Bool) (e f : Exc) → (b ≡ true → is_subclass classes e.class error_class ≡ true) →
    is_subclass classes f.class error_class ≡ true → is_subclass classes (cond b e f).class error_class ≡ true
chosen classes true e f h k = h refl
chosen classes false e f h k = k

bootstrap_error-below : (classes : List Class) → AreClasses classes → is_subclass classes bootstrap_method_error_class error_class ≡ true
bootstrap_error-below classes are =
    let P : List Class → Type 0 = λ cs. is_subclass cs bootstrap_method_error_class error_class ≡ true in subst P (sym (in_front classes are)) refl

-- whatever is thrown, what is recorded is `java/lang/Error` or below it
pub recorded-error : (classes : List Class) → AreClasses classes → (e : Exc) → is_subclass classes (recorded classes e).class error_class ≡ true
recorded-error classes are e =
    chosen classes (is_subclass classes e.class error_class) e (caused e) (λ h. h) (bootstrap_error-below classes are)
