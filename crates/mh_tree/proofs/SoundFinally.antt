-- What runs a cleanup at its end ends as its type says, where its parts do.
use Rattle.std.proofs.Common.{◌≡◌, refl, sym, subst, ap, ◌∙◌, ℕ, ◌-◌, true, List, [], ◌∷◌, ◌++◌, take, drop, length, Option, Some, None, Ok}
use Rattle.std.specs.Prelude.{option_to_list}
use Rattle.std.specs.Option.{option_map}
use Rattle.std.proofs.lemmas.List.{length-drop}
use Rattle.mh_values.specs.declared.class.Class.{Class}
use Rattle.mh_values.specs.declared.types.Ty.{Ty}
use Rattle.mh_values.specs.declared.types.Ty.TheVariants as ty
use Rattle.mh_values.specs.declared.types.MethodTy.{MethodTy}
use Rattle.mh_values.specs.declared.value.Value.{Value}
use Rattle.mh_values.specs.declared.value.Value.TheVariants as value
use Rattle.mh_values.specs.Class.{throwable_class}
use Rattle.mh_leaf.specs.Ending.{ended_by}
use Rattle.mh_values.specs.HasType.{has_type, HaveTypes}
use Rattle.mh_values.specs.Returns.{Returns}
use Rattle.mh_values.specs.Same.{begins_with_types}
use Rattle.mh_values.proofs.SameTypes.{same_return-is, begins_with-rest}
use Rattle.mh_convert.specs.Conversion.{default_of}
use Rattle.mh_tree.specs.Rows.{end_types, kept_by, tryfinally_row}
use Rattle.mh_tree.specs.Sound.{Body, IsSound}
use Rattle.mh_tree.proofs.RowParts.{tryfinally_row-parts}
use Rattle.mh_tree.proofs.Returning.{returns-ended}
use Rattle.mh_tree.proofs.SoundBranches.{first-typed}
use Rattle.mh_tree.proofs.SoundConversions.{default-typed}
use Rattle.mh_tree.proofs.TypedLists.{types-join}

drop-front : {A : Type 0} (xs ys : List A) → drop (length xs) (xs ++ ys) ≡ ys
drop-front [] ys = refl
drop-front (x ∷ xs) ys = drop-front xs ys

-- types that begin with others are these and the rest
pub types-split : (types front : List Ty) → begins_with_types types front ≡ true → front ++ drop (length front) types ≡ types
types-split types front begins =
    let rest = begins_with-rest types front begins in
    ap (λ ts. front ++ drop (length front) ts) rest.1 ∙ (ap (λ ts. front ++ ts) (drop-front front rest.0) ∙ sym rest.1)

-- arguments that begin with others, and go on with the first ones of a list
pub begun-typed :
    (classes : List Class) (first args : List Value) (front types params : List Ty) → begins_with_types params front ≡ true →
    begins_with_types types (drop (length front) params) ≡ true → HaveTypes classes first front → HaveTypes classes args types →
    HaveTypes classes (first ++ take (length params - length front) args) params
begun-typed classes first args front types params begins others have_first have =
    let rest = drop (length front) params in
    let count : length rest ≡ length params - length front = length-drop (length front) params in
    subst (HaveTypes classes (first ++ take (length params - length front) args)) (types-split params front begins)
    (types-join classes first (take (length params - length front) args) front rest have_first
    (subst (λ m. HaveTypes classes (take m args) rest) count (first-typed classes args types rest others have)))

pub default-result : (classes : List Class) (ret : Option Ty) → HaveTypes classes (option_to_list (option_map default_of ret)) (option_to_list ret)
default-result classes None = tt
default-result classes (Some t) = (default-typed classes t, tt)

pub tryfinally-sound : (classes : List Class) (body cleanup : Body) (t : MethodTy) (weight : ℕ) (c : MethodTy) (c_weight : ℕ) (u : MethodTy) →
    IsSound classes body t → IsSound classes cleanup c → tryfinally_row t weight c c_weight ≡ Ok u →
    IsSound classes (λ args n. ended_by (body args n) n
    (λ r k. cleanup (value.Null ∷ (option_to_list r ++ take (kept_by c t.ret) args)) k)
    (λ e k. cleanup (value.Thrown e ∷ (option_to_list (option_map default_of t.ret) ++ take (kept_by c t.ret) args)) k)) u
tryfinally-sound classes body cleanup t weight c c_weight u sound cleanup-sound typed =
    let q = tryfinally_row-parts t weight c c_weight u typed in
    let run : Body = λ args n. ended_by (body args n) n
    (λ r k. cleanup (value.Null ∷ (option_to_list r ++ take (kept_by c t.ret) args)) k)
    (λ e k. cleanup (value.Thrown e ∷ (option_to_list (option_map default_of t.ret) ++ take (kept_by c t.ret) args)) k) in
    let cleaned : (v : Value) (r : Option Value) (args : List Value) (k : ℕ) → has_type classes v (ty.Class throwable_class) ≡ true →
    HaveTypes classes (option_to_list r) (option_to_list t.ret) → HaveTypes classes args t.params →
    Returns classes (cleanup (v ∷ (option_to_list r ++ take (kept_by c t.ret) args)) k) t.ret =
    λ v r args k is given have.
    subst (Returns classes (cleanup (v ∷ (option_to_list r ++ take (kept_by c t.ret) args)) k)) (same_return-is c.ret t.ret q.0)
    (cleanup-sound (v ∷ (option_to_list r ++ take (kept_by c t.ret) args)) k
    (begun-typed classes (v ∷ option_to_list r) args (end_types t.ret) t.params c.params q.1 q.2 (is, given) have)) in
    subst (IsSound classes run) (sym q.3)
    (λ args n have.
    returns-ended classes (body args n) t.ret t.ret n
    (λ r k. cleanup (value.Null ∷ (option_to_list r ++ take (kept_by c t.ret) args)) k)
    (λ e k. cleanup (value.Thrown e ∷ (option_to_list (option_map default_of t.ret) ++ take (kept_by c t.ret) args)) k)
    (sound args n have)
    (λ r k given. cleaned value.Null r args k refl given have)
    (λ e k below. cleaned (value.Thrown e) (option_map default_of t.ret) args k below (default-result classes t.ret) have))
