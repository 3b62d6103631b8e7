-- The handles of roots stand for their trees.
use Rattle.std.proofs.Common.{◌≡◌, refl, sym, subst, ap, ◌∙◌, ℕ, true, List, [], ◌∷◌, length, map, Option, Some, Ok}
use Rattle.std.specs.Prelude.{slice_get}
use Rattle.mh_values.specs.declared.class.Class.{Class}
use Rattle.mh_values.specs.declared.class.ClassId.{ClassId}
use Rattle.mh_values.specs.declared.types.Ty.{Ty}
use Rattle.mh_values.specs.declared.types.Ty.TheVariants as ty
use Rattle.mh_values.specs.declared.types.MethodTy.{MethodTy}
use Rattle.mh_values.specs.declared.value.Value.{Value}
use Rattle.mh_values.specs.declared.value.Value.TheVariants as value
use Rattle.mh_values.specs.Computation.{Gave, Refines, found}
use Rattle.mh_values.specs.HasType.{has_type, HaveTypes}
use Rattle.mh_convert.specs.Conversion.{fit}
use Rattle.mh_leaf.specs.LeafTable.{LeafTable}
use Rattle.mh_values.specs.Classes.{AreClasses}
use Rattle.mh_tree.specs.Rows.{constant_row, identity_row, throw_row}
use Rattle.mh_tree.specs.Tree as tree
use Rattle.mh_tree.specs.Meaning.{fitted, giving, mean, thrown}
use Rattle.mh_tree.proofs.RowParts.{constant_row-parts, identity_row-parts, throw_row-parts}
use Rattle.mh_tree.proofs.SoundRoots.{constant-sound, identity-sound, throw-sound}
use Rattle.mh_form.specs.declared.slot.Slot.{Slot}
use Rattle.mh_form.specs.declared.field.Field.TheVariants as field
use Rattle.mh_form.specs.Body.{nothing}
use Rattle.mh_form.specs.Erasure.{basic_of, basic_ret_of, erased, erased_ran}
use Rattle.mh_form.specs.Run.{run_on}
use Rattle.mh_form.specs.Slots.{raised_slot}
use Rattle.mh_form.proofs.Refines.{refines-is, refines-trans}
use Rattle.mh_edit.specs.declared.key.Key.TheVariants as key
use Rattle.mh_edit.specs.Applied.{constant_body, identity_body, throw_body}
use Rattle.mh_edit.proofs.RootLaws.{law-ThrowRoot}
use Rattle.mh_handle.specs.Form.{body_of}
use Rattle.mh_handle.specs.Grows.{Grows, base_handle}
use Rattle.mh_handle.specs.Recipe.{at_some}
use Rattle.mh_handle.specs.Stands.{HandleView, Stands}
use Rattle.mh_branch.proofs.Rooted.{stands-rooted}

-- the value fits the type of the constant, and is kept as what it is then
pub constant-stands :
    (table : LeafTable) (h : HandleView) (t : Option Ty) (v : Value) (u : MethodTy) (r : Ty) (w : Value) →
    constant_row table.classes t v ≡ Ok u →
    t ≡ Some r →
    fit table.classes v r ≡ Ok w →
    Grows base_handle h u 1 [] (key.ConstRoot (basic_of r)) (field.Val (erased w) ∷ []) →
    Stands table h (tree.Constant t v)
constant-stands table h t v u r w row some fits grows =
    let typed : constant_row table.classes t v ≡ Ok h.ty = row ∙ ap Ok (sym grows.typed) in
    let parts = constant_row-parts table.classes t v h.ty typed in
    let params : h.ty.params ≡ [] = ap (λ (m : MethodTy). m.params) parts.4 in
    let gives : (args : List Value) (n : ℕ) → mean table (tree.Constant t v) args n ≡ giving w =
    λ args n. ap (λ o. found o (λ p. fitted (fit table.classes v p) giving)) some ∙ ap (λ o. fitted o giving) fits in
    let runs : (args : List Value) (n : ℕ) → HaveTypes table.classes args h.ty.params → run_on table constant_body h.fields (map erased args) n ≡ Gave
    (Some (erased w)) [] =
    λ args n have.
    no_arguments table.classes args (λ xs. run_on table constant_body h.fields xs n ≡ Gave (Some (erased w)) [])
    (subst (HaveTypes table.classes args) params have) (ap (λ fs. run_on table constant_body fs [] n) grows.fielded) in
    stands-rooted table h (tree.Constant t v) constant_body (constant-sound table.classes t v h.ty typed) typed grows.weighed
    (grows.made ∙ sym (ap (λ o. at_some o (λ p. key.ConstRoot (basic_of p))) some)) grows.holds (ap body_of grows.made)
    (ap length grows.fielded) (sym (ap (map basic_of) params)) refl
    (λ args n have low. refines-is _ _ (ap erased_ran (gives args n) ∙ sym (runs args n have)))
  where
    no_arguments : (classes : List Class) (args : List Value) (P : List Slot → Type 0) → HaveTypes classes args [] → P [] → P (map erased args)
    no_arguments classes [] P have p = p
    no_arguments classes (v ∷ args) P have p = absurd have

-- the one argument, and its slot
one_argument : (classes : List Class) (p : Ty) (args : List Value) → HaveTypes classes args (p ∷ []) → (v : Value) × (args ≡ v ∷ [])
    × (has_type classes v p ≡ true)
one_argument classes p [] have = absurd have
one_argument classes p (v ∷ []) have = (v, refl, have.0)
one_argument classes p (v ∷ w ∷ args) have = absurd have.1

pub identity-stands :
    (table : LeafTable) (h : HandleView) (t : Option Ty) (u : MethodTy) (r : Ty) →
    identity_row t ≡ Ok u →
    t ≡ Some r →
    Grows base_handle h u 1 [] (key.IdentityRoot (basic_of r)) [] →
    Stands table h (tree.Identity t)
identity-stands table h t u r row some grows =
    let typed : identity_row t ≡ Ok h.ty = row ∙ ap Ok (sym grows.typed) in
    let parts = identity_row-parts t h.ty typed in
    let same : Some parts.0 ≡ Some r = sym parts.1 ∙ some in
    let is : parts.0 ≡ r = cc in
    let params : h.ty.params ≡ r ∷ [] = ap (λ (m : MethodTy). m.params) parts.2 ∙ ap (λ p. p ∷ []) is in
    let body = identity_body (basic_of r) in
    let does : (args : List Value) (n : ℕ) → HaveTypes table.classes args h.ty.params → erased_ran (mean table (tree.Identity t) args n) ≡ run_on table body
    h.fields (map erased args) n =
    λ args n have.
    let one = one_argument table.classes r args (subst (HaveTypes table.classes args) params have) in
    ap (λ vs. erased_ran (found (slice_get vs 0) giving)) one.1
    ∙ (sym (ap (λ fs. run_on table body fs (erased one.0 ∷ []) n) grows.fielded) ∙ ap (λ vs. run_on table body h.fields (map erased vs) n) (sym one.1)) in
    stands-rooted table h (tree.Identity t) body (identity-sound table.classes t h.ty typed) typed grows.weighed
    (grows.made ∙ sym (ap (λ o. at_some o (λ p. key.IdentityRoot (basic_of p))) some)) grows.holds (ap body_of grows.made)
    (ap length grows.fielded) (sym (ap (map basic_of) params)) refl
    (λ args n have low. refines-is _ _ (does args n have))

-- throwing an argument of a class is throwing its slot
thrown-erased : (classes : List Class) (c : ClassId) (v : Value) → has_type classes v (ty.Class c) ≡ true → erased_ran (thrown v) ≡ raised_slot (erased v)
thrown-erased classes c (value.Boxed n) typed = refl
thrown-erased classes c (value.Text s) typed = refl
thrown-erased classes c (value.Object d k) typed = refl
thrown-erased classes c (value.Thrown e) typed = refl
thrown-erased classes c (value.Array d items) typed = refl
thrown-erased classes c value.Null typed = refl
thrown-erased classes c (value.Prim n) typed = absurd cc

pub throw-stands :
    (table : LeafTable) (h : HandleView) (ret : Option Ty) (class : ClassId) (u : MethodTy) →
    AreClasses table.classes →
    throw_row table.classes ret class ≡ Ok u →
    Grows base_handle h u 1 [] (key.ThrowRoot (basic_ret_of ret)) [] →
    Stands table h (tree.Throw ret class)
throw-stands table h ret class u are row grows =
    let typed : throw_row table.classes ret class ≡ Ok h.ty = row ∙ ap Ok (sym grows.typed) in
    let parts = throw_row-parts table.classes ret class h.ty typed in
    let body = throw_body (basic_ret_of ret) in
    let params : h.ty.params ≡ ty.Class class ∷ [] = ap (λ (m : MethodTy). m.params) parts.1 in
    let does : (args : List Value) (n : ℕ) → HaveTypes table.classes args h.ty.params → Refines (erased_ran (mean table (tree.Throw ret class) args n))
    (run_on table body h.fields (map erased args) n) =
    λ args n have.
    let one = one_argument table.classes (ty.Class class) args (subst (HaveTypes table.classes args) params have) in
    let raises : erased_ran (mean table (tree.Throw ret class) args n) ≡ raised_slot (erased one.0) =
    ap (λ vs. erased_ran (found (slice_get vs 0) thrown)) one.1 ∙ thrown-erased table.classes class one.0 one.2 in
    let ran : run_on table body [] (erased one.0 ∷ []) n ≡ run_on table body h.fields (map erased args) n =
    sym (ap (λ fs. run_on table body fs (erased one.0 ∷ []) n) grows.fielded) ∙ ap (λ vs. run_on table body h.fields (map erased vs) n) (sym one.1) in
    let law : Refines (raised_slot (erased one.0)) (run_on table body [] (erased one.0 ∷ []) n) = law-ThrowRoot (basic_ret_of ret) nothing table (erased one.0)
    n in
    refines-trans _ _ _ (refines-is _ _ raises) (refines-trans _ _ _ law (refines-is _ _ ran)) in
    stands-rooted table h (tree.Throw ret class) body (throw-sound table.classes are ret class h.ty typed) typed grows.weighed grows.made grows.holds
    (ap body_of grows.made)
    (ap length grows.fielded) (sym (ap (map basic_of) params)) refl
    (λ args n have low. does args n have)
