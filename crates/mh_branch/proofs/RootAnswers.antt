-- What the calls of roots answer, from what they add to the form that does nothing.
use Rattle.std.proofs.Common.{◌≡◌, subst, ap, ◌∙◌, List, [], ◌∷◌, Option, Some, Result, Ok, Err, IfOk}
use Rattle.mh_values.specs.declared.class.Class.{Class}
use Rattle.mh_values.specs.declared.class.ClassId.{ClassId}
use Rattle.mh_values.specs.declared.types.Ty.{Ty}
use Rattle.mh_values.specs.declared.types.MethodTy.{MethodTy}
use Rattle.mh_values.specs.declared.value.Value.{Value}
use Rattle.mh_values.specs.Classes.{AreClasses}
use Rattle.mh_convert.specs.Conversion.{fit}
use Rattle.mh_leaf.specs.LeafTable.{LeafTable}
use Rattle.mh_tree.specs.Rows.{constant_row, identity_row, throw_row}
use Rattle.mh_tree.specs.Tree as tree
use Rattle.mh_tree.proofs.RowParts.{throw_row-parts}
use Rattle.mh_form.specs.declared.basic.Basic.{Basic}
use Rattle.mh_form.specs.declared.basic.BasicRet.{BasicRet}
use Rattle.mh_form.specs.declared.basic.Shape.{Shape}
use Rattle.mh_form.specs.declared.field.Field.{Field}
use Rattle.mh_form.specs.declared.field.Field.TheVariants as field
use Rattle.mh_form.specs.declared.slot.Slot.{Slot}
use Rattle.mh_form.specs.Erasure.{basic_of, basic_ret_of, erased, shape_of}
use Rattle.mh_edit.specs.declared.key.Key.TheVariants as key
use Rattle.mh_handle.specs.declared.error.HandleError.{HandleError}
use Rattle.mh_handle.specs.Grows.{Grows, base_handle}
use Rattle.mh_handle.specs.declared.work.Work.{Work}
use Rattle.mh_handle.specs.Stands.{HandleView, Stands}
use Rattle.mh_handle.specs.Works.{Makes}
use Rattle.mh_branch.proofs.RootStands.{constant-stands, identity-stands, throw-stands}

-- ---- constants

pub constant-answers :
    (table : LeafTable) (t : Option Ty) (v : Value) (u : MethodTy) (r : Ty) (w : Value) (s : Slot) (b : Basic) (sides : List MethodTy) (fields : List Field)
    (res : Result HandleView HandleError) →
    constant_row table.classes t v ≡ Ok u →
    t ≡ Some r →
    fit table.classes v r ≡ Ok w →
    s ≡ erased w →
    b ≡ basic_of r →
    sides ≡ [] →
    fields ≡ field.Val s ∷ [] →
    IfOk res (λ h. Grows base_handle h u 1 sides (key.ConstRoot b) fields) →
    IfOk res (λ h. Stands table h (tree.Constant t v))
constant-answers table t v u r w s b sides fields (Ok h) row is fits slot basic none one g =
    constant-stands table h t v u r w row is fits (record {
      typed = g.typed;
      weighed = g.weighed;
      holds = g.holds ∙ none;
      made = g.made ∙ ap (λ x. key.ConstRoot x ∷ []) basic;
      fielded = g.fielded ∙ (one ∙ ap (λ x. field.Val x ∷ []) slot);
    })
constant-answers table t v u r w s b sides fields (Err e) row is fits slot basic none one g = g

-- ---- identities

pub identity-answers :
    (table : LeafTable) (t : Option Ty) (u : MethodTy) (r : Ty) (b : Basic) (sides : List MethodTy) (fields : List Field) (res : Result HandleView HandleError)
    →
    identity_row t ≡ Ok u →
    t ≡ Some r →
    b ≡ basic_of r →
    sides ≡ [] →
    fields ≡ [] →
    IfOk res (λ h. Grows base_handle h u 1 sides (key.IdentityRoot b) fields) →
    IfOk res (λ h. Stands table h (tree.Identity t))
identity-answers table t u r b sides fields (Ok h) row is basic none empty g =
    identity-stands table h t u r row is (record {
      typed = g.typed;
      weighed = g.weighed;
      holds = g.holds ∙ none;
      made = g.made ∙ ap (λ x. key.IdentityRoot x ∷ []) basic;
      fielded = g.fielded ∙ empty;
    })
identity-answers table t u r b sides fields (Err e) row is basic none empty g = g

-- ---- throws

-- the basic return type of what throws
pub throw-ret : (classes : List Class) (ret : Option Ty) (class : ClassId) (u : MethodTy) (s : Shape) → throw_row classes ret class ≡ Ok u → s ≡ shape_of u →
    s.ret ≡ basic_ret_of ret
throw-ret classes ret class u s row is = ap (λ (x : Shape). x.ret) is ∙ ap (λ (m : MethodTy). basic_ret_of m.ret) (throw_row-parts classes ret class u row).1

pub throw-makes : (ret : Option Ty) (b : BasicRet) (old new : Work) (res : Result HandleView HandleError) → b ≡ basic_ret_of ret →
    Makes (key.ThrowRoot b ∷ []) old new res → Makes (key.ThrowRoot (basic_ret_of ret) ∷ []) old new res
throw-makes ret b old new res is makes = subst (λ x. Makes (key.ThrowRoot x ∷ []) old new res) is makes

pub throw-answers :
    (table : LeafTable) (ret : Option Ty) (class : ClassId) (u : MethodTy) (b : BasicRet) (sides : List MethodTy) (fields : List Field)
    (res : Result HandleView HandleError) →
    AreClasses table.classes →
    throw_row table.classes ret class ≡ Ok u →
    b ≡ basic_ret_of ret →
    sides ≡ [] →
    fields ≡ [] →
    IfOk res (λ h. Grows base_handle h u 1 sides (key.ThrowRoot b) fields) →
    IfOk res (λ h. Stands table h (tree.Throw ret class))
throw-answers table ret class u b sides fields (Ok h) are row basic none empty g =
    throw-stands table h ret class u are row (record {
      typed = g.typed;
      weighed = g.weighed;
      holds = g.holds ∙ none;
      made = g.made ∙ ap (λ x. key.ThrowRoot x ∷ []) basic;
      fielded = g.fielded ∙ empty;
    })
throw-answers table ret class u b sides fields (Err e) are row basic none empty g = g
