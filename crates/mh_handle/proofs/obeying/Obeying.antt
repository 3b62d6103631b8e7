-- Calls that make a handle obey the rules of their combinators.
use Rattle.std.proofs.Common.{◌≡◌, refl, sym, subst, ap, ◌∙◌, ℕ, List, inl, Result, Ok, Err, IfOk}
use Rattle.std.specs.Prelude.{IsErrAnd}
use Rattle.mh_values.specs.declared.types.MethodTy.{MethodTy}
use Rattle.mh_tree.specs.declared.error.CheckError.{CheckError}
use Rattle.mh_tree.specs.declared.error.CheckError.TheVariants as check
use Rattle.mh_tree.specs.Check.{TellsRow}
use Rattle.mh_tree.specs.Rows.{TypeOrRefusal}
use Rattle.mh_form.specs.declared.field.Field.{Field}
use Rattle.mh_edit.specs.declared.key.Key.{Key}
use Rattle.mh_handle.specs.declared.error.HandleError.{HandleError}
use Rattle.mh_handle.specs.declared.error.HandleError.TheVariants as handle
use Rattle.mh_handle.specs.declared.handle.Handle.{Handle}
use Rattle.mh_handle.specs.declared.work.Work.{Work}
use Rattle.mh_handle.specs.Errors.{of_check}
use Rattle.mh_handle.specs.Grows.{Grows}
use Rattle.mh_handle.specs.Obeys.{Obeys}
use Rattle.mh_handle.specs.Stands.{HandleView}
use Rattle.mh_handle.specs.Works.{IsAccepted, Makes}
use Rattle.mh_handle.proofs.obeying.Going.{unchanged-still}

-- ---- a refusal by the rule

refusal-obeys : (row : TypeOrRefusal) (e : CheckError) → TellsRow (Err e) row → Obeys row (Err (of_check e))
refusal-obeys row check.NoMemory tells = tt
refusal-obeys row (check.Refused e) tells = tells

pub refused-obeys : (row : TypeOrRefusal) (e : CheckError) (r : Result Handle HandleError) → TellsRow (Err e) row → IsErrAnd r (λ x. x ≡ of_check e) →
    Obeys row r
refused-obeys row e (Ok h) tells is = absurd is
refused-obeys row e (Err x) tells is = subst (λ v. Obeys row (Err v)) (sym is) (refusal-obeys row e tells)

refusal-makes : (recipe : List Key) (w : Work) (e : CheckError) → Makes recipe w w (Err (of_check e))
refusal-makes recipe w check.NoMemory = (refl, inl refl, inl refl)
refusal-makes recipe w (check.Refused e) = unchanged-still w

pub refused-makes : (recipe : List Key) (w : Work) (e : CheckError) (r : Result Handle HandleError) → IsErrAnd r (λ x. x ≡ of_check e) → Makes recipe w w r
refused-makes recipe w e (Ok h) is = absurd is
refused-makes recipe w e (Err x) is = subst (λ v. Makes recipe w w (Err v)) (sym is) (refusal-makes recipe w e)

-- ---- a handle that was made, or want of memory or of numbers

pub given-obeys : (row : TypeOrRefusal) (t : MethodTy) (r : Result Handle HandleError) → row ≡ Ok t → IsAccepted r → IfOk r (λ h. h.ty ≡ t) → Obeys row r
given-obeys row t (Ok h) is accepted typed = is ∙ ap Ok (sym typed)
given-obeys row t (Err handle.NoMemory) is accepted typed = tt
given-obeys row t (Err (handle.FormsFull drawn)) is accepted typed = (t, is)
given-obeys row t (Err (handle.TypesFull bucket)) is accepted typed = (t, is)
given-obeys row t (Err (handle.Refused e)) is accepted typed = absurd accepted

pub grown-obeys :
    (row : TypeOrRefusal) (old : HandleView) (t : MethodTy) (weight : ℕ) (sides : List MethodTy) (k : Key) (fields : List Field) (r : Result Handle HandleError)
    →
    row ≡ Ok t →
    IsAccepted r →
    IfOk r (λ h. Grows old h t weight sides k fields) →
    Obeys row r
grown-obeys row old t weight sides k fields (Ok h) is accepted grows = is ∙ ap Ok (sym grows.typed)
grown-obeys row old t weight sides k fields (Err handle.NoMemory) is accepted grows = tt
grown-obeys row old t weight sides k fields (Err (handle.FormsFull drawn)) is accepted grows = (t, is)
grown-obeys row old t weight sides k fields (Err (handle.TypesFull bucket)) is accepted grows = (t, is)
grown-obeys row old t weight sides k fields (Err (handle.Refused e)) is accepted grows = absurd accepted
