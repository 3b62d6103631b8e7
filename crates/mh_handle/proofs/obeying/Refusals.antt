-- A call that answers with the error of a check, after which all but the seat of types is as it was.
use Rattle.std.proofs.Common.{◌≡◌, refl, sym, subst, List, Result, Err}
use Rattle.std.specs.Prelude.{IsErrAnd}
use Rattle.mh_tree.specs.declared.error.CheckError.{CheckError}
use Rattle.mh_tree.specs.Check.{TellsRow}
use Rattle.mh_tree.specs.Rows.{TypeOrRefusal}
use Rattle.mh_edit.specs.declared.key.Key.{Key}
use Rattle.mh_handle.specs.declared.error.HandleError.{HandleError}
use Rattle.mh_handle.specs.declared.handle.Handle.{Handle}
use Rattle.mh_handle.specs.declared.work.Work.{Work}
use Rattle.mh_handle.specs.Errors.{of_check}
use Rattle.mh_handle.specs.Obeys.{Obeys}
use Rattle.mh_handle.specs.Works.{IsUnchanged, Makes}
use Rattle.mh_handle.proofs.obeying.Going.{makes-after}
use Rattle.mh_handle.proofs.obeying.Obeying.{refused-makes, refused-obeys}

module _ (old new : Work) (e : CheckError) (r : Result Handle HandleError) (is : r ≡ Err (of_check e)) where
  error-is : IsErrAnd r (λ x. x ≡ of_check e)
  error-is = subst (λ v. IsErrAnd v (λ x. x ≡ of_check e)) (sym is) refl

  pub check-obeys : (row : TypeOrRefusal) → TellsRow (Err e) row → Obeys row r
  check-obeys row tells = refused-obeys row e r tells error-is

  pub check-makes : (recipe : List Key) → IsUnchanged old new → Makes recipe old new r
  check-makes recipe same = makes-after recipe old new new r same (refused-makes recipe new e r error-is)
