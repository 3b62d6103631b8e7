-- Which types a seat was asked for by the calls of a leaf.
use Rattle.std.proofs.Common.{◌≡◌, refl, sym, subst, List, [], ◌∷◌, ◌++◌, Result, Ok, Err, arith}
use Rattle.std.specs.Prelude.{IsErrAnd}
use Rattle.mh_values.specs.declared.types.MethodTy.{MethodTy}
use Rattle.mh_leaf.specs.LeafTable.{LeafTable}
use Rattle.mh_tree.specs.Rows.{TypeOrRefusal}
use Rattle.mh_tree.specs.Tree.{Tree}
use Rattle.mh_tree.specs.Typing.{type_of, held_before}
use Rattle.mh_handle.specs.declared.error.EditError.{EditError}
use Rattle.mh_handle.specs.declared.error.EditError.TheVariants as edit
use Rattle.mh_handle.specs.declared.error.HandleError.{HandleError}
use Rattle.mh_handle.specs.declared.error.HandleError.TheVariants as handle
use Rattle.mh_handle.specs.declared.handle.Handle.{Handle}
use Rattle.mh_handle.specs.declared.work.Work.{Work}
use Rattle.mh_handle.specs.Works.{TradesTypes, types_in}
use Rattle.mh_link.specs.Made.{types_of}
use Rattle.mh_attempt.specs.declared.error.WorkError.{WorkError}
use Rattle.mh_attempt.specs.declared.error.WorkError.TheVariants.{NoMemory, FormsFull, TypesFull}
use Rattle.mh_attempt.specs.AskedTypes.{AsksNoOther, AsksTypes}
use Rattle.mh_attempt.specs.Errors.{of_edit}

-- the types that a node asks for are those that its rule gives
row-types : (row : TypeOrRefusal) → types_in row ≡ held_before row [] ++ []
row-types (Ok t) = refl
row-types (Err e) = refl

-- the answer of a call that makes the handle of a leaf
abbrev pub leaf_answer : Result Handle HandleError → Result Handle WorkError
leaf_answer (Ok h) = Ok h
leaf_answer (Err handle.NoMemory) = Err NoMemory
leaf_answer (Err (handle.FormsFull drawn)) = Err (FormsFull drawn)
leaf_answer (Err (handle.TypesFull bucket)) = Err (TypesFull bucket)
leaf_answer (Err (handle.Refused e)) = Err NoMemory

-- what such a call asks for
trades-ask : (types : List MethodTy) (old new : Work) (r : Result Handle HandleError) → TradesTypes types [] old new r →
    AsksTypes types old new (leaf_answer r)
trades-ask types old new (Ok h) trades = trades.asked
trades-ask types old new (Err handle.NoMemory) trades = trades.asked
trades-ask types old new (Err (handle.FormsFull drawn)) trades = trades.asked
trades-ask types old new (Err (handle.TypesFull bucket)) trades = (trades.0.asked, (trades.1.0, trades.1.2))
trades-ask types old new (Err (handle.Refused e)) trades = λ t none. trades.asked t (omega (arith, none))

-- the handle of a leaf
pub leaf-asks : (table : LeafTable) (t : Tree) (old new : Work) (r : Result Handle HandleError) → TradesTypes (types_in (type_of table t)) [] old new r →
    AsksTypes (types_of table (t ∷ [])) old new (leaf_answer r)
leaf-asks table t old new r trades =
    trades-ask (types_of table (t ∷ [])) old new r (subst (λ ts. TradesTypes ts [] old new r) (row-types (type_of table t)) trades)

-- an error of the call of the handle that is handed on
pub edit-asks : {A : Type 0} (types : List MethodTy) (old new : Work) (e : EditError) (r : Result A WorkError) → IsErrAnd r (λ x. x ≡ of_edit e) →
    AsksNoOther types old.seat.now new.seat.now → AsksTypes types old new r
edit-asks types old new e (Ok a) is asks = absurd is
edit-asks {A = A} types old new edit.NoMemory (Err x) is asks = subst (λ error. AsksTypes {A = A} types old new (Err error)) (sym is) asks
edit-asks {A = A} types old new (edit.FormsFull drawn) (Err x) is asks = subst (λ error. AsksTypes {A = A} types old new (Err error)) (sym is) asks

-- and the same for want of memory
pub memory-asks : {A : Type 0} (types : List MethodTy) (old new : Work) (r : Result A WorkError) → IsErrAnd r (λ x. x ≡ NoMemory) →
    AsksNoOther types old.seat.now new.seat.now → AsksTypes types old new r
memory-asks types old new (Ok a) is asks = absurd is
memory-asks {A = A} types old new (Err x) is asks = subst (λ error. AsksTypes {A = A} types old new (Err error)) (sym is) asks
