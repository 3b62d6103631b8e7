-- Which types runs of scripts ask a seat for.
use Rattle.std.proofs.Common.{◌≡◌, sym, ◌∙◌, subst, List, [], ◌∷◌, ◌++◌, append-nil, Result, arith}
use Rattle.mh_values.specs.declared.types.MethodTy.{MethodTy}
use Rattle.mh_intern.specs.Exchanges.{Exchanges}
use Rattle.mh_intern.specs.Views.{HoldView, SeatView}
use Rattle.mh_leaf.specs.LeafTable.{LeafTable}
use Rattle.mh_handle.specs.declared.error.HandleError.{HandleError}
use Rattle.mh_handle.specs.declared.work.Work.{Work}
use Rattle.mh_script.specs.declared.operand.Register.{Register}
use Rattle.mh_link.specs.Made.{node_of_use, nodes_of_uses, types_of}
use Rattle.mh_link.specs.Operands.{Frame}
use Rattle.mh_attempt.specs.declared.handle.HandleOperand.{HandleOperand}
use Rattle.mh_attempt.specs.AskedTypes.{AsksNoOther, AsksTypesOrThrows, types_made}
use Rattle.mh_attempt.specs.Registers.{node_made}
use Rattle.mh_attempt.proofs.asked.AskedOperations.{one-use}

-- holds are given for others, and no type is asked for
pub no_other-back : (types : List MethodTy) (gone came : List HoldView) (a b c : SeatView) → AsksNoOther types a b → Exchanges [] gone came b c →
    AsksNoOther types a c
no_other-back types gone came a b c x y t none = let early = x t none in y.asked t (omega (arith, early))

-- the types are the same
pub same-types : {A : Type 0} (types other : List MethodTy) (old new : Work) (r : Result A HandleError) → types ≡ other →
    AsksTypesOrThrows other old new r → AsksTypesOrThrows types old new r
same-types types other old new r is asked = subst (λ ts. AsksTypesOrThrows ts old new r) (sym is) asked

-- those of the nodes that one use makes, and no others
pub alone-types : {A : Type 0} (leaves : LeafTable) (frame : Frame) (o : HandleOperand) (h : Register) (old new : Work) (r : Result A HandleError) →
    node_made o ≡ node_of_use frame h → AsksTypesOrThrows (types_made leaves (o ∷ []) []) old new r →
    AsksTypesOrThrows (types_of leaves (nodes_of_uses frame (h ∷ []))) old new r
alone-types leaves frame o h old new r same asked =
    subst (λ ts. AsksTypesOrThrows (types_of leaves ts) old new r) (append-nil (node_made o ++ []) ∙ one-use frame o h same) asked
