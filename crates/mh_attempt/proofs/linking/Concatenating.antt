-- What a call leaves that makes a concatenation, or that is refused its pieces.
use Rattle.std.proofs.Common.{◌≡◌, sym, ap, subst, List, [], ◌∷◌, map, Result, Ok, Err, IfOk}
use Rattle.std.specs.Prelude.{IsErrAnd}
use Rattle.mh_values.specs.declared.class.Class.{Class}
use Rattle.mh_values.specs.declared.types.MethodTy.{MethodTy}
use Rattle.mh_leaf.specs.LeafTable.{LeafTable}
use Rattle.mh_pieces.specs.declared.piece.Piece.{Piece}
use Rattle.mh_tree.specs.declared.error.CheckError.{CheckError}
use Rattle.mh_tree.specs.declared.error.CheckError.TheVariants as check
use Rattle.mh_tree.specs.Rows.{concat_row}
use Rattle.mh_tree.specs.Tree.{Tree}
use Rattle.mh_tree.specs.Tree as tree
use Rattle.mh_edit.specs.declared.key.Key.{Key}
use Rattle.mh_handle.specs.declared.error.HandleError.{HandleError}
use Rattle.mh_handle.specs.declared.error.HandleError.TheVariants.{NoMemory, FormsFull, TypesFull, Refused}
use Rattle.mh_handle.specs.declared.handle.Handle.{Handle}
use Rattle.mh_handle.specs.declared.work.Work.{Work}
use Rattle.mh_handle.specs.Errors.{of_check}
use Rattle.mh_handle.specs.Recipe.{recipe}
use Rattle.mh_handle.specs.Stands.{Stands}
use Rattle.mh_handle.specs.Works.{IsAccepted, Makes, TradesTypes, types_in}
use Rattle.mh_jobs.specs.declared.job.Argument.{Argument}
use Rattle.mh_jobs.specs.declared.job.BootstrapCall.{BootstrapCall}
use Rattle.mh_jobs.specs.Thrown.{OrThrown, ◌>>=◌}
use Rattle.mh_link.specs.Concatenation.{concat_of, pieces_given}
use Rattle.mh_link.specs.Made.{concat_nodes, types_of, unless_thrown}
use Rattle.mh_attempt.specs.Asked.{AsksIfMade, AsksOrThrows, HasAskedMore}
use Rattle.mh_attempt.specs.AskedTypes.{AsksTypesOrThrows}
use Rattle.mh_attempt.specs.Lines.{TellsTarget}
use Rattle.mh_attempt.specs.Told.{Tells}
use Rattle.mh_attempt.proofs.asked.AskedAfter.{asked_more-none}
use Rattle.mh_attempt.proofs.asked.AskedNodes.{asks-made}
use Rattle.mh_attempt.proofs.types.AskingTypes.{types-traded}
use Rattle.mh_attempt.proofs.types.OperandTypes.{tree-types}

-- ---- the pieces

-- over what is equal
pub same-pieces : (classes own : List Class) (t ty : MethodTy) (given arguments : List Argument) (r : Result (List Piece) CheckError) → classes ≡ own → t ≡ ty →
    given ≡ arguments → Tells r (pieces_given classes t given) → Tells r (pieces_given own ty arguments)
same-pieces classes own t ty given arguments r same same' same'' told =
    subst (λ m. Tells r m) ((λ i. pieces_given (same i) (same' i) (same'' i))) told

module _ (leaves : LeafTable) (call : BootstrapCall) where
  -- what is made of pieces
  abbrev of_pieces : List Piece → OrThrown Tree
  of_pieces pieces = Ok (tree.Concat call.ty pieces)

  -- ---- no pieces

  -- the target is thrown
  pub refused-target : (error : CheckError) (w : Work) (r : Result Handle HandleError) → IsErrAnd r (λ x. x ≡ of_check error) →
      Tells {A = List Piece} (Err error) (pieces_given leaves.classes call.ty call.arguments) → TellsTarget (concat_of leaves.classes call) w r
  refused-target error w (Ok h) is told = absurd is
  refused-target error w (Err x) is told = subst (λ e. TellsTarget (concat_of leaves.classes call) w (Err e)) (sym is) (early error told)
    where
      early : (e : CheckError) → Tells {A = List Piece} (Err e) (pieces_given leaves.classes call.ty call.arguments) →
          TellsTarget (concat_of leaves.classes call) w (Err (of_check e))
      early check.NoMemory told = tt
      early (check.Refused e) told = ap (λ m. m >>= of_pieces) told

  -- and no form is asked for
  pub refused-asks : (error : CheckError) (w : Work) (r : Result Handle HandleError) → IsErrAnd r (λ x. x ≡ of_check error) →
      Tells {A = List Piece} (Err error) (pieces_given leaves.classes call.ty call.arguments) →
      AsksOrThrows (map (recipe leaves) (concat_nodes leaves.classes call)) w w r
  refused-asks error w (Ok h) is told = absurd is
  refused-asks error w (Err x) is told =
      subst (λ e. AsksOrThrows {A = Handle} (map (recipe leaves) (concat_nodes leaves.classes call)) w w (Err e)) (sym is) (early error told)
    where
      early : (e : CheckError) → Tells {A = List Piece} (Err e) (pieces_given leaves.classes call.ty call.arguments) →
          AsksOrThrows {A = Handle} (map (recipe leaves) (concat_nodes leaves.classes call)) w w (Err (of_check e))
      early check.NoMemory told = tt
      early (check.Refused e) told =
          subst (λ m. HasAskedMore (map (recipe leaves) (unless_thrown (m >>= of_pieces) (λ t. t ∷ []))) w.pass.now w.pass.now) (sym told)
          (asked_more-none w.pass.now)

  -- ---- pieces

  module _ (pieces : List Piece) (given : pieces_given leaves.classes call.ty call.arguments ≡ Ok pieces) where
    -- the target is the handle
    pub made-target : (w : Work) (r : Result Handle HandleError) → IsAccepted r →
        IfOk r (λ h. Stands w.leaves.now h (tree.Concat call.ty pieces)) → TellsTarget (concat_of leaves.classes call) w r
    made-target w (Ok h) accepted stands = (tree.Concat call.ty pieces, ap (λ m. m >>= of_pieces) given, stands)
    made-target w (Err (Refused e)) accepted stands = absurd accepted
    made-target w (Err (FormsFull drawn)) accepted stands = tt
    made-target w (Err (TypesFull bucket)) accepted stands = tt
    made-target w (Err NoMemory) accepted stands = tt

    asked : (recipes : List (List Key)) (old new : Work) (r : Result Handle HandleError) → IsAccepted r → AsksIfMade recipes old new r →
        AsksOrThrows recipes old new r
    asked recipes old new (Ok h) accepted asks = asks
    asked recipes old new (Err (Refused e)) accepted asks = absurd accepted
    asked recipes old new (Err (FormsFull drawn)) accepted asks = asks
    asked recipes old new (Err (TypesFull bucket)) accepted asks = asks
    asked recipes old new (Err NoMemory) accepted asks = tt

    -- its form is asked for
    pub made-asks : (old new : Work) (r : Result Handle HandleError) → IsAccepted r → Makes (recipe leaves (tree.Concat call.ty pieces)) old new r →
        AsksOrThrows (map (recipe leaves) (concat_nodes leaves.classes call)) old new r
    made-asks old new r accepted makes =
        let keys = recipe leaves (tree.Concat call.ty pieces) in
        subst (λ m. AsksOrThrows (map (recipe leaves) (unless_thrown (m >>= of_pieces) (λ t. t ∷ []))) old new r) (sym given)
        (asked (keys ∷ []) old new r accepted (asks-made keys old new r makes))

    -- and its type
    pub made-types : (old new : Work) (r : Result Handle HandleError) →
        TradesTypes (types_in (concat_row leaves.classes call.ty pieces)) [] old new r →
        AsksTypesOrThrows (types_of leaves (concat_nodes leaves.classes call)) old new r
    made-types old new r trades =
        let node = tree.Concat call.ty pieces in
        subst (λ m. AsksTypesOrThrows (types_of leaves (unless_thrown (m >>= of_pieces) (λ t. t ∷ []))) old new r) (sym given)
        (subst (λ ts. AsksTypesOrThrows ts old new r) (tree-types leaves node)
        (types-traded (types_in (concat_row leaves.classes call.ty pieces)) [] old new r trades))
