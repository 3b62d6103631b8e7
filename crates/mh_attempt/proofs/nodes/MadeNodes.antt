-- What a call leaves that makes what an operation asks for, whichever way it ends.
use Rattle.std.proofs.Common.{◌≡◌, arith, sym, ◌∙◌, ap, subst, List, [], ◌∷◌, Result, Ok, Err, IfOk}
use Rattle.std.specs.Prelude.{IsErrAnd}
use Rattle.mh_base.proofs.Inversion.{ok_is}
use Rattle.mh_values.specs.declared.types.MethodTy.{MethodTy}
use Rattle.mh_intern.specs.Views.{HoldView}
use Rattle.mh_tree.specs.declared.error.CheckError.{CheckError}
use Rattle.mh_tree.specs.Check as row
use Rattle.mh_tree.specs.Rows.{TypeOrRefusal}
use Rattle.mh_tree.specs.Tree.{Tree}
use Rattle.mh_tree.specs.Typing.{type_of}
use Rattle.mh_handle.specs.declared.error.HandleError.{HandleError}
use Rattle.mh_handle.specs.declared.handle.Handle.{Handle}
use Rattle.mh_handle.specs.declared.work.Work.{Work}
use Rattle.mh_handle.specs.Errors.{of_check}
use Rattle.mh_handle.specs.Obeys.{Obeys}
use Rattle.mh_handle.specs.Recipe.{recipe}
use Rattle.mh_handle.specs.Stands.{Stands}
use Rattle.mh_handle.specs.Works.{GoesOn, IsAccepted, Makes, TradesTypes, types_in}
use Rattle.mh_handle.proofs.obeying.Going.{goes_on-more}
use Rattle.mh_handle.proofs.obeying.Rooms.{goes_on-none}
use Rattle.mh_jobs.specs.Thrown.{OrThrown, ◌>>=◌}
use Rattle.mh_link.specs.Made.{nodes_of}
use Rattle.mh_attempt.specs.declared.handle.HandleOperand.{HandleOperand}
use Rattle.mh_attempt.specs.Asked.{AsksIfMade, HasAskedMore, HasStopped}
use Rattle.mh_attempt.specs.AskedTypes.{AsksNoOther, AsksTypesOrThrows, node_types, types_made}
use Rattle.mh_attempt.specs.Lines.{typed}
use Rattle.mh_attempt.specs.Operations.{MakesAsked, MakesOf}
use Rattle.mh_attempt.specs.Recipes.{recipes_made}
use Rattle.mh_attempt.specs.Several.{Adds}
use Rattle.mh_attempt.proofs.types.Adding.{adds-made, adds-none, adds-then, adds-unmade}
use Rattle.mh_attempt.proofs.asked.AskedNodes.{asks-made, asks-refused}
use Rattle.mh_attempt.proofs.asked.AskedOperands.{asks-nodes, asks-unmade}
use Rattle.mh_attempt.proofs.types.AskingTypes.{types-refused}
use Rattle.mh_attempt.proofs.nodes.LineNodes.{error-node, node-of-leaf, node-of-root, refused-node, ruled-node, same-node, typed-is, unmade-node}
use Rattle.mh_attempt.proofs.types.OperandTypes.{types-root, types-row, types-unmade_node}

-- ---- no node

module _ (operands : List HandleOperand) (w : Work) (m : OrThrown Tree) (itself : Tree → List Tree) where
  -- the rule refuses it
  pub of-refused : (rule : TypeOrRefusal) (error : CheckError) (r : Result Handle HandleError) → IsErrAnd r (λ x. x ≡ of_check error) →
      (m >>= type_of w.leaves.now) ≡ rule → row.TellsRow (Err error) rule → MakesAsked operands m itself w w r
  of-refused rule error r is ruled told = record {
    goes_on = goes_on-none 4 w;
    types = adds-unmade w w r _ is (adds-none w);
    node = error-node _ w w (of_check error) r is (refused-node w m rule error ruled told);
    asks = λ n given. asks-refused (recipes_made w.leaves.now operands (itself n)) w w error r is;
    asked = types-refused (node_types w.leaves.now operands (m >>= typed w.leaves.now)) w error r is;
  }

  -- the rule gives a type, and the handles of the operands are not made
  pub of-unmade : (A : Type 0) (new : Work) (n : Tree) (own : MethodTy) (error : HandleError) (r : Result Handle HandleError) →
      IsErrAnd r (λ x. x ≡ error) → m ≡ Ok n → type_of w.leaves.now n ≡ Ok own → GoesOn 4 w new → Adds [] w new → IsAccepted (Err error) →
      HasStopped (recipes_made w.leaves.now operands []) w.pass.now new.pass.now error →
      AsksTypesOrThrows {A = A} (types_made w.leaves.now operands []) w new (Err error) → MakesAsked operands m itself w new r
  of-unmade A new n own error r is given ruled goes adds accepted stopped asked =
      let named = ap (λ x. x >>= typed w.leaves.now) given in
      record {
        goes_on = goes;
        types = adds-unmade w new r _ is adds;
        node = same-node _ _ w new r named (error-node _ w new error r is (unmade-node w new n own error ruled accepted));
        asks = λ u named_u. asks-unmade w.leaves.now operands (itself u) w new error r is stopped;
        asked =
            types-unmade_node A w.leaves.now operands (m >>= typed w.leaves.now) n w new error r (named ∙ typed-is w.leaves.now n own ruled) is asked;
      }

-- ---- a node

-- of no operand
pub of-root : (old new : Work) (n : Tree) (r : Result Handle HandleError) → nodes_of n ≡ n ∷ [] → GoesOn 1 old new → Obeys (type_of old.leaves.now n) r →
    Makes (recipe old.leaves.now n) old new r → IfOk r (λ h. Stands old.leaves.now h n) → TradesTypes (types_in (type_of old.leaves.now n)) [] old new r →
    MakesOf [] n old new r
of-root old new n r alone goes obeys makes stands types = record {
  goes_on = goes_on-more 1 4 old new (omega arith) goes;
  types = adds-made (types_in (type_of old.leaves.now n)) old new r types;
  node = node-of-root old new n (recipe old.leaves.now n) r obeys makes stands;
  asks =
      λ u given. subst (λ v. AsksIfMade (recipes_made old.leaves.now [] (v ∷ [])) old new r) (ok_is n u given)
      (asks-made (recipe old.leaves.now n) old new r makes);
  asked = types-root old new n r alone types;
}

-- of a leaf, which is never refused
pub of-leaf : (old new : Work) (n : Tree) (own : MethodTy) (r : Result Handle HandleError) → nodes_of n ≡ n ∷ [] → type_of old.leaves.now n ≡ Ok own →
    GoesOn 1 old new → IsAccepted r → Makes (recipe old.leaves.now n) old new r → IfOk r (λ h. Stands old.leaves.now h n) →
    TradesTypes (types_in (type_of old.leaves.now n)) [] old new r → MakesOf [] n old new r
of-leaf old new n own r alone is goes accepted makes stands types = record {
  goes_on = goes_on-more 1 4 old new (omega arith) goes;
  types = adds-made (types_in (type_of old.leaves.now n)) old new r types;
  node = node-of-leaf old new n own r is accepted stands;
  asks =
      λ u given. subst (λ v. AsksIfMade (recipes_made old.leaves.now [] (v ∷ [])) old new r) (ok_is n u given)
      (asks-made (recipe old.leaves.now n) old new r makes);
  asked = types-root old new n r alone types;
}

-- of operands whose handles are made, by a rule that was asked before and gives a type
pub of-ruled : (operands : List HandleOperand) (old mid new : Work) (own : MethodTy) (came : List HoldView) (r : Result Handle HandleError) →
    GoesOn 4 old new → mid.leaves ≡ old.leaves → Adds came old mid → HasAskedMore (recipes_made old.leaves.now operands []) old.pass.now mid.pass.now →
    AsksNoOther (types_made old.leaves.now operands []) old.seat.now mid.seat.now → (n : Tree) → nodes_of n ≡ n ∷ [] → type_of old.leaves.now n ≡ Ok own →
    IsAccepted r → Makes (recipe mid.leaves.now n) mid new r → IfOk r (λ h. Stands mid.leaves.now h n) → TradesTypes (own ∷ []) came mid new r →
    MakesOf operands n old new r
of-ruled operands old mid new own came r goes same adds asks asked n alone is accepted makes made types = record {
  goes_on = goes;
  types = adds-then (own ∷ []) came old mid new r adds types;
  node = ruled-node old mid new n own r same is accepted made;
  asks =
      λ u given. subst (λ v. AsksIfMade (recipes_made old.leaves.now operands (v ∷ [])) old new r) (ok_is n u given)
      (asks-nodes operands (λ leaves. n ∷ []) old mid new r same asks (asks-made (recipe mid.leaves.now n) mid new r makes));
  asked = types-row operands n own (Ok own) came old mid new r alone is is asked types;
}

-- ---- what an operation asks for

-- where the tree and the forms are known
pub for-asked : (operands : List HandleOperand) (m n : OrThrown Tree) (itself nodes : Tree → List Tree) (old new : Work) (r : Result Handle HandleError) →
    m ≡ n → itself ≡ nodes → MakesAsked operands n nodes old new r → MakesAsked operands m itself old new r
for-asked operands m n itself nodes old new r same forms makes =
    subst (λ f. MakesAsked operands m f old new r) (sym forms) (subst (λ x. MakesAsked operands x nodes old new r) (sym same) makes)
