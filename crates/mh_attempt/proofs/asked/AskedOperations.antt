-- What the lines of operations leave of a pass, by the nodes whose forms they ask for.
use Rattle.std.proofs.Common.{◌≡◌, sym, ◌∙◌, ap, subst, List, [], ◌∷◌, ◌++◌, append-nil, map, flat_map, Result, Ok, Err}
use Rattle.std.specs.Prelude.{IsErrAnd}
use Rattle.mh_base.proofs.Inversion.{ok_is}
use Rattle.mh_leaf.specs.LeafTable.{LeafTable}
use Rattle.mh_tree.specs.declared.error.CheckError.{CheckError}
use Rattle.mh_tree.specs.Tree.{Tree}
use Rattle.mh_tree.specs.Typing.{type_of}
use Rattle.mh_handle.specs.declared.error.HandleError.{HandleError}
use Rattle.mh_handle.specs.declared.error.HandleError.TheVariants.{NoMemory, FormsFull, TypesFull, Refused}
use Rattle.mh_handle.specs.declared.handle.Handle.{Handle}
use Rattle.mh_handle.specs.declared.work.Work.{Work}
use Rattle.mh_handle.specs.Errors.{of_check}
use Rattle.mh_handle.specs.Recipe.{recipe}
use Rattle.mh_jobs.specs.Thrown.{OrThrown, ◌>>=◌}
use Rattle.mh_jobs.proofs.Parts.{bound-parts}
use Rattle.mh_script.specs.declared.operand.Register.{Register}
use Rattle.mh_script.specs.declared.script.Operation.{Operation}
use Rattle.mh_link.specs.Made.{handles_of, node_of_use, nodes_of_uses, unless_thrown}
use Rattle.mh_link.specs.Operands.{Frame}
use Rattle.mh_link.specs.Operations.{node_of}
use Rattle.mh_attempt.specs.declared.handle.HandleOperand.{HandleOperand}
use Rattle.mh_attempt.specs.Asked.{AsksIfMade, AsksOrThrows, HasAskedMore, HasStoppedAt, HasNoNumber}
use Rattle.mh_attempt.specs.Lines.{MakesNode, typed}
use Rattle.mh_attempt.specs.Recipes.{asked_itself, line_recipes, recipes_made}
use Rattle.mh_attempt.specs.Registers.{node_made}
use Rattle.mh_attempt.proofs.asked.AskedNodes.{asks-refused, asks-still}

-- what is asked for where there is a node, and nothing where one is thrown
pub asks-node : (leaves : LeafTable) (node : OrThrown Tree) (asked : Tree → List Tree) (old new : Work) (r : Result Handle HandleError) →
    MakesNode node old new r → ((t : Tree) → node ≡ Ok t → AsksIfMade (map (recipe leaves) (asked t)) old new r) →
    AsksOrThrows (map (recipe leaves) (unless_thrown node asked)) old new r
asks-node leaves node asked old new (Ok h) makes asks =
    subst (λ m. HasAskedMore (map (recipe leaves) (unless_thrown m asked)) old.pass.now new.pass.now) (sym makes.1) (asks makes.0 makes.1)
asks-node leaves node asked old new (Err NoMemory) makes asks = tt
asks-node leaves node asked old new (Err (TypesFull bucket)) makes asks =
    subst (λ m. HasStoppedAt (map (recipe leaves) (unless_thrown m asked)) old.pass.now new.pass.now) (sym makes.1) (asks makes.0 makes.1)
asks-node leaves node asked old new (Err (FormsFull drawn)) makes asks =
    subst (λ m. HasNoNumber (map (recipe leaves) (unless_thrown m asked)) drawn old.pass.now new.pass.now) (sym makes.1) (asks makes.0 makes.1)
asks-node leaves node asked old new (Err (Refused e)) makes asks =
    subst (λ m. HasAskedMore (map (recipe leaves) (unless_thrown m asked)) old.pass.now new.pass.now) (sym makes.0)
    (asks-still old.pass.now new.pass.now makes.1.pass)

-- where a check refuses
pub asks-thrown : (leaves : LeafTable) (node : OrThrown Tree) (asked : Tree → List Tree) (old new : Work) (error : CheckError)
    (r : Result Handle HandleError) → IsErrAnd r (λ x. x ≡ of_check error) → MakesNode node old new r →
    AsksOrThrows (map (recipe leaves) (unless_thrown node asked)) old new r
asks-thrown leaves node asked old new error r is makes =
    asks-node leaves node asked old new r makes (λ t _. asks-refused (map (recipe leaves) (asked t)) old new error r is)

-- ---- operations

module _ (leaves : LeafTable) (frame : Frame) (op : Operation) (old new : Work) (r : Result Handle HandleError)
    (makes : MakesNode (node_of leaves frame op) old new r) where
  -- an operand throws
  pub line-thrown : (error : CheckError) → IsErrAnd r (λ x. x ≡ of_check error) → AsksOrThrows (line_recipes leaves frame op) old new r
  line-thrown error is =
      asks-thrown leaves (node_of leaves frame op) (λ n. nodes_of_uses frame (handles_of op) ++ asked_itself leaves frame op n) old new error r is makes

  -- operands are found, of which a tree is made that may be refused
  pub line-asks : (operands : List HandleOperand) (m : OrThrown Tree) → flat_map node_made operands ≡ nodes_of_uses frame (handles_of op) →
      node_of leaves frame op ≡ (m >>= typed leaves) →
      ((t : Tree) → m ≡ Ok t → AsksIfMade (recipes_made leaves operands (asked_itself leaves frame op t)) old new r) →
      AsksOrThrows (line_recipes leaves frame op) old new r
  line-asks operands m same is asks =
      asks-node leaves (node_of leaves frame op) (λ n. nodes_of_uses frame (handles_of op) ++ asked_itself leaves frame op n) old new r makes
      (λ n given.
      let found = bound-parts m (typed leaves) n (sym is ∙ given) in
      let own = bound-parts (type_of leaves found.0) (λ _. Ok found.0) n found.2 in
      subst (λ uses. AsksIfMade (map (recipe leaves) (uses ++ asked_itself leaves frame op n)) old new r) same
      (asks n (subst (λ t. m ≡ Ok t) (ok_is found.0 n own.2) found.1)))

-- ---- uses of operands

pub one-use : (frame : Frame) (a : HandleOperand) (h : Register) → node_made a ≡ node_of_use frame h →
    flat_map node_made (a ∷ []) ≡ nodes_of_uses frame (h ∷ [])
one-use frame a h first = ap (λ ts. ts ++ []) first

-- what is asked for by one use, and nothing more
pub alone-asks : (leaves : LeafTable) (frame : Frame) (o : HandleOperand) (h : Register) (old new : Work) (r : Result Handle HandleError) →
    node_made o ≡ node_of_use frame h → AsksIfMade (recipes_made leaves (o ∷ []) []) old new r →
    AsksIfMade (map (recipe leaves) (nodes_of_uses frame (h ∷ []))) old new r
alone-asks leaves frame o h old new r same asks =
    subst (λ ts. AsksIfMade (map (recipe leaves) ts) old new r) (append-nil (node_made o ++ []) ∙ one-use frame o h same) asks
