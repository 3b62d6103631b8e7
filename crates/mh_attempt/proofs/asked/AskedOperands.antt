-- What lines leave of a pass that make handles of operands, and then nodes of them.
use Rattle.std.proofs.Common.{◌≡◌, sym, ◌∙◌, ap, subst, List, [], ◌∷◌, ◌++◌, append-nil, append_assoc, map, flat_map, Result}
use Rattle.std.specs.Prelude.{IsErrAnd}
use Rattle.std.proofs.lemmas.List.{map-append}
use Rattle.std.proofs.lemmas.List.Concat.{flat_map-append}
use Rattle.mh_values.specs.declared.value.LeafId.{LeafId}
use Rattle.mh_leaf.specs.LeafTable.{LeafTable}
use Rattle.mh_tree.specs.Tree.{Tree}
use Rattle.mh_tree.specs.Tree as tree
use Rattle.mh_handle.specs.declared.error.HandleError.{HandleError}
use Rattle.mh_handle.specs.declared.handle.Handle.{Handle}
use Rattle.mh_handle.specs.declared.work.Work.{Work}
use Rattle.mh_handle.specs.Recipe.{recipe}
use Rattle.mh_handle.specs.Works.{Makes}
use Rattle.mh_attempt.specs.declared.handle.HandleOperand.{HandleOperand}
use Rattle.mh_attempt.specs.declared.handle.HandleOperand.TheVariants as operand
use Rattle.mh_attempt.specs.Asked.{AsksIfMade, HasAskedMore, HasStopped}
use Rattle.mh_attempt.specs.Recipes.{recipes_made}
use Rattle.mh_attempt.specs.Registers.{node_made}
use Rattle.mh_attempt.proofs.asked.AskedNodes.{asks-made, asks-stopped, asks-then}

-- ---- handles of operands

-- of operands, and then of nodes
made-then : (leaves : LeafTable) (operands : List HandleOperand) (nodes : List Tree) →
    recipes_made leaves operands [] ++ map (recipe leaves) nodes ≡ recipes_made leaves operands nodes
made-then leaves operands nodes =
    let made = flat_map node_made operands in
    ap (λ ts. map (recipe leaves) ts ++ map (recipe leaves) nodes) (append-nil made) ∙ sym (map-append (recipe leaves) made nodes)

-- of operands, and of others
made-both : (leaves : LeafTable) (operands others : List HandleOperand) →
    recipes_made leaves operands [] ++ recipes_made leaves others [] ≡ recipes_made leaves (operands ++ others) []
made-both leaves operands others =
    let made = flat_map node_made operands in
    let more = flat_map node_made others in
    made-then leaves operands (more ++ []) ∙ ap (map (recipe leaves)) (sym (append_assoc made more []) ∙
    ap (λ ts. ts ++ []) (sym (flat_map-append node_made operands others)))

-- a handle of a leaf
pub asks-leaf : (o : HandleOperand) (l : LeafId) (old new : Work) (r : Result Handle HandleError) → o ≡ operand.Leaf l →
    Makes (recipe old.leaves.now (tree.Leaf l)) old new r → AsksIfMade (recipes_made old.leaves.now (o ∷ []) []) old new r
asks-leaf o l old new r is makes =
    subst (λ p. AsksIfMade (recipes_made old.leaves.now (p ∷ []) []) old new r) (sym is) (asks-made (recipe old.leaves.now (tree.Leaf l)) old new r makes)

-- the handles of operands could not be made
pub asks-unmade : {A : Type 0} (leaves : LeafTable) (operands : List HandleOperand) (nodes : List Tree) (old new : Work) (error : HandleError)
    (r : Result A HandleError) → IsErrAnd r (λ x. x ≡ error) → HasStopped (recipes_made leaves operands []) old.pass.now new.pass.now error →
    AsksIfMade (recipes_made leaves operands nodes) old new r
asks-unmade leaves operands nodes old new error r is stopped =
    subst (λ rs. AsksIfMade rs old new r) (made-then leaves operands nodes)
    (asks-stopped (recipes_made leaves operands []) (map (recipe leaves) nodes) old new error r is stopped)

-- so that those of others were not made
pub asks-unmade-both : {A : Type 0} (leaves : LeafTable) (operands others : List HandleOperand) (old new : Work) (error : HandleError)
    (r : Result A HandleError) → IsErrAnd r (λ x. x ≡ error) → HasStopped (recipes_made leaves operands []) old.pass.now new.pass.now error →
    AsksIfMade (recipes_made leaves (operands ++ others) []) old new r
asks-unmade-both leaves operands others old new error r is stopped =
    subst (λ rs. AsksIfMade rs old new r) (made-both leaves operands others)
    (asks-stopped (recipes_made leaves operands []) (recipes_made leaves others []) old new error r is stopped)

-- they were made, and then others
pub asks-more : {A : Type 0} (operands others : List HandleOperand) (old mid new : Work) (r : Result A HandleError) → mid.leaves ≡ old.leaves →
    HasAskedMore (recipes_made old.leaves.now operands []) old.pass.now mid.pass.now → AsksIfMade (recipes_made mid.leaves.now others []) mid new r →
    AsksIfMade (recipes_made old.leaves.now (operands ++ others) []) old new r
asks-more operands others old mid new r same first asks =
    subst (λ rs. AsksIfMade rs old new r) (made-both old.leaves.now operands others)
    (asks-then (recipes_made old.leaves.now operands []) (recipes_made old.leaves.now others []) old mid new r first
    (subst (λ leaves. AsksIfMade (recipes_made leaves others []) mid new r) (ap (λ l. l.now) same) asks))

-- they were made, and then nodes of them
pub asks-nodes : {A : Type 0} (operands : List HandleOperand) (nodes : LeafTable → List Tree) (old mid new : Work) (r : Result A HandleError) →
    mid.leaves ≡ old.leaves → HasAskedMore (recipes_made old.leaves.now operands []) old.pass.now mid.pass.now →
    AsksIfMade (map (recipe mid.leaves.now) (nodes mid.leaves.now)) mid new r →
    AsksIfMade (recipes_made old.leaves.now operands (nodes old.leaves.now)) old new r
asks-nodes operands nodes old mid new r same first asks =
    let all = nodes old.leaves.now in
    subst (λ rs. AsksIfMade rs old new r) (made-then old.leaves.now operands all)
    (asks-then (recipes_made old.leaves.now operands []) (map (recipe old.leaves.now) all) old mid new r first
    (subst (λ leaves. AsksIfMade (map (recipe leaves) (nodes leaves)) mid new r) (ap (λ l. l.now) same) asks))
