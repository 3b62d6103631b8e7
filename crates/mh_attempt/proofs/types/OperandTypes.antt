-- The types of nodes, and of the handles that a line names.
use Rattle.std.proofs.Common.{◌≡◌, refl, sym, ◌∙◌, ap, subst, List, [], ◌∷◌, ◌++◌, append-nil, append_assoc, flat_map, Result, Ok, Err}
use Rattle.std.specs.Prelude.{IsErrAnd}
use Rattle.std.proofs.lemmas.List.Concat.{flat_map-append}
use Rattle.mh_values.specs.declared.types.MethodTy.{MethodTy}
use Rattle.mh_values.specs.declared.value.LeafId.{LeafId}
use Rattle.mh_intern.specs.Views.{HoldView}
use Rattle.mh_leaf.specs.LeafTable.{LeafTable}
use Rattle.mh_tree.specs.Rows.{TypeOrRefusal}
use Rattle.mh_tree.specs.Tree.{Tree}
use Rattle.mh_tree.specs.Tree as tree
use Rattle.mh_tree.specs.Typing.{held_before, type_of}
use Rattle.mh_handle.specs.declared.error.HandleError.{HandleError}
use Rattle.mh_handle.specs.declared.handle.Handle.{Handle}
use Rattle.mh_handle.specs.declared.work.Work.{Work}
use Rattle.mh_handle.specs.Works.{TradesTypes, types_in}
use Rattle.mh_jobs.specs.Thrown.{OrThrown, ◌>>=◌}
use Rattle.mh_link.specs.Made.{nodes_of, types_of, unless_thrown}
use Rattle.mh_attempt.specs.declared.handle.HandleOperand.{HandleOperand}
use Rattle.mh_attempt.specs.declared.handle.HandleOperand.TheVariants as operand
use Rattle.mh_attempt.specs.AskedTypes.{AsksNoOther, AsksTypesOrThrows, node_types, types_made}
use Rattle.mh_attempt.specs.Lines.{typed}
use Rattle.mh_attempt.specs.Registers.{node_made}
use Rattle.mh_attempt.proofs.types.TypeLists.{IsWithin, within-equal, within-first}
use Rattle.mh_attempt.proofs.types.AskingTypes.{types-handed, types-more, types-then, types-traded}
use Rattle.mh_attempt.proofs.nodes.LineNodes.{typed-is}

-- ---- types of nodes

-- the type that a rule gives, where it gives one
row-types : (m : TypeOrRefusal) → types_in m ≡ held_before m []
row-types (Ok t) = refl
row-types (Err e) = refl

-- the type of one node
pub tree-types : (leaves : LeafTable) (n : Tree) → types_in (type_of leaves n) ≡ types_of leaves (n ∷ [])
tree-types leaves n = row-types (type_of leaves n) ∙ sym (append-nil (held_before (type_of leaves n) []))

-- of nodes, and then of others
pub types-both : (leaves : LeafTable) (ns ms : List Tree) → types_of leaves (ns ++ ms) ≡ types_of leaves ns ++ types_of leaves ms
types-both leaves ns ms = flat_map-append (λ t. held_before (type_of leaves t) []) ns ms

-- of operands, and then of nodes
made-then : (leaves : LeafTable) (operands : List HandleOperand) (nodes : List Tree) →
    types_made leaves operands [] ++ types_of leaves nodes ≡ types_made leaves operands nodes
made-then leaves operands nodes =
    let made = flat_map node_made operands in
    ap (λ ts. types_of leaves ts ++ types_of leaves nodes) (append-nil made) ∙ sym (types-both leaves made nodes)

-- of operands, and of others
made-both : (leaves : LeafTable) (operands others : List HandleOperand) →
    types_made leaves operands [] ++ types_made leaves others [] ≡ types_made leaves (operands ++ others) []
made-both leaves operands others =
    let made = flat_map node_made operands in
    let more = flat_map node_made others in
    made-then leaves operands (more ++ []) ∙ ap (types_of leaves) (sym (append_assoc made more []) ∙
    ap (λ ts. ts ++ []) (sym (flat_map-append node_made operands others)))

-- of operands, and then of a node that is not thrown
made-node : (leaves : LeafTable) (operands : List HandleOperand) (node : OrThrown Tree) (n : Tree) → node ≡ Ok n →
    types_made leaves operands [] ++ types_of leaves (nodes_of n) ≡ node_types leaves operands node
made-node leaves operands node n is =
    made-then leaves operands (nodes_of n) ∙ ap (λ m. types_of leaves (unless_thrown m (λ u. flat_map node_made operands ++ nodes_of u))) (sym is)

-- ---- handles of operands

-- a handle of a leaf
pub types-leaf : (o : HandleOperand) (l : LeafId) (old new : Work) (r : Result Handle HandleError) → o ≡ operand.Leaf l →
    TradesTypes (types_in (type_of old.leaves.now (tree.Leaf l))) [] old new r → AsksTypesOrThrows (types_made old.leaves.now (o ∷ []) []) old new r
types-leaf o l old new r is x =
    let leaves = old.leaves.now in
    subst (λ p. AsksTypesOrThrows (types_made leaves (p ∷ []) []) old new r) (sym is)
    (subst (λ ts. AsksTypesOrThrows ts old new r) (tree-types leaves (tree.Leaf l)) (types-traded (types_in (type_of leaves (tree.Leaf l))) [] old new r x))

-- they were made, and then others
pub types-others : {A : Type 0} (operands others : List HandleOperand) (old mid new : Work) (r : Result A HandleError) → mid.leaves ≡ old.leaves →
    AsksNoOther (types_made old.leaves.now operands []) old.seat.now mid.seat.now → AsksTypesOrThrows (types_made mid.leaves.now others []) mid new r →
    AsksTypesOrThrows (types_made old.leaves.now (operands ++ others) []) old new r
types-others operands others old mid new r same first asked =
    let leaves = old.leaves.now in
    subst (λ ts. AsksTypesOrThrows ts old new r) (made-both leaves operands others)
    (types-then (types_made leaves operands []) (types_made leaves others []) old mid new r first
    (subst (λ l. AsksTypesOrThrows (types_made l others []) mid new r) (ap (λ l. l.now) same) asked))

-- they could not be made, so that others were not
pub types-unmade_both : (A : Type 0) {B : Type 0} (leaves : LeafTable) (operands others : List HandleOperand) (old new : Work) (error : HandleError)
    (r : Result B HandleError) → IsErrAnd r (λ x. x ≡ error) → AsksTypesOrThrows {A = A} (types_made leaves operands []) old new (Err error) →
    AsksTypesOrThrows (types_made leaves (operands ++ others) []) old new r
types-unmade_both A leaves operands others old new error r is asked =
    let first = types_made leaves operands [] in
    subst (λ ts. AsksTypesOrThrows ts old new r) (made-both leaves operands others)
    (types-more first (first ++ types_made leaves others []) old new r (within-first first (types_made leaves others []))
    (types-handed A first old new error r is asked))

-- so that a node was not, which is not thrown
pub types-unmade_node : (A : Type 0) {B : Type 0} (leaves : LeafTable) (operands : List HandleOperand) (node : OrThrown Tree) (n : Tree) (old new : Work)
    (error : HandleError) (r : Result B HandleError) → node ≡ Ok n → IsErrAnd r (λ x. x ≡ error) →
    AsksTypesOrThrows {A = A} (types_made leaves operands []) old new (Err error) → AsksTypesOrThrows (node_types leaves operands node) old new r
types-unmade_node A leaves operands node n old new error r given is asked =
    let first = types_made leaves operands [] in
    let more = types_of leaves (nodes_of n) in
    subst (λ ts. AsksTypesOrThrows ts old new r) (made-node leaves operands node n given)
    (types-more first (first ++ more) old new r (within-first first more) (types-handed A first old new error r is asked))

-- they were made, and then nodes of them
pub types-nodes : (operands : List HandleOperand) (node : OrThrown Tree) (n : Tree) (asks : List MethodTy) (gone : List HoldView) (old mid new : Work)
    (r : Result Handle HandleError) → node ≡ Ok n → IsWithin asks (types_of old.leaves.now (nodes_of n)) →
    AsksNoOther (types_made old.leaves.now operands []) old.seat.now mid.seat.now → TradesTypes asks gone mid new r →
    AsksTypesOrThrows (node_types old.leaves.now operands node) old new r
types-nodes operands node n asks gone old mid new r given within first x =
    let leaves = old.leaves.now in
    let more = types_of leaves (nodes_of n) in
    subst (λ ts. AsksTypesOrThrows ts old new r) (made-node leaves operands node n given)
    (types-then (types_made leaves operands []) more old mid new r first (types-more asks more mid new r within (types-traded asks gone mid new r x)))

-- a node by a rule, which makes no other
pub types-row : (operands : List HandleOperand) (n : Tree) (own : MethodTy) (row : TypeOrRefusal) (gone : List HoldView) (old mid new : Work)
    (r : Result Handle HandleError) → nodes_of n ≡ n ∷ [] → type_of old.leaves.now n ≡ Ok own → type_of old.leaves.now n ≡ row →
    AsksNoOther (types_made old.leaves.now operands []) old.seat.now mid.seat.now → TradesTypes (types_in row) gone mid new r →
    AsksTypesOrThrows (node_types old.leaves.now operands (typed old.leaves.now n)) old new r
types-row operands n own row gone old mid new r alone is by first x =
    let leaves = old.leaves.now in
    types-nodes operands (typed leaves n) n (types_in row) gone old mid new r (typed-is leaves n own is)
    (within-equal (types_in row) (types_of leaves (nodes_of n))
    (ap types_in (sym by) ∙ tree-types leaves n ∙ ap (types_of leaves) (sym alone))) first x

-- a node of no operand
pub types-root : (old new : Work) (n : Tree) (r : Result Handle HandleError) → nodes_of n ≡ n ∷ [] →
    TradesTypes (types_in (type_of old.leaves.now n)) [] old new r → AsksTypesOrThrows (node_types old.leaves.now [] (typed old.leaves.now n)) old new r
types-root old new n r alone x =
    subst (λ ts. AsksTypesOrThrows ts old new r) (of-rule (type_of leaves n) refl) (types-traded (types_in (type_of leaves n)) [] old new r x)
  where
    leaves : LeafTable
    leaves = old.leaves.now

    of-rule : (m : TypeOrRefusal) → type_of leaves n ≡ m → types_in m ≡ types_of leaves (unless_thrown (m >>= (λ (o : MethodTy). Ok n)) nodes_of)
    of-rule (Ok own) is = ap types_in (sym is) ∙ tree-types leaves n ∙ ap (types_of leaves) (sym alone)
    of-rule (Err e) is = refl
