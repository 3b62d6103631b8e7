-- Every node that an attempt makes has a type.
use Rattle.std.proofs.Common.{◌≡◌, refl, sym, subst, List, [], ◌∷◌, ◌++◌, ℕ, Option, Some, Ok, Err}
use Rattle.std.specs.Prelude.{All, slice_get}
use Rattle.std.proofs.lemmas.List.Elements.{All-append, All-cons, All-nil}
use Rattle.std.proofs.lemmas.List.Concat.{flat_map-cons}
use Rattle.mh_base.proofs.Inversion.{ok_is}
use Rattle.mh_values.specs.declared.types.MethodTy.{MethodTy}
use Rattle.mh_values.specs.declared.value.LeafId.{LeafId}
use Rattle.mh_leaf.specs.LeafTable.{LeafTable}
use Rattle.mh_tree.specs.Tree.{Tree, weight}
use Rattle.mh_tree.specs.Tree as tree
use Rattle.mh_tree.specs.Rows.{spread_row}
use Rattle.mh_tree.specs.Typing.{type_of}
use Rattle.mh_tree.proofs.Provided.{with_type-parts}
use Rattle.mh_jobs.specs.declared.job.Argument.{Argument}
use Rattle.mh_jobs.specs.declared.job.Argument.TheVariants as argument
use Rattle.mh_jobs.specs.declared.job.BootstrapCall.{BootstrapCall}
use Rattle.mh_script.specs.declared.operand.Register.{Register}
use Rattle.mh_script.specs.declared.operand.Register.TheVariants as register
use Rattle.mh_script.specs.declared.script.End.{End}
use Rattle.mh_script.specs.declared.script.Operation.{Operation}
use Rattle.mh_script.specs.declared.script.Step.{Step}
use Rattle.mh_script.specs.declared.script.Step.TheVariants as step
use Rattle.mh_link.specs.Linked.{stepped, ended}
use Rattle.mh_link.specs.Made.{handles_of, leaf_among, node_of_use, nodes_of_uses, returned, nodes_of, unless_thrown, nodes_of_step, nodes_from}
use Rattle.mh_link.specs.Operands.{Frame}
use Rattle.mh_link.specs.Operations.{asked_by, node_of}
use Rattle.mh_jobs.specs.Thrown.{OrThrown, ◌>>=◌}
use Rattle.mh_link.proofs.typing.Targets.{stepped-call}
use Rattle.mh_jobs.proofs.Parts.{bound-parts}

-- a tree that has a type
abbrev pub IsTyped : LeafTable → Tree → Type 0
IsTyped leaves t = (own : MethodTy) × (type_of leaves t ≡ Ok own)

-- the static arguments that are leaves have types
abbrev pub AreTyped : LeafTable → BootstrapCall → Type 0
AreTyped leaves call = (n : ℕ) (l : LeafId) → slice_get call.arguments n ≡ Some (argument.Leaf l) → IsTyped leaves (tree.Leaf l)

among-typed : (leaves : LeafTable) (call : BootstrapCall) → AreTyped leaves call → (n : ℕ) (o : Option Argument) → slice_get call.arguments n ≡ o →
    All (IsTyped leaves) (leaf_among o)
among-typed leaves call are n (Some (argument.Leaf l)) h = All-cons (IsTyped leaves) (tree.Leaf l) [] (are n l h) (All-nil (IsTyped leaves))
among-typed leaves call are n o h = All-nil (IsTyped leaves)

use-typed : (leaves : LeafTable) (frame : Frame) → AreTyped leaves frame.call → (r : Register) → All (IsTyped leaves) (node_of_use frame r)
use-typed leaves frame are (register.Argument n) = among-typed leaves frame.call are n (slice_get frame.call.arguments n) refl
use-typed leaves frame are r = All-nil (IsTyped leaves)

uses-typed : (leaves : LeafTable) (frame : Frame) → AreTyped leaves frame.call → (rs : List Register) → All (IsTyped leaves) (nodes_of_uses frame rs)
uses-typed leaves frame are [] = All-nil (IsTyped leaves)
uses-typed leaves frame are (r ∷ rs) =
    subst (All (IsTyped leaves)) (sym (flat_map-cons (node_of_use frame) r rs))
    (All-append (IsTyped leaves) (node_of_use frame r) (nodes_of_uses frame rs) (use-typed leaves frame are r) (uses-typed leaves frame are rs))

-- a node that is made has a type
pub node-typed : (leaves : LeafTable) (frame : Frame) (op : Operation) (t : Tree) → node_of leaves frame op ≡ Ok t → IsTyped leaves t
node-typed leaves frame op t h =
    let asked = bound-parts (asked_by leaves frame op) (λ u. type_of leaves u >>= (λ own. Ok u)) t h in
    let typed = bound-parts (type_of leaves asked.0) (λ own. Ok asked.0) t asked.2 in
    subst (IsTyped leaves) (ok_is asked.0 t typed.2) (typed.0, typed.1)

nodes-typed : (leaves : LeafTable) (t : Tree) → IsTyped leaves t → All (IsTyped leaves) (nodes_of t)
nodes-typed leaves (tree.Spread t array count) h =
    let part = with_type-parts (type_of leaves t) (λ own. spread_row own (weight t) array count) h.0 h.1 in
    All-cons (IsTyped leaves) t (tree.Spread t array count ∷ []) (part.0, part.1)
    (All-cons (IsTyped leaves) (tree.Spread t array count) [] h (All-nil (IsTyped leaves)))
nodes-typed leaves t h = All-cons (IsTyped leaves) t [] h (All-nil (IsTyped leaves))

-- what is made of a value, where none is thrown
pub thrown-typed : {A : Type 0} (leaves : LeafTable) (m : OrThrown A) (made : A → List Tree) → ((a : A) → m ≡ Ok a → All (IsTyped leaves) (made a)) → All
    (IsTyped leaves) (unless_thrown m made)
thrown-typed leaves (Ok a) made h = h a refl
thrown-typed leaves (Err e) made h = All-nil (IsTyped leaves)

step-typed : (leaves : LeafTable) (s : Step) (frame : Frame) → AreTyped leaves frame.call → All (IsTyped leaves) (nodes_of_step leaves s frame)
step-typed leaves (step.Let name op) frame are =
    thrown-typed leaves (node_of leaves frame op) (λ t. nodes_of_uses frame (handles_of op) ++ nodes_of t)
    (λ t h. All-append (IsTyped leaves) (nodes_of_uses frame (handles_of op)) (nodes_of t) (uses-typed leaves frame are (handles_of op))
    (nodes-typed leaves t (node-typed leaves frame op t h)))
step-typed leaves s frame are = All-nil (IsTyped leaves)

-- the nodes of lines have types, where the static arguments that are leaves have
pub from-typed : (leaves : LeafTable) (steps : List Step) (e : End) (frame : Frame) → AreTyped leaves frame.call → All (IsTyped leaves)
    (nodes_from leaves steps e frame)
from-typed leaves [] e frame are = thrown-typed leaves (ended leaves e frame) (λ t. nodes_of_uses frame (returned e))
    (λ t h. uses-typed leaves frame are (returned e))
from-typed leaves (s ∷ steps) e frame are =
    All-append (IsTyped leaves) (nodes_of_step leaves s frame) (unless_thrown (stepped leaves s frame) (nodes_from leaves steps e))
    (step-typed leaves s frame are)
    (thrown-typed leaves (stepped leaves s frame) (nodes_from leaves steps e)
    (λ next h. from-typed leaves steps e next (subst (AreTyped leaves) (sym (stepped-call leaves s frame next h)) are)))
