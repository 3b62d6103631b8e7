use Rattle.std.proofs.Common.{ap, ◌∷◌, [], Ok}
use Rattle.mh_leaf.specs.LeafTable.{LeafTable}
use Rattle.mh_tree.specs.Meaning.{exact}
use Rattle.mh_tree.specs.Tree.{Tree}
use Rattle.mh_tree.specs.Tree as tree
use Rattle.mh_handle.specs.Answers.{IsAnswer}
use Rattle.mh_handle.specs.Recipe.{recipe}
use Rattle.mh_astype.specs.Calls.{exact_keys}
use Rattle.mh_link.specs.Made.{types_of}
use Rattle.mh_attempt.proofs.types.Adding.{holds-came}
use Rattle.mh_runtime.proofs.forms.Calling.{asks-back, moved}
use Rattle.mh_runtime.proofs.asking.LeafTypes.{memory-asks}
use Rattle.mh_runtime.proofs.asking.SeatAsked.{asks-still}
use Rattle.mh_runtime.proofs.types.SeatTypes.{keeps-adds, keeps-back}
use Rattle.mh_runtime.proofs.calls.call_exact.Goals as goal

pub returns-clause-answer : goal.returns-clause-answer
returns-clause-answer g c =
    moved (λ (table : LeafTable) (t : Tree). IsAnswer (exact table t c.args.ty.now c.args.args.now 0) (exact_keys table t c.args.ty.now) c.in_ok-answer.field-0)
    c.args.w.now.leaves.now c.leaf_handle.new.w.leaves.now c.in_ok-handle.handle (tree.Leaf c.args.id)
    (ap (λ leaves. leaves.now) c.in_ok-handle.ensures.goes_on.leaves) c.in_ok-handle.ensures.stands c.in_ok-answer.ensures

pub returns-clause-asks : goal.returns-clause-asks
returns-clause-asks g c =
    asks-back (recipe c.args.w.now.leaves.now (tree.Leaf c.args.id) ∷ []) c.args.w.now c.leaf_handle.new.w c.give_back.new.w (Ok c.in_ok-answer.field-0)
    c.give_back.ensures.unchanged.pass c.in_ok-handle.ensures.asks

-- ---- the seat of types

pub returns-in_err-handle-clause-types : goal.returns-in_err-handle-clause-types
returns-in_err-handle-clause-types g c = keeps-adds c.args.w.now c.leaf_handle.new.w c.in_err-handle.ensures.types

pub give_back-requires-clause-held : goal.give_back-requires-clause-held
give_back-requires-clause-held g c = holds-came c.in_ok-handle.handle.held c.args.w.now c.leaf_handle.new.w c.in_ok-handle.ensures.types

pub returns-in_err-answer-clause-types : goal.returns-in_err-answer-clause-types
returns-in_err-answer-clause-types g c =
    keeps-back c.in_ok-handle.handle.held c.args.w.now c.leaf_handle.new.w c.give_back.new.w c.in_ok-handle.ensures.types c.give_back.ensures.types

pub returns-clause-types : goal.returns-clause-types
returns-clause-types g c =
    keeps-back c.in_ok-handle.handle.held c.args.w.now c.leaf_handle.new.w c.give_back.new.w c.in_ok-handle.ensures.types c.give_back.ensures.types

pub returns-in_err-answer-clause-asked : goal.returns-in_err-answer-clause-asked
returns-in_err-answer-clause-asked g c =
    memory-asks (types_of c.args.w.now.leaves.now (tree.Leaf c.args.id ∷ [])) c.args.w.now c.give_back.new.w c.from_residual-in_err-answer.result
    c.from_residual-in_err-answer.ensures.1
    (asks-still (types_of c.args.w.now.leaves.now (tree.Leaf c.args.id ∷ [])) c.args.w.now.seat.now c.leaf_handle.new.w.seat.now c.give_back.new.w.seat.now
    c.in_ok-handle.ensures.asked c.give_back.ensures.types.asked)

pub returns-clause-asked : goal.returns-clause-asked
returns-clause-asked g c =
    asks-still (types_of c.args.w.now.leaves.now (tree.Leaf c.args.id ∷ [])) c.args.w.now.seat.now c.leaf_handle.new.w.seat.now c.give_back.new.w.seat.now
    c.in_ok-handle.ensures.asked c.give_back.ensures.types.asked
