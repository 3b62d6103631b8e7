use Rattle.std.proofs.Common.{ap, refl, subst, [], ◌∷◌, Ok, Err}
use Rattle.mh_leaf.specs.LeafTable.{LeafTable}
use Rattle.mh_tree.specs.Meaning.{generic}
use Rattle.mh_tree.specs.Tree.{Tree}
use Rattle.mh_tree.specs.Tree as tree
use Rattle.mh_handle.specs.declared.handle.Handle.{Handle}
use Rattle.mh_handle.specs.Answers.{IsAnswer}
use Rattle.mh_handle.specs.Recipe.{recipe}
use Rattle.mh_handle.specs.declared.answer.Answer.{Answer}
use Rattle.mh_handle.proofs.obeying.Going.{goes_on-before, goes_on-both, seated-back}
use Rattle.mh_intern.specs.Exchanges.{Exchanges}
use Rattle.mh_branch.proofs.Trading.{held-same}
use Rattle.mh_link.specs.Made.{types_of}
use Rattle.mh_attempt.proofs.types.Adding.{holds-came}
use Rattle.mh_attempt.specs.AskedTypes.{AsksNoOther}
use Rattle.mh_astype.specs.Calls.{generic_keys}
use Rattle.mh_report.specs.Forms.{used_edits}
use Rattle.mh_runtime.proofs.forms.Calling.{asks-generic, asks-handed, moved, stopped-early}
use Rattle.mh_runtime.proofs.asking.LeafTypes.{edit-asks}
use Rattle.mh_runtime.proofs.asking.SeatAsked.{asks-still}
use Rattle.mh_runtime.proofs.types.SeatTypes.{keeps-adds, keeps-back}
use Rattle.mh_runtime.proofs.calls.call_generic.Goals as goal

pub returns-in_err-handle-clause-asks : goal.returns-in_err-handle-clause-asks
returns-in_err-handle-clause-asks g c =
    stopped-early Handle (recipe c.args.w.now.leaves.now (tree.Leaf c.args.id)) (used_edits c.args.w.now.leaves.now (tree.Leaf c.args.id) c.args.ty.now)
    c.args.w.now c.leaf_handle.new.w c.in_err-handle.field-0.0 c.from_residual.result c.from_residual.ensures.1
    c.in_err-handle.ensures.asks

pub returns-clause-answer : goal.returns-clause-answer
returns-clause-answer g c =
    moved (λ (table : LeafTable) (t : Tree). IsAnswer (generic table t c.args.ty.now c.args.args.now 0) (generic_keys table t c.args.ty.now)
    c.in_ok-answer.field-0)
    c.args.w.now.leaves.now c.leaf_handle.new.w.leaves.now c.in_ok-handle.handle (tree.Leaf c.args.id)
    (ap (λ leaves. leaves.now) c.in_ok-handle.ensures.goes_on.leaves) c.in_ok-handle.ensures.stands c.in_ok-answer.ensures.answer

pub returns-clause-asks : goal.returns-clause-asks
returns-clause-asks g c =
    asks-generic c.args.w.now.leaves.now c.leaf_handle.new.w.leaves.now (tree.Leaf c.args.id) c.in_ok-handle.handle c.args.ty.now
    c.args.w.now c.leaf_handle.new.w c.invoke_generic_with-answer.new.w c.give_back.new.w (Ok c.in_ok-answer.field-0)
    (ap (λ leaves. leaves.now) c.in_ok-handle.ensures.goes_on.leaves) c.give_back.ensures.unchanged.pass c.in_ok-handle.ensures.stands
    c.in_ok-handle.ensures.asks c.in_ok-answer.ensures.asks

pub returns-in_err-answer-clause-asks : goal.returns-in_err-answer-clause-asks
returns-in_err-answer-clause-asks g c =
    asks-handed {A = Answer} (recipe c.args.w.now.leaves.now (tree.Leaf c.args.id) ∷ used_edits c.args.w.now.leaves.now (tree.Leaf c.args.id) c.args.ty.now)
    c.args.w.now c.give_back.new.w c.in_err-answer.field-0.0 c.from_residual-in_err-answer.result c.from_residual-in_err-answer.ensures.1
    (asks-generic c.args.w.now.leaves.now c.leaf_handle.new.w.leaves.now (tree.Leaf c.args.id) c.in_ok-handle.handle c.args.ty.now
    c.args.w.now c.leaf_handle.new.w c.invoke_generic_with-answer.new.w c.give_back.new.w (Err c.in_err-answer.field-0.0)
    (ap (λ leaves. leaves.now) c.in_ok-handle.ensures.goes_on.leaves) c.give_back.ensures.unchanged.pass c.in_ok-handle.ensures.stands
    c.in_ok-handle.ensures.asks c.in_err-answer.ensures.asks)

-- ---- the seat of types

pub returns-in_err-handle-clause-types : goal.returns-in_err-handle-clause-types
returns-in_err-handle-clause-types g c = keeps-adds c.args.w.now c.leaf_handle.new.w c.in_err-handle.ensures.types

pub give_back-requires-clause-held : goal.give_back-requires-clause-held
give_back-requires-clause-held g c =
    held-same c.in_ok-handle.handle.held c.in_ok-handle.handle.held c.leaf_handle.new.w.seat.now c.invoke_generic_with-answer.new.w.seat.now
    c.invoke_generic_with-answer.ensures.seat refl
    (holds-came c.in_ok-handle.handle.held c.args.w.now c.leaf_handle.new.w c.in_ok-handle.ensures.types)

pub returns-in_err-answer-clause-types : goal.returns-in_err-answer-clause-types
returns-in_err-answer-clause-types g c =
    keeps-back c.in_ok-handle.handle.held c.args.w.now c.leaf_handle.new.w c.give_back.new.w c.in_ok-handle.ensures.types
    (subst (λ s. Exchanges [] c.in_ok-handle.handle.held [] s c.give_back.new.w.seat.now) c.invoke_generic_with-answer.ensures.seat c.give_back.ensures.types)

pub returns-clause-types : goal.returns-clause-types
returns-clause-types g c =
    keeps-back c.in_ok-handle.handle.held c.args.w.now c.leaf_handle.new.w c.give_back.new.w c.in_ok-handle.ensures.types
    (subst (λ s. Exchanges [] c.in_ok-handle.handle.held [] s c.give_back.new.w.seat.now) c.invoke_generic_with-answer.ensures.seat c.give_back.ensures.types)

pub returns-in_err-answer-clause-asked : goal.returns-in_err-answer-clause-asked
returns-in_err-answer-clause-asked g c =
    edit-asks (types_of c.args.w.now.leaves.now (tree.Leaf c.args.id ∷ [])) c.args.w.now c.give_back.new.w c.in_err-answer.field-0.0
    c.from_residual-in_err-answer.result c.from_residual-in_err-answer.ensures.1
    (asks-still (types_of c.args.w.now.leaves.now (tree.Leaf c.args.id ∷ [])) c.args.w.now.seat.now c.leaf_handle.new.w.seat.now c.give_back.new.w.seat.now
    c.in_ok-handle.ensures.asked
    (subst (λ s. AsksNoOther [] s c.give_back.new.w.seat.now) c.invoke_generic_with-answer.ensures.seat c.give_back.ensures.types.asked))

pub returns-clause-asked : goal.returns-clause-asked
returns-clause-asked g c =
    asks-still (types_of c.args.w.now.leaves.now (tree.Leaf c.args.id ∷ [])) c.args.w.now.seat.now c.leaf_handle.new.w.seat.now c.give_back.new.w.seat.now
    c.in_ok-handle.ensures.asked
    (subst (λ s. AsksNoOther [] s c.give_back.new.w.seat.now) c.invoke_generic_with-answer.ensures.seat c.give_back.ensures.types.asked)

-- ---- the work

pub returns-in_err-answer-clause-goes_on : goal.returns-in_err-answer-clause-goes_on
returns-in_err-answer-clause-goes_on g c =
    goes_on-before 2 c.args.w.now c.invoke_generic_with-answer.new.w c.give_back.new.w
    (goes_on-both 1 1 c.args.w.now c.leaf_handle.new.w c.invoke_generic_with-answer.new.w c.in_ok-handle.ensures.goes_on
    c.invoke_generic_with-answer.ensures.goes_on)
    c.give_back.ensures.unchanged
    (seated-back [] c.in_ok-handle.handle.held c.invoke_generic_with-answer.new.w c.give_back.new.w c.give_back.ensures.types)

pub returns-clause-goes_on : goal.returns-clause-goes_on
returns-clause-goes_on g c =
    goes_on-before 2 c.args.w.now c.invoke_generic_with-answer.new.w c.give_back.new.w
    (goes_on-both 1 1 c.args.w.now c.leaf_handle.new.w c.invoke_generic_with-answer.new.w c.in_ok-handle.ensures.goes_on
    c.invoke_generic_with-answer.ensures.goes_on)
    c.give_back.ensures.unchanged
    (seated-back [] c.in_ok-handle.handle.held c.invoke_generic_with-answer.new.w c.give_back.new.w c.give_back.ensures.types)
