use Rattle.std.proofs.Common.{arith, ap, subst, sym, ◌∙◌, [], Ok, Err, IfOk}
use Rattle.mh_tree.specs.Rows.{concat_row}
use Rattle.mh_tree.specs.Tree as tree
use Rattle.mh_handle.specs.Recipe.{recipe}
use Rattle.mh_handle.specs.Stands.{Stands}
use Rattle.mh_handle.specs.Works.{Makes, TradesTypes, types_in}
use Rattle.mh_handle.proofs.obeying.Going.{goes_on-more}
use Rattle.mh_handle.proofs.obeying.Rooms.{goes_on-none, ready-less}
use Rattle.mh_link.specs.Concatenation.{pieces_given}
use Rattle.mh_link.specs.Made.{concat_nodes, types_of}
use Rattle.mh_link.proofs.typing.Concatenations.{given-joined}
use Rattle.mh_attempt.proofs.types.Adding.{adds-made, adds-none, adds-unmade}
use Rattle.mh_attempt.proofs.types.AskingTypes.{types-refused}
use Rattle.mh_attempt.proofs.linking.Concatenating.{made-asks, made-target, made-types, refused-asks, refused-target, same-pieces}
use Rattle.mh_attempt.proofs.concatenation.make_concatenation.Goals as goal

-- ---- no pieces

pub returns-in_err-pieces-clause-goes_on : goal.returns-in_err-pieces-clause-goes_on
returns-in_err-pieces-clause-goes_on g c = goes_on-none 256 c.args.w.now

pub returns-in_err-pieces-clause-types : goal.returns-in_err-pieces-clause-types
returns-in_err-pieces-clause-types g c =
    adds-unmade c.args.w.now c.args.w.now c.from_residual.result _ c.from_residual.ensures.1 (adds-none c.args.w.now)

pub returns-in_err-pieces-clause-target : goal.returns-in_err-pieces-clause-target
returns-in_err-pieces-clause-target g c =
    let leaves = c.args.w.now.leaves.now in
    let call = c.args.call.now in
    refused-target leaves call c.in_err-pieces.field-0.0 c.args.w.now c.from_residual.result c.from_residual.ensures.1
    (same-pieces c.classes.result.now leaves.classes c.get-ty.result.now call.ty c.as_slice.result.now call.arguments (Err c.in_err-pieces.field-0.0)
    c.classes.ensures.classes c.get-ty.ensures c.as_slice.ensures c.in_err-pieces.ensures)

pub returns-in_err-pieces-clause-asks : goal.returns-in_err-pieces-clause-asks
returns-in_err-pieces-clause-asks g c =
    let leaves = c.args.w.now.leaves.now in
    let call = c.args.call.now in
    refused-asks leaves call c.in_err-pieces.field-0.0 c.args.w.now c.from_residual.result c.from_residual.ensures.1
    (same-pieces c.classes.result.now leaves.classes c.get-ty.result.now call.ty c.as_slice.result.now call.arguments (Err c.in_err-pieces.field-0.0)
    c.classes.ensures.classes c.get-ty.ensures c.as_slice.ensures c.in_err-pieces.ensures)

pub returns-in_err-pieces-clause-asked : goal.returns-in_err-pieces-clause-asked
returns-in_err-pieces-clause-asked g c =
    let leaves = c.args.w.now.leaves.now in
    types-refused (types_of leaves (concat_nodes leaves.classes c.args.call.now)) c.args.w.now c.in_err-pieces.field-0.0 c.from_residual.result
    c.from_residual.ensures.1

-- ---- pieces

pub concat-requires-clause-joined : goal.concat-requires-clause-joined
concat-requires-clause-joined g c =
    let classes = c.args.w.now.leaves.now.classes in
    given-joined classes c.get-ty.result.now c.as_slice.result.now c.in_ok-pieces.pieces
    (ap (λ cs. pieces_given cs c.get-ty.result.now c.as_slice.result.now) (sym c.classes.ensures.classes) ∙ c.in_ok-pieces.ensures)

pub concat-requires-clause-ready : goal.concat-requires-clause-ready
concat-requires-clause-ready g c = ready-less c.args.w.now 256 1 (omega arith) c.requires.ready

pub returns-clause-goes_on : goal.returns-clause-goes_on
returns-clause-goes_on g c = goes_on-more 1 256 c.args.w.now c.concat.new.w (omega arith) c.concat.ensures.goes_on

pub returns-clause-types : goal.returns-clause-types
returns-clause-types g c =
    adds-made (types_in (concat_row c.args.w.now.leaves.now.classes c.get-ty.result.now c.in_ok-pieces.pieces)) c.args.w.now c.concat.new.w c.concat.result
    c.concat.ensures.types

pub returns-clause-target : goal.returns-clause-target
returns-clause-target g c =
    let leaves = c.args.w.now.leaves.now in
    let call = c.args.call.now in
    let pieces = c.in_ok-pieces.pieces in
    made-target leaves call pieces
    (same-pieces c.classes.result.now leaves.classes c.get-ty.result.now call.ty c.as_slice.result.now call.arguments (Ok pieces)
    c.classes.ensures.classes c.get-ty.ensures c.as_slice.ensures c.in_ok-pieces.ensures) c.args.w.now c.concat.result c.concat.ensures.accepted
    (subst (λ t. IfOk c.concat.result (λ h. Stands leaves h (tree.Concat t pieces))) c.get-ty.ensures c.concat.ensures.stands)

pub returns-clause-asks : goal.returns-clause-asks
returns-clause-asks g c =
    let leaves = c.args.w.now.leaves.now in
    let call = c.args.call.now in
    let pieces = c.in_ok-pieces.pieces in
    made-asks leaves call pieces
    (same-pieces c.classes.result.now leaves.classes c.get-ty.result.now call.ty c.as_slice.result.now call.arguments (Ok pieces)
    c.classes.ensures.classes c.get-ty.ensures c.as_slice.ensures c.in_ok-pieces.ensures) c.args.w.now c.concat.new.w c.concat.result c.concat.ensures.accepted
    (subst (λ t. Makes (recipe leaves (tree.Concat t pieces)) c.args.w.now c.concat.new.w c.concat.result) c.get-ty.ensures c.concat.ensures.makes)

pub returns-clause-asked : goal.returns-clause-asked
returns-clause-asked g c =
    let leaves = c.args.w.now.leaves.now in
    let call = c.args.call.now in
    let pieces = c.in_ok-pieces.pieces in
    made-types leaves call pieces
    (same-pieces c.classes.result.now leaves.classes c.get-ty.result.now call.ty c.as_slice.result.now call.arguments (Ok pieces)
    c.classes.ensures.classes c.get-ty.ensures c.as_slice.ensures c.in_ok-pieces.ensures) c.args.w.now c.concat.new.w c.concat.result
    (subst (λ t. TradesTypes (types_in (concat_row leaves.classes t pieces)) [] c.args.w.now c.concat.new.w c.concat.result) c.get-ty.ensures
    c.concat.ensures.types)
