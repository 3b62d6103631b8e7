use Rattle.std.proofs.Common.{◌≡◌, true}
use Rattle.mh_handle.proofs.standing.Answering.{typed_run-well_formed}
use Rattle.mh_astype.proofs.Calling.{answer-one, kept-is, kept-keys, kept-mean, kept-typed}
use Rattle.mh_astype.proofs.Using.{trivial}
use Rattle.mh_astype.proofs.calls.invoke_used.Goals as goal

pub invoke_with-requires-clause-typed : goal.invoke_with-requires-clause-typed
invoke_with-requires-clause-typed g c =
    let kept : trivial c.args.w.now.leaves.now.classes c.args.call.now c.args.handle.now.ty ≡ true =
    kept-is c.is_trivial.result c.classes.result.now c.args.w.now.leaves.now.classes c.ty.result.now c.args.handle.now.ty c.args.call.now c.if-is_trivial.true
    c.is_trivial.ensures c.classes.ensures.classes c.ty.ensures.ty in
    kept-typed c.args.w.now.leaves.now c.classes.ensures.are c.args.call.now c.args.handle.now c.requires.stands.0 c.requires.stands.1 c.requires.row kept
    c.args.args.now c.requires.typed

pub invoke_with-requires-clause-runs : goal.invoke_with-requires-clause-runs
invoke_with-requires-clause-runs g c =
    let kept : trivial c.args.w.now.leaves.now.classes c.args.call.now c.args.handle.now.ty ≡ true =
    kept-is c.is_trivial.result c.classes.result.now c.args.w.now.leaves.now.classes c.ty.result.now c.args.handle.now.ty c.args.call.now c.if-is_trivial.true
    c.is_trivial.ensures c.classes.ensures.classes c.ty.ensures.ty in
    typed_run-well_formed c.args.w.now.leaves.now c.args.handle.now c.requires.stands.0 c.args.args.now c.args.n c.requires.stands.1
    (kept-typed c.args.w.now.leaves.now c.classes.ensures.are c.args.call.now c.args.handle.now c.requires.stands.0 c.requires.stands.1 c.requires.row kept
    c.args.args.now c.requires.typed) c.ranges.n.fits

pub returns-in_ok-invoke_with-clause-answer : goal.returns-in_ok-invoke_with-clause-answer
returns-in_ok-invoke_with-clause-answer g c t st =
    let kept : trivial c.args.w.now.leaves.now.classes c.args.call.now c.args.handle.now.ty ≡ true =
    kept-is c.is_trivial.result c.classes.result.now c.args.w.now.leaves.now.classes c.ty.result.now c.args.handle.now.ty c.args.call.now c.if-is_trivial.true
    c.is_trivial.ensures c.classes.ensures.classes c.ty.ensures.ty in
    answer-one _ _ _ _ c.in_ok-invoke_with.field-0
    (kept-mean c.args.w.now.leaves.now c.classes.ensures.are c.args.call.now c.args.handle.now t st c.requires.row kept c.args.args.now c.requires.typed
    c.args.n)
    (kept-keys c.args.w.now.leaves.now c.classes.ensures.are c.args.call.now c.args.handle.now t st c.requires.row kept c.args.args.now c.requires.typed)
    (c.in_ok-invoke_with.ensures.tree t st)
