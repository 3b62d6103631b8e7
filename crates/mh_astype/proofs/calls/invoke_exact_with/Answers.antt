use Rattle.std.proofs.Common.{◌≡◌, ap₂, ◌∙◌, true, false, List}
use Rattle.mh_values.specs.declared.class.Class.{Class}
use Rattle.mh_values.specs.declared.types.MethodTy.{MethodTy}
use Rattle.mh_values.specs.Same.{is_same_method_type}
use Rattle.mh_tree.specs.Rows.{mismatch}
use Rattle.mh_handle.proofs.standing.Answering.{typed_run-well_formed}
use Rattle.mh_astype.proofs.Asking.{differs}
use Rattle.mh_astype.proofs.Calling.{exact-differs, exact_keys-differs, own-typed, thrown-answer, types-are}
use Rattle.mh_astype.proofs.calls.invoke_exact_with.Goals as goal

pub invoke_with-requires-clause-typed : goal.invoke_with-requires-clause-typed
invoke_with-requires-clause-typed c =
    let is : is_same_method_type c.args.handle.now.ty c.args.call.now ≡ true =
    types-are c.is_same_method_type.result c.ty.result.now c.args.handle.now.ty c.args.call.now c.if-is_same_method_type.true c.is_same_method_type.ensures
    c.ty.ensures.ty in
    own-typed c.args.leaves.now.classes c.args.handle.now.ty c.args.call.now c.args.args.now is c.requires.typed

pub invoke_with-requires-clause-runs : goal.invoke_with-requires-clause-runs
invoke_with-requires-clause-runs c =
    let is : is_same_method_type c.args.handle.now.ty c.args.call.now ≡ true =
    types-are c.is_same_method_type.result c.ty.result.now c.args.handle.now.ty c.args.call.now c.if-is_same_method_type.true c.is_same_method_type.ensures
    c.ty.ensures.ty in
    typed_run-well_formed c.args.leaves.now c.args.handle.now c.requires.stands.0 c.args.args.now c.args.n c.requires.stands.1
    (own-typed c.args.leaves.now.classes c.args.handle.now.ty c.args.call.now c.args.args.now is c.requires.typed) c.ranges.n.fits

pub returns-in_ok-exc : goal.returns-in_ok-exc
returns-in_ok-exc c t st =
    let other : is_same_method_type c.args.handle.now.ty c.args.call.now ≡ false =
    differs c.is_same_method_type.result c.ty.result.now c.args.handle.now.ty c.args.call.now c.if-is_same_method_type.false c.is_same_method_type.ensures
    c.ty.ensures.ty in
    thrown-answer _ _ c.in_ok-exc.exc (mismatch c.args.leaves.now.classes c.args.handle.now.ty c.args.call.now) c.thrown.result c.thrown.ensures
    (c.in_ok-exc.ensures ∙ ap₂ (λ (cs : List Class) (own : MethodTy). mismatch cs own c.args.call.now) c.classes.ensures
    c.ty-else-is_same_method_type.ensures.ty)
    (exact-differs c.args.leaves.now c.args.handle.now t c.args.call.now st c.args.args.now c.args.n other)
    (exact_keys-differs c.args.leaves.now c.args.handle.now t
    c.args.call.now st other)
