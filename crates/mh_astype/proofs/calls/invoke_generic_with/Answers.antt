use Rattle.std.proofs.Common.{◌≡◌, ap, refl, true, false, Err, List}
use Rattle.mh_values.specs.declared.class.Class.{Class}
use Rattle.mh_values.specs.Same.{is_same_method_type}
use Rattle.mh_tree.specs.Rows.{astype_row}
use Rattle.mh_handle.proofs.standing.Answering.{typed_run-well_formed}
use Rattle.mh_astype.proofs.Asking.{differs}
use Rattle.mh_astype.proofs.Calling.{generic-refused, generic_keys-refused, own-typed, refusal-is, thrown-answer, types-are}
use Rattle.mh_astype.proofs.Editing.{asks-none, asks-no_form}
use Rattle.mh_astype.proofs.calls.invoke_generic_with.Goals as goal

pub invoke_with-requires-clause-typed : goal.invoke_with-requires-clause-typed
invoke_with-requires-clause-typed g c =
    let is : is_same_method_type c.args.handle.now.ty c.args.call.now ≡ true =
    types-are c.is_same_method_type.result c.ty.result.now c.args.handle.now.ty c.args.call.now c.if-is_same_method_type.true c.is_same_method_type.ensures
    c.ty.ensures.ty in
    own-typed c.args.w.now.leaves.now.classes c.args.handle.now.ty c.args.call.now c.args.args.now is c.requires.typed

pub invoke_with-requires-clause-runs : goal.invoke_with-requires-clause-runs
invoke_with-requires-clause-runs g c =
    let is : is_same_method_type c.args.handle.now.ty c.args.call.now ≡ true =
    types-are c.is_same_method_type.result c.ty.result.now c.args.handle.now.ty c.args.call.now c.if-is_same_method_type.true c.is_same_method_type.ensures
    c.ty.ensures.ty in
    typed_run-well_formed c.args.w.now.leaves.now c.args.handle.now c.requires.stands.0 c.args.args.now c.args.n c.requires.stands.1
    (own-typed c.args.w.now.leaves.now.classes c.args.handle.now.ty c.args.call.now c.args.args.now is c.requires.typed) c.ranges.n.fits

pub returns-in_err-exc-clause-asks : goal.returns-in_err-exc-clause-asks
returns-in_err-exc-clause-asks g c = asks-none c.args.handle.now.form.recipe _ c.args.w.now c.from_residual-in_err-exc.result
    c.from_residual-in_err-exc.ensures.1

pub returns-in-Some-clause-asks : goal.returns-in-Some-clause-asks
returns-in-Some-clause-asks g c =
    let other : is_same_method_type c.args.handle.now.ty c.args.call.now ≡ false =
    differs c.is_same_method_type.result c.ty.result.now c.args.handle.now.ty c.args.call.now c.if-is_same_method_type.false c.is_same_method_type.ensures
    c.ty.ensures.ty in
    let row : astype_row c.args.w.now.leaves.now.classes c.args.handle.now.ty c.args.handle.now.weight c.args.call.now ≡ Err c.in-Some.exc =
    refusal-is (astype_row c.classes.result.now c.args.handle.now.ty c.args.handle.now.weight c.args.call.now) _ c.args.call.now c.in_ok-exc.field-0
    c.in-Some.exc
    c.in-Some.is c.in_ok-exc.ensures
    (ap (λ (cs : List Class). astype_row cs c.args.handle.now.ty c.args.handle.now.weight c.args.call.now) c.classes.ensures) in
    asks-no_form c.args.w.now.leaves.now.classes c.args.handle.now.ty c.args.handle.now.weight c.args.call.now c.in-Some.exc c.args.handle.now.form.recipe
    c.args.w.now c.thrown.result other row

pub returns-in-Some-clause-answer : goal.returns-in-Some-clause-answer
returns-in-Some-clause-answer g c t st =
    let other : is_same_method_type c.args.handle.now.ty c.args.call.now ≡ false =
    differs c.is_same_method_type.result c.ty.result.now c.args.handle.now.ty c.args.call.now c.if-is_same_method_type.false c.is_same_method_type.ensures
    c.ty.ensures.ty in
    let row : astype_row c.args.w.now.leaves.now.classes c.args.handle.now.ty c.args.handle.now.weight c.args.call.now ≡ Err c.in-Some.exc =
    refusal-is (astype_row c.classes.result.now c.args.handle.now.ty c.args.handle.now.weight c.args.call.now) _ c.args.call.now c.in_ok-exc.field-0
    c.in-Some.exc
    c.in-Some.is c.in_ok-exc.ensures
    (ap (λ (cs : List Class). astype_row cs c.args.handle.now.ty c.args.handle.now.weight c.args.call.now) c.classes.ensures) in
    thrown-answer _ _ c.in-Some.exc c.in-Some.exc c.thrown.result c.thrown.ensures refl
    (generic-refused c.args.w.now.leaves.now c.args.handle.now t c.args.call.now st c.args.args.now c.args.n c.in-Some.exc other row)
    (generic_keys-refused c.args.w.now.leaves.now c.args.handle.now t c.args.call.now st c.in-Some.exc other row)
