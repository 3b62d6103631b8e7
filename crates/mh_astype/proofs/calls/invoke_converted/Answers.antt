use Rattle.std.proofs.Common.{◌≡◌, ap, ap₂, ◌∙◌, subst, sym, true, List, [], ◌∷◌, ◌++◌, Ok, Err}
use Rattle.mh_values.specs.declared.class.Class.{Class}
use Rattle.mh_values.specs.declared.types.MethodTy.{MethodTy}
use Rattle.mh_convert.specs.declared.conv.Rules.TheVariants as rules
use Rattle.mh_edit.specs.declared.key.Key.{Key}
use Rattle.mh_edit.specs.Fit.{fits}
use Rattle.mh_handle.specs.Converting.{convert_fields}
use Rattle.mh_handle.specs.Form.{FormView, body_of}
use Rattle.mh_handle.specs.Passes.{Edits}
use Rattle.mh_handle.specs.Recipe.{ret_entry_of}
use Rattle.mh_handle.specs.Stands.{handle_body}
use Rattle.mh_astype.proofs.Calling.{converted-answer, converted-runs}
use Rattle.mh_astype.proofs.Editing.{asks-edited, asks-error, asks-late}
use Rattle.mh_astype.proofs.Using.{convert-fits, convert_key}
use Rattle.mh_astype.proofs.calls.invoke_converted.Goals as goal

pub edit-requires-clause-fits : goal.edit-requires-clause-fits
edit-requires-clause-fits g c =
    let key : c.in_ok-key.key ≡ convert_key c.args.w.now.leaves.now.classes c.args.call.now c.args.handle.now.ty =
    c.in_ok-key.ensures ∙ ap₂ (λ (cs : List Class) (own : MethodTy). convert_key cs c.args.call.now own) c.classes-classes.ensures.classes c.ty.ensures.ty in
    let P : Key → Type 0 = λ k. fits k (handle_body c.args.handle.now) ≡ true in
    let Q : FormView → Type 0 = λ f. fits c.in_ok-key.key (body_of f.recipe) ≡ true in
    subst Q (sym c.form.ensures)
    (subst P (sym key)
    (convert-fits rules.AsType c.args.w.now.leaves.now.classes c.args.handle.now c.args.call.now c.args.call.now
    (ret_entry_of c.args.w.now.leaves.now.classes c.args.handle.now.ty.ret c.args.call.now.ret) c.ty.ensures.shaped c.requires.row))

pub returns-in_err-form-clause-asks : goal.returns-in_err-form-clause-asks
returns-in_err-form-clause-asks g c =
    let key : c.in_ok-key.key ≡ convert_key c.args.w.now.leaves.now.classes c.args.call.now c.args.handle.now.ty =
    c.in_ok-key.ensures ∙ ap₂ (λ (cs : List Class) (own : MethodTy). convert_key cs c.args.call.now own) c.classes-classes.ensures.classes c.ty.ensures.ty in
    let P : FormView → Type 0 = λ f. Edits (f.recipe ++ c.in_ok-key.key ∷ []) c.args.w.now.pass.now c.edit.new.self.pass.now (Err c.in_err-form.field-0.0) in
    asks-error c.args.w.now.leaves.now.classes c.args.call.now c.args.handle.now.ty c.args.handle.now.form.recipe c.in_ok-key.key c.args.w.now c.edit.new.self
    c.in_err-form.field-0.0 c.from_residual-in_err-form.result
    c.requires.changes key (subst P c.form.ensures c.in_err-form.ensures.edits) c.from_residual-in_err-form.ensures.1

pub invoke_edited_with-requires : goal.invoke_edited_with-requires
invoke_edited_with-requires g c =
    let key : c.in_ok-key.key ≡ convert_key c.args.w.now.leaves.now.classes c.args.call.now c.args.handle.now.ty =
    c.in_ok-key.ensures ∙ ap₂ (λ (cs : List Class) (own : MethodTy). convert_key cs c.args.call.now own) c.classes-classes.ensures.classes c.ty.ensures.ty in
    let fields : c.in_ok-more.more.items ≡ convert_fields rules.AsType c.args.w.now.leaves.now.classes c.args.call.now c.args.handle.now.ty =
    c.in_ok-more.ensures ∙ ap₂ (λ (cs : List Class) (own : MethodTy). convert_fields rules.AsType cs c.args.call.now own) c.classes-classes.ensures.classes
    c.ty-2.ensures.ty
    in
    let made : c.in_ok-form.form.now.recipe ≡ c.args.handle.now.form.recipe ++ c.in_ok-key.key ∷ [] =
    c.in_ok-form.ensures.edits.0 ∙ ap (λ (f : FormView). f.recipe ++ c.in_ok-key.key ∷ []) c.form.ensures in
    record {
      runs =
          converted-runs c.args.w.now.leaves.now c.classes-classes.ensures.are c.args.call.now c.args.handle.now c.in_ok-form.form.now c.in_ok-key.key
          c.in_ok-more.more.items c.requires.row c.requires.changes key fields made
          c.requires.stands.0 c.args.args.now c.args.n c.requires.stands.1 c.requires.typed c.ranges.n.fits;
    }

pub returns-in_err-invoke_edited_with-clause-asks : goal.returns-in_err-invoke_edited_with-clause-asks
returns-in_err-invoke_edited_with-clause-asks g c =
    let key : c.in_ok-key.key ≡ convert_key c.args.w.now.leaves.now.classes c.args.call.now c.args.handle.now.ty =
    c.in_ok-key.ensures ∙ ap₂ (λ (cs : List Class) (own : MethodTy). convert_key cs c.args.call.now own) c.classes-classes.ensures.classes c.ty.ensures.ty in
    let P : FormView → Type 0 = λ f. Edits (f.recipe ++ c.in_ok-key.key ∷ []) c.args.w.now.pass.now c.edit.new.self.pass.now (Ok c.in_ok-form.form) in
    asks-late c.args.w.now.leaves.now.classes c.args.call.now c.args.handle.now.ty c.args.handle.now.form.recipe c.in_ok-key.key c.args.w.now c.edit.new.self
    c.in_ok-form.form c.from_residual-in_err-invoke_edited_with.result
    c.requires.changes key (subst P c.form.ensures c.in_ok-form.ensures.edits) c.from_residual-in_err-invoke_edited_with.ensures.1

pub returns-clause-asks : goal.returns-clause-asks
returns-clause-asks g c =
    let key : c.in_ok-key.key ≡ convert_key c.args.w.now.leaves.now.classes c.args.call.now c.args.handle.now.ty =
    c.in_ok-key.ensures ∙ ap₂ (λ (cs : List Class) (own : MethodTy). convert_key cs c.args.call.now own) c.classes-classes.ensures.classes c.ty.ensures.ty in
    let P : FormView → Type 0 = λ f. Edits (f.recipe ++ c.in_ok-key.key ∷ []) c.args.w.now.pass.now c.edit.new.self.pass.now (Ok c.in_ok-form.form) in
    asks-edited c.args.w.now.leaves.now.classes c.args.call.now c.args.handle.now.ty c.args.handle.now.form.recipe c.in_ok-key.key c.args.w.now c.edit.new.self
    c.requires.changes key
    c.in_ok-form.form c.in_ok-invoke_edited_with.field-0 (subst P c.form.ensures c.in_ok-form.ensures.edits)

pub returns-clause-answer : goal.returns-clause-answer
returns-clause-answer g c t st =
    let key : c.in_ok-key.key ≡ convert_key c.args.w.now.leaves.now.classes c.args.call.now c.args.handle.now.ty =
    c.in_ok-key.ensures ∙ ap₂ (λ (cs : List Class) (own : MethodTy). convert_key cs c.args.call.now own) c.classes-classes.ensures.classes c.ty.ensures.ty in
    let fields : c.in_ok-more.more.items ≡ convert_fields rules.AsType c.args.w.now.leaves.now.classes c.args.call.now c.args.handle.now.ty =
    c.in_ok-more.ensures ∙ ap₂ (λ (cs : List Class) (own : MethodTy). convert_fields rules.AsType cs c.args.call.now own) c.classes-classes.ensures.classes
    c.ty-2.ensures.ty
    in
    let made : c.in_ok-form.form.now.recipe ≡ c.args.handle.now.form.recipe ++ c.in_ok-key.key ∷ [] =
    c.in_ok-form.ensures.edits.0 ∙ ap (λ (f : FormView). f.recipe ++ c.in_ok-key.key ∷ []) c.form.ensures in
    converted-answer c.args.w.now.leaves.now c.classes-classes.ensures.are c.args.call.now c.args.handle.now c.in_ok-form.form.now c.in_ok-key.key
    c.in_ok-more.more.items c.requires.row c.requires.changes key fields made
    t c.args.args.now c.args.n c.in_ok-invoke_edited_with.field-0 st c.requires.typed c.ranges.n.fits c.in_ok-invoke_edited_with.ensures.run
