use Rattle.std.proofs.Common.{refl, sym, subst, ◌∙◌, ap, ap₂, ◌+◌, ◌≤◌, length}
use Rattle.mh_values.specs.declared.types.MethodTy.{MethodTy}
use Rattle.mh_tree.specs.Rows.{end_types, kept_by}
use Rattle.mh_form.specs.Erasure.{shape_of}
use Rattle.mh_edit.specs.declared.key.Key.TheVariants as key
use Rattle.mh_more.proofs.TryAnswers.{try-few, try-own, try-takes}
use Rattle.mh_more.proofs.cleanups.try_root.Goals as goal

pub kept_by-kept-requires-clause-takes : goal.kept_by-kept-requires-clause-takes
kept_by-kept-requires-clause-takes c =
    subst (λ (b : MethodTy). length (end_types c.ty-2.result.now.ret) ≤ length b.params) (sym c.ty.ensures.ty)
    (subst (λ (a : MethodTy). length (end_types a.ret) ≤ length c.args.cleanup.now.ty.params) (sym c.ty-2.ensures.ty)
    (try-takes c.args.target.now c.args.cleanup.now c.args.ty c.requires))

pub kept_by-kept-requires-clause-few : goal.kept_by-kept-requires-clause-few
kept_by-kept-requires-clause-few c =
    subst (λ (b : MethodTy). kept_by b c.ty-2.result.now.ret ≤ 255) (sym c.ty.ensures.ty)
    (subst (λ (a : MethodTy). kept_by c.args.cleanup.now.ty a.ret ≤ 255) (sym c.ty-2.ensures.ty)
    (try-few c.args.target.now c.args.cleanup.now c.args.ty c.requires))

pub returns-clause-root : goal.returns-clause-root
returns-clause-root c = record {
  typed = refl;
  weighed = λ i. 1 + c.weight.ensures.weight i + c.weight-2.ensures.weight i;
  keyed =
      ap₂ key.TryRoot (c.in_ok-shape.ensures ∙ ap shape_of (try-own c.args.target.now c.args.cleanup.now c.args.ty c.requires))
      (c.kept_by-kept.ensures ∙ (λ i. kept_by (c.ty.ensures.ty i) (c.ty-2.ensures.ty i).ret));
}
