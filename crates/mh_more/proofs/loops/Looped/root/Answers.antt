use Rattle.std.proofs.Common.{refl, sym, subst, ◌∙◌, ap, ◌≤◌, length, arith}
use Rattle.mh_values.specs.declared.types.MethodTy.{MethodTy}
use Rattle.mh_tree.specs.Rows.{further, turn_types}
use Rattle.mh_form.specs.Erasure.{shape_of}
use Rattle.mh_edit.specs.declared.key.Key.TheVariants as key
use Rattle.mh_more.proofs.LoopAnswers.{loop-few, loop-own, loop-takes}
use Rattle.mh_more.proofs.loops.Looped.root.Goals as goal

pub overflow_cast-iterations : goal.overflow_cast-iterations
overflow_cast-iterations c =
    let few = (loop-few c.args.self.now.iterations c.args.self.now.init c.args.self.now.body c.args.ty c.requires).0 in
    let size = c.len-iterations.ensures ∙ ap (λ (m : MethodTy). length m.params) c.ty.ensures.ty in
    omega (arith, few, size)

pub overflow_cast-init : goal.overflow_cast-init
overflow_cast-init c =
    let few = (loop-few c.args.self.now.iterations c.args.self.now.init c.args.self.now.body c.args.ty c.requires).1 in
    let size = c.len-init.ensures ∙ ap (λ (m : MethodTy). length m.params) c.ty-2.ensures.ty in
    omega (arith, few, size)

pub further_count-body-requires : goal.further_count-body-requires
further_count-body-requires c =
    let p = c.args.self.now in
    record {
      takes = subst (λ (m : MethodTy). length (turn_types m.ret) ≤ length m.params) (sym c.ty-3.ensures.ty)
          (loop-takes p.iterations p.init p.body c.args.ty c.requires);
      few = subst (λ (m : MethodTy). length (further m) ≤ 255) (sym c.ty-3.ensures.ty)
          (loop-few p.iterations p.init p.body c.args.ty c.requires).2;
    }

pub returns-clause-root : goal.returns-clause-root
returns-clause-root c =
    let p = c.args.self.now in
    let shape = c.in_ok-shape.ensures ∙ ap shape_of (loop-own p.iterations p.init p.body c.args.ty c.requires) in
    let iterations = c.len-iterations.ensures ∙ ap (λ (m : MethodTy). length m.params) c.ty.ensures.ty in
    let init = c.len-init.ensures ∙ ap (λ (m : MethodTy). length m.params) c.ty-2.ensures.ty in
    let body = c.further_count-body.ensures ∙ ap (λ (m : MethodTy). length (further m)) c.ty-3.ensures.ty in
    record {
      typed = refl;
      weighed = omega (arith, c.weight.ensures.weight, c.weight-2.ensures.weight, c.weight-3.ensures.weight);
      keyed = λ i. key.LoopRoot (shape i) (iterations i) (init i) (body i);
    }
