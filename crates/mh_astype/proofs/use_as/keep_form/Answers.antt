use Rattle.std.proofs.Common.{ap, ◌∙◌, ◌+◌, ◌≤◌, arith}
use Rattle.std.proofs.lemmas.Bool.{and_parts}
use Rattle.mh_convert.specs.Conversion.{is_trivial_ret}
use Rattle.mh_handle.specs.Recipe.{are_trivial}
use Rattle.mh_astype.proofs.Using.{kept-shaped, light, used-kept}
use Rattle.mh_astype.proofs.use_as.keep_form.Goals as goal

pub retype-requires-clause-light : goal.retype-requires-clause-light
retype-requires-clause-light g c =
    let most : 1 + c.args.target.weight ≤ 256 =
    light c.args.rules c.args.w.now.leaves.now.classes c.args.target.ty c.args.target.weight c.args.ty c.args.ty c.requires.row in
    omega (arith, c.weight-weight.ensures.weight)

pub retype-requires-clause-shaped : goal.retype-requires-clause-shaped
retype-requires-clause-shaped g c =
    let params = and_parts (are_trivial c.args.w.now.leaves.now.classes c.args.ty.params c.args.target.ty.params)
    (is_trivial_ret c.args.w.now.leaves.now.classes c.args.target.ty.ret c.args.ty.ret) c.requires.keeps in
    kept-shaped c.args.rules c.args.w.now.leaves.now.classes c.args.target c.args.ty c.args.ty c.requires.shaped c.requires.row params.0

pub returns-in-Ok-clause-used : goal.returns-in-Ok-clause-used
returns-in-Ok-clause-used g c =
    used-kept c.args.rules c.args.w.now.leaves.now.classes c.args.ty c.args.target c.in-Ok.made c.requires.keeps c.in-Ok.ensures.ty
    (c.in-Ok.ensures.weight ∙ ap (λ n. 1 + n) c.weight-weight.ensures.weight) c.in-Ok.ensures.sides c.in-Ok.ensures.form c.in-Ok.ensures.fields
