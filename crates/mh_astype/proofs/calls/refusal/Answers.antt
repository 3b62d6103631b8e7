use Rattle.std.proofs.Common.{refl, sym, ◌∙◌}
use Rattle.mh_convert.specs.declared.conv.Rules.TheVariants as rules
use Rattle.mh_astype.proofs.Asking.{asked-row, row-at}
use Rattle.mh_astype.proofs.calls.refusal.Goals as goal

pub returns-in-Ok : goal.returns-in-Ok
returns-in-Ok c =
    let classes = c.args.classes.now in
    let own = c.args.handle.now.ty in
    let weight = c.args.handle.now.weight in
    asked-row rules.AsType classes own weight c.args.call.now c.in-Ok.field-0
    (sym (row-at rules.AsType classes classes c.ty.result.now own c.weight.result weight c.args.call.now refl c.ty.ensures.ty c.weight.ensures.weight)
    ∙ c.in-Ok.ensures)
