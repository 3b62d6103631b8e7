use Rattle.std.proofs.Common.{ap, ◌∙◌}
use Rattle.mh_handle.specs.Parts.{PartsView}
use Rattle.mh_concat.proofs.ConcatStands.{concat-answers}
use Rattle.mh_concat.proofs.joining.concat.Goals as goal

pub returns-clause-stands : goal.returns-clause-stands
returns-clause-stands g c =
    concat-answers c.args.w.now.leaves.now c.classes-classes.ensures.are c.args.ty.now c.in_ok-own.own c.args.pieces.now
    c.in_ok-copied.copied c.in_ok-shape.shape c.of_fields.result.sides c.of_fields.result.fields c.make_rooted.result
    c.requires.joined c.in_ok-own.ensures c.in_ok-copied.ensures c.in_ok-shape.ensures (ap (λ (p : PartsView). p.sides) c.of_fields.ensures)
    (ap (λ (p : PartsView). p.fields) c.of_fields.ensures ∙ c.in_ok-fields.ensures) c.make_rooted.ensures.grows
