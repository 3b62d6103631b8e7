use Rattle.std.proofs.Common.{ap, ◌∙◌}
use Rattle.mh_handle.specs.Parts.{PartsView}
use Rattle.mh_handle.proofs.standing.LeafStands.{leaf-answers}
use Rattle.mh_handle.proofs.leaves.leaf.Goals as goal

pub returns-clause-stands : goal.returns-clause-stands
returns-clause-stands g c =
    leaf-answers c.args.w.now.leaves.now c.are_well_typed.ensures c.args.id c.ty.result.now c.in_ok-ty.ty c.in_ok-shape.shape c.of_fields.result.sides
    c.of_fields.result.fields c.make_rooted.result
    c.ty.ensures c.in_ok-ty.ensures c.in_ok-shape.ensures (ap (λ (p : PartsView). p.sides) c.of_fields.ensures)
    (ap (λ (p : PartsView). p.fields) c.of_fields.ensures ∙ c.in_ok-fields.ensures) c.make_rooted.ensures.grows
