use Rattle.std.proofs.Common.{◌∙◌}
use Rattle.mh_values.proofs.TypeEquality.{pointwise-types, same-eq}
use Rattle.mh_values.proofs.same.are_same_types.Goals as goal

pub returns : goal.returns
returns c = c.eq.ensures ∙ pointwise-types _ same-eq c.args.a.now c.args.b.now
