use Rattle.std.proofs.Common.{◌∙◌}
use Rattle.mh_values.proofs.TypeEquality.{first-types, same-eq}
use Rattle.mh_values.proofs.same.begins_with_types.Goals as goal

pub returns : goal.returns
returns c = c.starts_with.ensures.value ∙ first-types _ same-eq c.args.types.now c.args.front.now
