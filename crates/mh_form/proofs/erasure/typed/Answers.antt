use Rattle.mh_form.proofs.ErasureLaws.{typed-range}
use Rattle.mh_form.proofs.erasure.typed.Goals as goal

pub returns-clause-range : goal.returns-clause-range
returns-clause-range c = typed-range c.args.classes.now c.args.ty c.args.slot c.typed_value.result c.typed_value.ensures
