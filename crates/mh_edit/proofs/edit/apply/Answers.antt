use Rattle.mh_edit.proofs.Laws.{law-made}
use Rattle.mh_edit.proofs.edit.apply.Goals as goal

pub returns-clause-law : goal.returns-clause-law
returns-clause-law c = law-made c.args.key.now c.args.body.now c.body_of.result c.requires c.body_of.ensures
