use Rattle.mh_leaves.proofs.Again.{told_again}
use Rattle.mh_leaves.proofs.ReadNames.{names_told}
use Rattle.mh_leaves.proofs.manifest.read_manifest.Goals as goal

pub returns-clause-names : goal.returns-clause-names
returns-clause-names c = names_told c.args.bytes.now c.read_all.result c.read_all.ensures

pub returns-clause-again : goal.returns-clause-again
returns-clause-again c = told_again c.args.bytes.now c.read_all.result c.read_all.ensures
