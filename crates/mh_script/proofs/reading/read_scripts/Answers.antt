use Rattle.mh_script.proofs.ScriptsAgain.{told_again}
use Rattle.mh_script.proofs.reading.read_scripts.Goals as goal

pub returns-clause-again : goal.returns-clause-again
returns-clause-again c = told_again c.args.bytes.now c.read_all.result c.read_all.ensures
