use Rattle.mh_texts.proofs.LiteralAgain.{told_again}
use Rattle.mh_texts.proofs.SpelledValues.{told_spelled}
use Rattle.mh_texts.proofs.WithinLimits.{told_within}
use Rattle.mh_texts.proofs.literal.read_literal.Goals as goal

pub returns-clause-spelled : goal.returns-clause-spelled
returns-clause-spelled c = told_spelled c.args.classes.now c.args.token.now c.read_value.result c.read_value.ensures

pub returns-clause-limits : goal.returns-clause-limits
returns-clause-limits c = told_within c.args.classes.now c.args.token.now c.read_value.result c.read_value.ensures

pub returns-clause-again : goal.returns-clause-again
returns-clause-again c = told_again c.args.classes.now c.args.token.now c.read_value.result c.read_value.ensures
