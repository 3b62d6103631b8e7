use Rattle.mh_report.proofs.Running.{results_text-whole}
use Rattle.mh_report.proofs.printing.push_answers.Goals as goal

pub returns : goal.returns
returns c = results_text-whole c.args.classes.now c.args.answers.now c.loop-answer.answer-index _ _ c.loop-answer-test.false c.loop-answer.invariant
