use Rattle.mh_words.specs.Options.{said}
use Rattle.mh_drawn.proofs.Statuses as statuses
use Rattle.mh_drawn.proofs.Statuses.{of-answer}
use Rattle.mh_drawn.proofs.program.draw.Goals as goal

pub returns-in-Ok-write_whole-clause-answers : goal.returns-in-Ok-write_whole-clause-answers
returns-in-Ok-write_whole-clause-answers g c in_memory in_full =
    (c.in-Ok.answer.text.items, c.in-Ok.ensures, rw c.deref.ensures.value at c.in-Ok-write_whole.ensures.all)

pub returns-in-Ok-write_whole-clause-failed : goal.returns-in-Ok-write_whole-clause-failed
returns-in-Ok-write_whole-clause-failed g c failed =
    absurd
    (of-answer (g.I.Inputs.contents c.args.inputs.now) (g.I.Inputs.faults c.args.inputs.now) (g.I.Inputs.faults c.answer_words.new.inputs)
    c.in-Ok.answer.status c.in-Ok.answer.text.items failed (said c.args.words.now) c.in-Ok.ensures)

pub returns-in-Ok-write_whole-clause-nothing : goal.returns-in-Ok-write_whole-clause-nothing
returns-in-Ok-write_whole-clause-nothing g c wanted =
    statuses.nothing (g.I.Inputs.contents c.args.inputs.now) (g.I.Inputs.faults c.args.inputs.now) (g.I.Inputs.faults c.answer_words.new.inputs)
    c.in-Ok.answer.status c.in-Ok.answer.text.items (said c.args.words.now) (g.S.Sink.taken c.args.sink.now) (g.S.Sink.taken c.write_whole.new.sink)
    c.in-Ok.ensures (rw c.deref.ensures.value at c.in-Ok-write_whole.ensures.all) wanted

pub returns-clause-broken : goal.returns-clause-broken
returns-clause-broken g c failed =
    (c.in-Ok.answer.text.items, (c.in-Ok.answer.status, c.in-Ok.ensures), rw c.deref.ensures.value at c.in-Err.ensures.part)
