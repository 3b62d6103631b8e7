use Rattle.std.proofs.Common.{refl, inl, inr}
use Rattle.std.proofs.lemmas.Result.{IfOk-weaker}
use Rattle.mh_words.specs.Words.{held_names}
use Rattle.mh_drawn.specs.Answer.{AnswersRequest, SaysStop}
use Rattle.mh_drawn.specs.Words.{held_asked}
use Rattle.mh_drawn.proofs.program.answer_request.Goals as goal

pub returns-in-Ok : goal.returns-in-Ok
returns-in-Ok g c = inl (refl, c.in-Ok.ensures.text)

pub returns-in-Err : goal.returns-in-Err
returns-in-Err g c =
    IfOk-weaker c.stopped.result (λ answer. SaysStop c.in-Err.stop answer.status answer.text.items)
    (λ answer. AnswersRequest (held_asked c.args.asked) (held_names c.args.names.now) (g.I.Inputs.contents c.args.inputs.now)
    (g.I.Inputs.faults c.args.inputs.now) (g.I.Inputs.faults c.read_and_show.new.inputs) answer.status answer.text.items)
    (λ answer says. inr (c.in-Err.stop, c.in-Err.ensures.stop, says)) c.stopped.ensures
