use Rattle.std.proofs.Common.{inl}
use Rattle.std.proofs.lemmas.Result.{IfOk-weaker}
use Rattle.mh_words.specs.Options.{said}
use Rattle.mh_drawn.specs.Answer.{IsAnswerTo, SaysUsage}
use Rattle.mh_drawn.proofs.Requests.{no-asked}
use Rattle.mh_drawn.proofs.program.answer_words.Goals as goal

pub returns-in_default : goal.returns-in_default
returns-in_default g c =
    let words = said c.args.words.now in
    IfOk-weaker c.usage.result (λ answer. SaysUsage answer.status answer.text.items)
    (λ answer. IsAnswerTo words (g.I.Inputs.contents c.args.inputs.now) (g.I.Inputs.faults c.args.inputs.now) (g.I.Inputs.faults c.args.inputs.now)
    answer.status answer.text.items) (λ answer says. inl (no-asked words c.in_default.ensures, says)) c.usage.ensures
