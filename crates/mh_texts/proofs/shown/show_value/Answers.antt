use Rattle.std.proofs.Common.{◌≡◌, ◌∙◌, ap, ◌++◌}
use Rattle.std.proofs.lemmas.Result.{IfOk-weaker}
use Rattle.mh_texts.specs.Printed.{value_text}
use Rattle.mh_texts.specs.ReadsBack.{ReadsBack}
use Rattle.mh_texts.specs.Text.{cut}
use Rattle.mh_texts.proofs.PrintedBack.{reads_back}
use Rattle.mh_texts.proofs.shown.show_value.Goals as goal

pub returns-clause-is : goal.returns-clause-is
returns-clause-is c =
    let text = value_text c.args.classes.now c.args.v.now in
    let written = c.in_ok-push_shown.ensures ∙ ap (λ front. cut (front ++ text)) c.new-bytes.ensures.items in
    IfOk-weaker c.cut.result (λ shown. shown.items ≡ cut c.push_shown.new.bytes.items) (λ shown. shown.items ≡ cut text)
    (λ shown is. is ∙ written) c.cut.ensures

pub returns-clause-back : goal.returns-clause-back
returns-clause-back c =
    let classes = c.args.classes.now in
    let v = c.args.v.now in
    let written = c.in_ok-push_shown.ensures ∙ ap (λ front. cut (front ++ value_text classes v)) c.new-bytes.ensures.items in
    IfOk-weaker c.cut.result (λ shown. shown.items ≡ cut c.push_shown.new.bytes.items) (λ shown. ReadsBack classes v shown.items)
    (λ shown is. reads_back classes v shown.items (is ∙ written)) c.cut.ensures
