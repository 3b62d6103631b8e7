use Rattle.std.proofs.Common.{◌≡◌, ◌∙◌, ap, [], ◌++◌}
use Rattle.std.proofs.lemmas.Result.{IfOk-weaker}
use Rattle.mh_texts.specs.Text.{cut, escaped, shown_text}
use Rattle.mh_texts.proofs.Fronts.{front_cut}
use Rattle.mh_texts.proofs.shown.show_text.Goals as goal

pub returns : goal.returns
returns c =
    let text = c.args.text.now in
    let written = c.in_ok-push_chars.ensures ∙ (ap (λ front. front ++ escaped c.front.result.now) c.new-bytes.ensures.items ∙ ap escaped c.front.ensures) in
    IfOk-weaker c.cut.result (λ shown. shown.items ≡ cut c.push_chars.new.bytes.items) (λ shown. shown.items ≡ shown_text text)
    (λ shown is. is ∙ (ap cut written ∙ front_cut [] text)) c.cut.ensures
