use Rattle.std.proofs.Common.{◌≡◌, ◌∙◌, sym, ap, ◌++◌, append_assoc, codes, take}
use Rattle.std.proofs.lemmas.Result.{on_ok_weaker}
use Rattle.mh_texts.specs.LiteralText.{string_text}
use Rattle.mh_texts.specs.Printed.{value_text}
use Rattle.mh_texts.specs.Text.{cut, escaped}
use Rattle.mh_texts.proofs.Fronts.{front_cut}
use Rattle.mh_texts.proofs.shown.push_shown.Goals as goal

pub returns-in-Text : goal.returns-in-Text
returns-in-Text c =
    let old = c.args.bytes.now.items in
    let new = c.push_string.new.bytes.items in
    let text = c.in-Text.text in
    let classes = c.args.classes.now in
    let written = ap (λ t. old ++ string_text t) (c.front.ensures ∙ ap (take 1025) c.as_slice.ensures) in
    let shown : cut (old ++ string_text (take 1025 text)) ≡ cut (old ++ string_text text) =
    ap cut (sym (append_assoc old (codes "s:") (escaped (take 1025 text))))
    ∙ (front_cut (old ++ codes "s:") text ∙ ap cut (append_assoc old (codes "s:") (escaped text))) in
    on_ok_weaker c.push_string.result
    (λ (is : new ≡ old ++ string_text c.front.result.now). ap cut (is ∙ written)
    ∙ (shown ∙ ap (λ v. cut (old ++ value_text classes v)) (sym c.in-Text.is))) c.push_string.ensures
