use Rattle.std.proofs.Common.{◌∙◌, ap, sym, true, false}
use Rattle.std.specs.Str.{bytes_eq}
use Rattle.mh_texts.specs.Number.{unsigned_of}
use Rattle.mh_texts.proofs.Numbers.{unsigned_of-refused, unsigned_of-no_text, unsigned_of-read}
use Rattle.mh_texts.proofs.number.unsigned_in.Goals as goal

pub returns-in_default : goal.returns-in_default
returns-in_default c = unsigned_of-no_text c.args.bytes.now c.in_default.ensures.cases.0

pub returns-in_default-parse : goal.returns-in_default-parse
returns-in_default-parse c =
    unsigned_of-refused c.in-Ok.text.now c.parse.result c.in_default-parse.field-0 c.parse.ensures.value.0 c.in_default-parse.is ∙
    ap unsigned_of c.in-Ok.ensures.cases.0

pub returns-then-eq : goal.returns-then-eq
returns-then-eq c =
    let parsed = c.in-Ok-parse.ensures.value.0 in
    sym (unsigned_of-read c.in-Ok.text.now c.in-Ok-parse.number true parsed.0.1 parsed.1 (c.if-eq.ensures ∙ ap (λ t. bytes_eq t c.in-Ok.text.now)
    c.format.ensures.text)) ∙ ap unsigned_of c.in-Ok.ensures.cases.0

pub returns-else-eq : goal.returns-else-eq
returns-else-eq c =
    let parsed = c.in-Ok-parse.ensures.value.0 in
    sym (unsigned_of-read c.in-Ok.text.now c.in-Ok-parse.number false parsed.0.1 parsed.1 (c.if-eq.ensures ∙ ap (λ t. bytes_eq t c.in-Ok.text.now)
    c.format.ensures.text)) ∙ ap unsigned_of c.in-Ok.ensures.cases.0
