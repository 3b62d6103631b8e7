use Rattle.std.proofs.Common.{◌∙◌, ap, sym, true, false}
use Rattle.std.specs.Str.{bytes_eq}
use Rattle.mh_script.specs.Numbers.{number_of}
use Rattle.mh_script.proofs.Written.{number_of-refused, number_of-no_text, number_of-read}
use Rattle.mh_script.proofs.number.read_number.Goals as goal

pub returns-in_default : goal.returns-in_default
returns-in_default c = number_of-no_text c.args.bytes.now c.in_default.ensures.cases.0

pub returns-in_default-parse : goal.returns-in_default-parse
returns-in_default-parse c =
    number_of-refused c.in-Ok.text.now c.parse.result c.in_default-parse.field-0 c.parse.ensures.value.0 c.in_default-parse.is ∙
    ap number_of c.in-Ok.ensures.cases.0

pub returns-then-eq : goal.returns-then-eq
returns-then-eq c =
    let parsed = c.in-Ok-parse.ensures.value.0 in
    sym (number_of-read c.in-Ok.text.now c.in-Ok-parse.number true parsed.0.1 parsed.1 (c.if-eq.ensures ∙ ap (λ t. bytes_eq t c.in-Ok.text.now)
    c.format.ensures.text)) ∙ ap number_of c.in-Ok.ensures.cases.0

pub returns-else-eq : goal.returns-else-eq
returns-else-eq c =
    let parsed = c.in-Ok-parse.ensures.value.0 in
    sym (number_of-read c.in-Ok.text.now c.in-Ok-parse.number false parsed.0.1 parsed.1 (c.if-eq.ensures ∙ ap (λ t. bytes_eq t c.in-Ok.text.now)
    c.format.ensures.text)) ∙ ap number_of c.in-Ok.ensures.cases.0
