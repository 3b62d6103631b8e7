use Rattle.std.proofs.Common.{◌∙◌, ap}
use Rattle.mh_texts.specs.Number.{long_of}
use Rattle.mh_texts.proofs.Numbers.{long_of-refused, long_of-no_text}
use Rattle.mh_texts.proofs.number.read_long.Goals as goal

pub returns-in_default : goal.returns-in_default
returns-in_default c = long_of-no_text c.args.bytes.now c.in_default.ensures.cases.0

pub returns-in_default-parse : goal.returns-in_default-parse
returns-in_default-parse c =
    long_of-refused c.in-Ok.text.now c.parse.result c.in_default-parse.field-0 c.parse.ensures.value.0 c.in_default-parse.is ∙
    ap long_of c.in-Ok.ensures.cases.0
