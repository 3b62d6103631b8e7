use Rattle.std.proofs.Common.{◌∙◌, sym}
use Rattle.mh_texts.proofs.SpelledNumbers.{unsigned_spelled, unsigned_read}
use Rattle.mh_texts.proofs.number.read_unsigned.Goals as goal

pub returns-clause-spelled : goal.returns-clause-spelled
returns-clause-spelled c = λ n. (
  λ told. unsigned_spelled c.args.bytes.now n (sym c.unsigned_in.ensures ∙ told),
  λ is. c.unsigned_in.ensures ∙ unsigned_read c.args.bytes.now n is,
)
