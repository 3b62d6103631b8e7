use Rattle.std.proofs.Common.{◌∙◌, ap, sym}
use Rattle.mh_words.specs.Number.{is_written}
use Rattle.mh_words.proofs.Digits.{number_is_read}
use Rattle.mh_words.proofs.number.read_number.Goals as goal

pub returns-then-is_written : goal.returns-then-is_written
returns-then-is_written c =
    c.ok.ensures.value ∙ number_is_read c.args.most c.args.text.now _ c.requires c.parse.ensures.value.0
    (ap (is_written c.args.most) (sym c.as_bytes.ensures.value) ∙ sym c.if-is_written.ensures)
