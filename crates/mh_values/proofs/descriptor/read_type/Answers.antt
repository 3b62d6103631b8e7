use Rattle.std.proofs.Common.{sym, ap, subst, ◌∙◌}
use Rattle.mh_values.specs.Descriptor.{type_meant, unless_bad}
use Rattle.mh_values.specs.ReadAs.{IsTypeRead}
use Rattle.mh_values.proofs.ReadBy.{type_read}
use Rattle.mh_values.proofs.descriptor.read_type.Goals as goal

pub returns-clause-read : goal.returns-clause-read
returns-clause-read c =
    let classes = c.args.classes.now in
    let text = c.args.bytes.now in
    subst (IsTypeRead classes text)
    (ap (λ fault. unless_bad fault (type_meant classes 0 text)) c.in_ok-field_descriptor_text.ensures.ok ∙ sym c.type_of.ensures)
    (type_read classes text)
