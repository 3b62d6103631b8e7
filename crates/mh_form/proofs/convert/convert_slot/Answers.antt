use Rattle.std.proofs.Common.{ap, sym, ◌∙◌}
use Rattle.mh_form.specs.Slots.{slot_or_throw}
use Rattle.mh_form.proofs.ConvertedSlots.{converted-typed}
use Rattle.mh_form.proofs.ErasureLaws.{typed-has_type}
use Rattle.mh_form.proofs.convert.convert_slot.Goals as goal

pub convert-requires-clause-typed : goal.convert-requires-clause-typed
convert-requires-clause-typed c =
    typed-has_type c.args.classes.now c.args.by.conv.from c.args.slot c.typed-value.result c.typed-value.ensures.is

pub returns : goal.returns
returns c =
    c.slot_or_throw.ensures
    ∙ (ap slot_or_throw c.convert.ensures
    ∙ sym (converted-typed c.args.by.rules c.args.classes.now c.args.by.conv c.args.slot c.typed-value.result c.requires c.typed-value.ensures.is))
