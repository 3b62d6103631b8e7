use Rattle.std.proofs.Common.{sym, ◌∙◌}
use Rattle.mh_form.specs.Run.{conv_of}
use Rattle.mh_form.proofs.Fields.{field_of-found}
use Rattle.mh_form.proofs.OtherKinds.{no_conv}
use Rattle.mh_form.proofs.lookup.conv_in.Goals as goal

pub returns-in_default : goal.returns-in_default
returns-in_default c =
    sym (field_of-found conv_of c.args.leaves.now c.args.bound.now.fields.items c.args.field c.in_ok-found.field-0.now (sym c.in_ok-found.ensures)
    ∙ no_conv c.args.leaves.now c.in_ok-found.field-0.now c.in_default.not-Conv c.in_default.not-Explicit)
