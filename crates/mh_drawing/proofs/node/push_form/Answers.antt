use Rattle.std.proofs.Common.{◌≡◌, subst, ◌++◌}
use Rattle.std.specs.Prelude.{OnOk}
use Rattle.mh_drawing.specs.Drawing.{form_text}
use Rattle.mh_drawing.proofs.node.push_form.Goals as goal

pub returns : goal.returns
returns c =
    subst
    (λ form. OnOk c.push_form_of.result (c.push_form_of.new.text.items ≡ c.args.text.now.items ++ form_text c.args.forms.now c.args.targets.now form))
    c.form.ensures c.push_form_of.ensures
