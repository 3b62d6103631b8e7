use Rattle.mh_drawing.specs.Drawing.{form_text}
use Rattle.mh_drawing.proofs.Pieces.{more}
use Rattle.mh_drawing.proofs.drawing.push_forms.Goals as goal

pub loop-form-preserved : goal.loop-form-preserved
loop-form-preserved c =
    more (form_text c.args.forms.now c.args.targets.now) c.args.forms.now c.loop-form.form-index c.form-item.result _ _ _ c.loop-form-test.true c.form-item.is
    c.loop-form.invariant c.in_ok-push_form.ensures
