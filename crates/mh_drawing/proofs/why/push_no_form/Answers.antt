use Rattle.std.proofs.Common.{◌∙◌, ap, ◌++◌, codes}
use Rattle.std.specs.Fmt.{decimal}
use Rattle.mh_texts.specs.Printed.{shown_exception}
use Rattle.mh_drawing.proofs.Pieces.{five}
use Rattle.mh_drawing.proofs.why.push_no_form.Goals as goal

pub returns : goal.returns
returns c =
    five _ _ _ _ _ _
    (codes "site ") (decimal c.args.number) (codes " has no form: it is linked to an error, ") (shown_exception c.args.classes.now c.args.exc.now) (codes "\n")
    c.in_ok-push.ensures c.in_ok-push_number.ensures c.in_ok-push-2.ensures
    (c.in_ok-push-3.ensures ∙ ap (λ t. c.push-2.new.text.items ++ t) (c.deref.ensures.value ∙ c.in_ok-show_exc.ensures)) c.in_ok-push-4.ensures
