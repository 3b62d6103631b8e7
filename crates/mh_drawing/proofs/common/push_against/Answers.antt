use Rattle.std.proofs.Common.{◌∙◌, ap, ◌++◌, codes}
use Rattle.std.specs.Fmt.{decimal}
use Rattle.std.specs.Prelude.{slice_get}
use Rattle.mh_drawing.specs.Why.{parting_text}
use Rattle.mh_drawing.proofs.Pieces.{seven}
use Rattle.mh_drawing.proofs.common.push_against.Goals as goal

pub returns : goal.returns
returns c =
    let at = c.args.at in
    seven _ _ _ _ _ _ _ _
    (codes "their recipes part at key ") (decimal at) (codes ": ") (parting_text (slice_get c.args.one.now at)) (codes " against ")
    (parting_text (slice_get c.args.other.now at)) (codes "\n")
    c.in_ok-push.ensures c.in_ok-push_number.ensures c.in_ok-push-2.ensures
    (c.in_ok-push_parting.ensures ∙ ap (λ k. c.push-2.new.text.items ++ parting_text k) c.key_at.ensures)
    c.in_ok-push-3.ensures
    (c.in_ok-push_parting-2.ensures ∙ ap (λ k. c.push-3.new.text.items ++ parting_text k) c.key_at-2.ensures)
    c.in_ok-push-4.ensures
