use Rattle.std.proofs.Common.{◌∙◌, ap, ◌++◌, codes}
use Rattle.mh_drawing.specs.Dot.{form_node}
use Rattle.mh_drawing.specs.Drawing.{form_label, is_shared, shared_look}
use Rattle.mh_drawing.proofs.Pieces.{seven}
use Rattle.mh_drawing.proofs.node.push_form_line.Goals as goal

pub returns : goal.returns
returns c =
    let form = c.args.form.now in
    seven _ _ _ _ _ _ _ _
    (codes "  ") (form_node form.number) (codes " [label=\"") (form_label form) (codes "\"")
    (shared_look (is_shared c.args.targets.now form.number)) (codes "];\n")
    c.in_ok-push.ensures
    (c.in_ok-push_form_node.ensures ∙ ap (λ n. c.push.new.text.items ++ form_node n) c.number_of-number.ensures)
    c.in_ok-push-2.ensures c.in_ok-push_form_label.ensures c.in_ok-push-3.ensures
    (c.in_ok-push_look.ensures
    ∙ ap (λ b. c.push-3.new.text.items ++ shared_look b) (c.is_shared.ensures ∙ ap (is_shared c.args.targets.now) c.number_of-number.ensures))
    c.in_ok-push-4.ensures
