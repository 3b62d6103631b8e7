use Rattle.std.proofs.Common.{codes}
use Rattle.mh_drawing.specs.Dot.{site_node}
use Rattle.mh_drawing.specs.Drawing.{site_label}
use Rattle.mh_drawing.proofs.Pieces.{five}
use Rattle.mh_drawing.proofs.boxes.push_site_line.Goals as goal

pub returns : goal.returns
returns c =
    five _ _ _ _ _ _
    (codes "  ") (site_node c.args.site.now.number) (codes " [shape=box, label=\"") (site_label c.args.classes.now c.args.site.now) (codes "\"];\n")
    c.in_ok-push.ensures c.in_ok-push_site_node.ensures c.in_ok-push-2.ensures c.in_ok-push_site_label.ensures c.in_ok-push-3.ensures
