use Rattle.std.proofs.Common.{codes}
use Rattle.std.specs.Fmt.{decimal}
use Rattle.mh_drawing.specs.Why.{pair_text}
use Rattle.mh_drawing.proofs.Pieces.{four}
use Rattle.mh_drawing.proofs.why.push_shared.Goals as goal

pub returns : goal.returns
returns c =
    four _ _ _ _ _
    (pair_text c.args.sites.0 c.args.sites.1) (codes " share form ") (decimal c.args.form) (codes "\n")
    c.in_ok-push_two.ensures c.in_ok-push.ensures c.in_ok-push_number.ensures c.in_ok-push-2.ensures
