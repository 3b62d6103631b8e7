use Rattle.std.proofs.Common.{◌∙◌, ap, sym, refl, Ok}
use Rattle.mh_jobs.specs.Thrown.{◌>>=◌}
use Rattle.mh_tree.specs.Tree as tree
use Rattle.mh_tree.specs.Tree.{cases_of}
use Rattle.mh_link.specs.Operations.{handles_in}
use Rattle.mh_attempt.proofs.lines.nodes.switched.Goals as goal

pub returns-clause-asked : goal.returns-clause-asked
returns-clause-asked c leaves frame hold =
    let a = c.in_ok-fallback.ensures.stands leaves frame hold in
    let b = c.in_ok-cases.ensures.asked leaves frame hold in
    let cases = ap (handles_in frame) (sym c.as_slice.ensures) ∙ b.1 in
    (a.0, cases_of b.0, a.2, b.2, record { asked = λ i. a.1 i >>= (λ x. cases i >>= (λ y. Ok (tree.Switch x (cases_of y)))); forms = refl })
