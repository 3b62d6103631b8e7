use Rattle.std.proofs.Common.{refl, Ok}
use Rattle.mh_jobs.specs.Thrown.{◌>>=◌}
use Rattle.mh_attempt.specs.Nodes.{three_tree}
use Rattle.mh_attempt.proofs.lines.nodes.triple.Goals as goal

pub returns-clause-asked : goal.returns-clause-asked
returns-clause-asked c leaves frame hold =
    let a = c.in_ok-first.ensures.stands leaves frame hold in
    let b = c.in_ok-second.ensures.stands leaves frame hold in
    let d = c.in_ok-third.ensures.stands leaves frame hold in
    (a.0, b.0, d.0, a.2, b.2, d.2, record { asked = λ i. a.1 i >>= (λ x. b.1 i >>= (λ y. d.1 i >>= (λ z. Ok (three_tree c.args.by x y z)))); forms = refl })
