use Rattle.std.proofs.Common.{refl, Ok}
use Rattle.mh_jobs.specs.Thrown.{◌>>=◌}
use Rattle.mh_attempt.specs.Nodes.{two_tree}
use Rattle.mh_attempt.proofs.lines.nodes.pair.Goals as goal

pub returns-clause-asked : goal.returns-clause-asked
returns-clause-asked c leaves frame hold =
    let a = c.in_ok-target.ensures.stands leaves frame hold in
    let b = c.in_ok-part.ensures.stands leaves frame hold in
    (a.0, b.0, a.2, b.2, record { asked = λ i. a.1 i >>= (λ t. b.1 i >>= (λ p. Ok (two_tree c.args.by t p))); forms = refl })
