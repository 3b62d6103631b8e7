use Rattle.std.proofs.Common.{refl, sym, ◌∙◌, Ok}
use Rattle.mh_jobs.specs.Names.{types_of_text}
use Rattle.mh_jobs.specs.Thrown.{◌>>=◌, plainly}
use Rattle.mh_tree.specs.Tree as tree
use Rattle.mh_attempt.proofs.lines.nodes.dropped.Goals as goal

pub returns-clause-asked : goal.returns-clause-asked
returns-clause-asked c frame hold =
    let a = c.in_ok-target.ensures.stands c.args.leaves.now frame hold in
    let b = (λ i. types_of_text plainly (sym c.classes.ensures i) (sym c.as_slice.ensures i)) ∙ c.in_ok-types.ensures in
    (a.0, a.2, record { asked = λ i. a.1 i >>= (λ t. b i >>= (λ x. Ok (tree.Drop t c.args.position x))); forms = refl })
