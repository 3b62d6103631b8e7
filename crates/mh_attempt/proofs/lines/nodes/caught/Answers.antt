use Rattle.std.proofs.Common.{refl, sym, ◌∙◌, Ok}
use Rattle.mh_jobs.specs.Names.{class_of}
use Rattle.mh_jobs.specs.Thrown.{◌>>=◌, plainly}
use Rattle.mh_tree.specs.Tree as tree
use Rattle.mh_attempt.proofs.lines.nodes.caught.Goals as goal

pub returns-clause-asked : goal.returns-clause-asked
returns-clause-asked c frame hold =
    let a = c.in_ok-target.ensures.stands c.args.leaves.now frame hold in
    let b = c.in_ok-part.ensures.stands c.args.leaves.now frame hold in
    let d = (λ i. class_of plainly (sym c.classes.ensures i) (sym c.as_slice.ensures i)) ∙ c.in_ok-class.ensures in
    (a.0, b.0, a.2, b.2, record { asked = λ i. a.1 i >>= (λ t. d i >>= (λ x. b.1 i >>= (λ p. Ok (tree.Catch t x p)))); forms = refl })
