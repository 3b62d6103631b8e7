use Rattle.std.proofs.Common.{sym, subst, IfOk}
use Rattle.mh_handle.specs.Works.{StandsIn}
use Rattle.mh_attempt.specs.Nodes.{three_tree}
use Rattle.mh_attempt.proofs.lines.combining.of_three.Goals as goal

pub returns-in-Guard-clause-stands : goal.returns-in-Guard-clause-stands
returns-in-Guard-clause-stands g c a b d first second third =
    subst (λ by. IfOk c.guard_of.result (λ h. StandsIn c.args.w.now h (three_tree by a b d))) (sym c.in-Guard.is)
    (c.guard_of.ensures.stands a b d first second third)

pub returns-in-Counted-clause-stands : goal.returns-in-Counted-clause-stands
returns-in-Counted-clause-stands g c a b d first second third =
    subst (λ by. IfOk c.counted_of.result (λ h. StandsIn c.args.w.now h (three_tree by a b d))) (sym c.in-Counted.is)
    (c.counted_of.ensures.stands a b d first second third)
