use Rattle.std.proofs.Common.{sym, subst, IfOk}
use Rattle.mh_handle.specs.Works.{StandsIn}
use Rattle.mh_attempt.specs.Nodes.{two_tree}
use Rattle.mh_attempt.proofs.lines.combining.of_two.Goals as goal

pub returns-in-Joint-clause-stands : goal.returns-in-Joint-clause-stands
returns-in-Joint-clause-stands g c t p stands others =
    subst (λ by. IfOk c.join.result (λ h. StandsIn c.args.w.now h (two_tree by t p))) (sym c.in-Joint.is) (c.join.ensures.stands t p stands others)

pub returns-in-Catch-clause-stands : goal.returns-in-Catch-clause-stands
returns-in-Catch-clause-stands g c t p stands others =
    subst (λ by. IfOk c.catch_of.result (λ h. StandsIn c.args.w.now h (two_tree by t p))) (sym c.in-Catch.is) (c.catch_of.ensures.stands t p stands others)

pub returns-in-TryFinally-clause-stands : goal.returns-in-TryFinally-clause-stands
returns-in-TryFinally-clause-stands g c t p stands others =
    subst (λ by. IfOk c.tryfinally_of.result (λ h. StandsIn c.args.w.now h (two_tree by t p))) (sym c.in-TryFinally.is)
    (c.tryfinally_of.ensures.stands t p stands others)
