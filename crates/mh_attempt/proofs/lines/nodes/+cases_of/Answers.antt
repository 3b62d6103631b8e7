use Rattle.std.proofs.Common.{sym, subst, Ok}
use Rattle.mh_link.specs.Operations.{handles_in}
use Rattle.mh_attempt.specs.Cases.{TellsCases}
use Rattle.mh_attempt.proofs.nodes.SwitchNodes.{told-first}
use Rattle.mh_attempt.proofs.lines.nodes.+cases_of.Goals as goal

pub returns-clause-asked : goal.returns-clause-asked
returns-clause-asked t c leaves frame hold =
    subst (λ l. TellsCases leaves (Ok c.in_ok-with_first.field-0) (handles_in frame l)) (sym c.in-Some.ensures.cases.0)
    (told-first leaves frame c.in-Some.first.now c.in-Some.others.now c.in_ok-first.first c.in_ok-others.others c.in_ok-with_first.field-0
    c.in_ok-with_first.ensures (c.in_ok-first.ensures.stands leaves frame hold) (c.in_ok-others.ensures.asked leaves frame hold))
