use Rattle.std.proofs.Common.{sym, ◌∙◌, ap, length}
use Rattle.mh_condy.specs.Passes.{PassView}
use Rattle.mh_class_tests.proofs.LinkedSites.{none-unlearnt, nothing-at}
use Rattle.mh_class_tests.proofs.linked_calls.named_text.Goals as goal

-- the run has no dynamic constants

pub new-requires-clause-jobs : goal.new-requires-clause-jobs
new-requires-clause-jobs g c = c.new-none.ensures ∙ sym c.requires.constants

pub new-requires-clause-are : goal.new-requires-clause-are
new-requires-clause-are g c = record {
  each = λ k job at. absurd (nothing-at g.J.Run.given.constants k job c.requires.constants at);
  numbered = λ k job at. absurd (nothing-at g.J.Run.given.constants k job c.requires.constants at);
}

pub attempt_text-text-requires-clause-room : goal.attempt_text-text-requires-clause-room
attempt_text-text-requires-clause-room g c =
    none-unlearnt c.in_ok-asked.asked (length g.J.Run.given.constants) (ap length c.requires.constants)
    (ap (λ (p : PassView). p.known) c.in_ok-asked.ensures)
