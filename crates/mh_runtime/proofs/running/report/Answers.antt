use Rattle.std.proofs.Common.{refl, rules, ◌∙◌, ap, subst, List, map, inr}
use Rattle.std.specs.List.Sorted.{IsPermutation}
use Rattle.mh_condy.specs.Passes.{PassView}
use Rattle.mh_report.specs.declared.attempt.Attempt.{Attempt}
use Rattle.mh_runtime.specs.Report.{as_attempt}
use Rattle.mh_runtime.proofs.running.report.Goals as goal

pub returns-in-Some-clause-stop : goal.returns-in-Some-clause-stop
returns-in-Some-clause-stop g c = inr (search rules, c.in_ok-constants.ensures.settled)

pub returns-clause-run : goal.returns-clause-run
returns-clause-run g c = record {
  none = search rules;
  tells = record {
    threads = search rules;
    table = c.in_ok-constants.ensures.table;
    constants = c.in_ok-constants.ensures.rows;
    settled = c.in_ok-constants.ensures.settled;
    entries = c.in_ok-constants.ensures.entries;
    own = c.in_ok-constants.ensures.own;
    linked_are = c.recorded-recorded.ensures.are;
    resolving_same = subst (λ (xs : List Attempt). IsPermutation xs c.by_serial.result)
        (c.in_ok-resolving.ensures ∙ ap (map as_attempt) (c.attempts.ensures.items ∙ ap (λ (p : PassView). p.attempts) c.constants-2.ensures))
        c.by_serial.ensures.same;
    resolving_rising = c.by_serial.ensures.rising;
    forms_are = c.len.ensures.count;
    same = subst (λ (xs : List Attempt). IsPermutation xs c.by_serial-2.result) c.into_attempts.ensures c.by_serial-2.ensures.same;
    rising = c.by_serial-2.ensures.rising;
  };
  seat_is = refl;
}
