use Rattle.std.proofs.Common.{List, sym, subst, rules}
use Rattle.std.specs.List.Sorted.{IsNonDecreasingBy}
use Rattle.std.proofs.lemmas.List.Sorted.{IsNonDecreasingBy-from_sort_by_key}
use Rattle.mh_report.specs.declared.attempt.Attempt.{Attempt}
use Rattle.mh_runtime.proofs.ordering.by_serial.Goals as goal

pub returns-clause-rising : goal.returns-clause-rising
returns-clause-rising c =
    subst (λ (attempts : List Attempt). IsNonDecreasingBy (λ a. a.serial) attempts) (sym c.from_vec.ensures)
    (IsNonDecreasingBy-from_sort_by_key (λ (a : Attempt). a.serial) _ c.sort_unstable_by_key.ensures.sorted (λ a r q k. search rules))
