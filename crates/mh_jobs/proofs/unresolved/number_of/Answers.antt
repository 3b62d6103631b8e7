use Rattle.std.proofs.Common.{◌≤◌, length, sym, subst, ℕ}
use Rattle.std.specs.Prelude.{nat_lt}
use Rattle.std.proofs.lemmas.List.Sums.{count_by-le-length}
use Rattle.mh_jobs.proofs.unresolved.number_of.Goals as goal

pub returns-clause-few : goal.returns-clause-few
returns-clause-few c =
    let dynamics = c.args.view.now.dynamics in
    subst (λ (n : ℕ). n ≤ length dynamics) (sym c.number_of.ensures) (count_by-le-length (λ d. nat_lt d.index c.args.index) dynamics)
