use Rattle.std.proofs.Common.{◌≡◌, ◌*◌}
use Rattle.std.specs.Prelude.{sum_by}
use Rattle.std.specs.List.{AllByRecursion}
use Rattle.mh_made_class.specs.Sites.{IsMakeableSite, site_width}
use Rattle.mh_tests.proofs.racing.sites.Given as goal

abbrev pub invariant-loop : goal.invariant-loop
invariant-loop l = record {
  each : AllByRecursion IsMakeableSite l.sites;
  width : sum_by site_width l.sites ≡ 7 * l.counter;
}
