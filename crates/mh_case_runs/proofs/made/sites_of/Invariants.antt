use Rattle.std.proofs.Common.{◌≤◌}
use Rattle.std.specs.Prelude.{sum_by}
use Rattle.std.specs.List.{AllByRecursion}
use Rattle.mh_made_class.specs.Sites.{IsMakeableSite, site_width}
use Rattle.mh_case_runs.proofs.made.sites_of.Given as goal

abbrev pub invariant-loop-site : goal.invariant-loop-site
invariant-loop-site l = record {
  each : AllByRecursion IsMakeableSite l.made;
  width : sum_by site_width l.made ≤ l.indexes;
  few : l.indexes ≤ 65000;
}
