use Rattle.std.proofs.Common.{◌≡◌, ◌+◌, ◌*◌, ◌≤◌, ◌++◌, length, drop, sum_by}
use Rattle.std.specs.List.{AllByRecursion}
use Rattle.mh_made_class.specs.Sites.{IsMakeableSite, site_width, pool_count}
use Rattle.mh_made_class.specs.Layout.{sites_from, placed}
use Rattle.mh_made_class.proofs.layout.place.Given as goal

abbrev pub invariant-loop-number : goal.invariant-loop-number
invariant-loop-number l = record {
  put : l.placed.items ++ sites_from l.number l.next (drop l.number l.sites) ≡ placed l.sites;
  makeable : AllByRecursion IsMakeableSite (drop l.number l.sites);
  fits : l.next + sum_by site_width (drop l.number l.sites) ≡ pool_count l.sites;
  some : 13 + 7 * l.number ≤ l.next;
  len : length l.placed.items ≡ l.number;
}
