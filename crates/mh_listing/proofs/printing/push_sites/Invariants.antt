use Rattle.std.proofs.Common.{◌≡◌, ◌++◌, ◌+◌, drop}
use Rattle.mh_listing.specs.Listing.{lines_from}
use Rattle.mh_listing.proofs.printing.push_sites.Given as goal

abbrev pub invariant-loop-k : goal.invariant-loop-k
invariant-loop-k l =
    l.text.items ++ lines_from (l.first + l.k) l.view (drop l.k l.view.sites) ≡ l.initial.text.items ++ lines_from l.first l.view l.view.sites
