use Rattle.std.proofs.Common.{◌≡◌, ◌++◌, take}
use Rattle.std.specs.List.{flat_map}
use Rattle.mh_made_class.specs.Constants.{entry_bytes, site_entries}
use Rattle.mh_made_class.proofs.making.push_pool.Given as goal

abbrev pub invariant-loop-placed : goal.invariant-loop-placed
invariant-loop-placed l =
    l.file.items ≡ l.initial.file.items ++ flat_map (λ p. flat_map entry_bytes (site_entries p)) (take l.placed-index l.layout.sites.items)
