use Rattle.std.proofs.Common.{◌≡◌, map}
use Rattle.std.specs.List.{range_with_len}
use Rattle.mh_generated.specs.Sites.{site_of}
use Rattle.mh_generated.proofs.sites.all_sites.Given as goal

abbrev pub invariant-loop-place : goal.invariant-loop-place
invariant-loop-place l = l.sites ≡ map (site_of l.number) (range_with_len 0 l.place)
