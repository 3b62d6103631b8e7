use Rattle.std.proofs.Common.{◌≡◌, ◌≤◌, drop, map}
use Rattle.std.specs.Prelude.{max, option_map, slice_index}
use Rattle.mh_link.specs.Depth.{greatest}
use Rattle.mh_condy.specs.Depths.{as_depth}
use Rattle.mh_condy.proofs.depths.over_names.Given as goal

-- the greatest of all is that of the ones so far and of the others
abbrev pub invariant-loop-name : goal.invariant-loop-name
invariant-loop-name l = record {
  small : l.most ≤ 64;
  same : greatest (map (λ d. as_depth (slice_index l.depths d)) l.names)
      ≡ option_map (max l.most) (greatest (map (λ d. as_depth (slice_index l.depths d)) (drop l.name-index l.names)));
}
