use Rattle.std.proofs.Common.{◌≡◌, ◌≤◌, ◌-◌, ◌++◌, false, map, take, drop}
use Rattle.mh_values.specs.Descriptor.{pieces}
use Rattle.mh_values.proofs.Pieces.{within}
use Rattle.mh_values.proofs.descriptor.type_pieces.Given as goal

abbrev pub invariant-loop-at : goal.invariant-loop-at
invariant-loop-at l = record {
  ordered : l.start ≤ l.at;
  cut : pieces false l.bytes ≡ map (λ x. x.now) l.found.items ++ within (take (l.at - l.start) (drop l.start l.bytes)) (pieces l.in_name (drop l.at l.bytes));
}
