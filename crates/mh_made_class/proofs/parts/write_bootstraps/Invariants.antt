use Rattle.std.proofs.Common.{◌≡◌, ◌≤◌, ◌+◌, ◌*◌, ◌++◌, length, take}
use Rattle.std.specs.List.{flat_map}
use Rattle.mh_made_class.specs.Constants.{u2}
use Rattle.mh_made_class.specs.Parts.{bootstrap}
use Rattle.mh_made_class.proofs.parts.write_bootstraps.Given as goal

abbrev pub invariant-loop-placed : goal.invariant-loop-placed
invariant-loop-placed l = record {
  put : l.bytes.items ≡ u2 (length l.sites) ++ flat_map bootstrap (take l.placed-index l.sites);
  len : length l.bytes.items ≤ 2 + 131076 * l.placed-index;
}
