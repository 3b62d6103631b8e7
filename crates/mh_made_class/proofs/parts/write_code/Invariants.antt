use Rattle.std.proofs.Common.{◌≡◌, ◌*◌, length, take}
use Rattle.std.specs.List.{flat_map}
use Rattle.mh_made_class.specs.Parts.{instruction}
use Rattle.mh_made_class.proofs.parts.write_code.Given as goal

abbrev pub invariant-loop-placed : goal.invariant-loop-placed
invariant-loop-placed l = record {
  put : l.bytes.items ≡ flat_map instruction (take l.placed-index l.sites);
  len : length l.bytes.items ≡ 5 * l.placed-index;
}
