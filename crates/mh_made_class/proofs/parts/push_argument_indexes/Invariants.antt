use Rattle.std.proofs.Common.{◌≡◌, ◌+◌, ◌*◌, ◌++◌, length, take}
use Rattle.std.specs.List.{flat_map}
use Rattle.mh_made_class.specs.Constants.{u2}
use Rattle.mh_made_class.specs.Parts.{argument_index}
use Rattle.mh_made_class.proofs.parts.push_argument_indexes.Given as goal

abbrev pub invariant-loop-argument : goal.invariant-loop-argument
invariant-loop-argument l = record {
  put : l.bytes.items ≡ l.initial.bytes.items ++ flat_map (λ a. u2 (argument_index a)) (take l.argument-index l.argument-items);
  len : length l.bytes.items ≡ length l.initial.bytes.items + 2 * l.argument-index;
}
