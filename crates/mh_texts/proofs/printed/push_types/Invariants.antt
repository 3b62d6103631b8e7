use Rattle.std.proofs.Common.{◌≡◌, ◌++◌, flat_map, take}
use Rattle.mh_texts.specs.Printed.{printed_type}
use Rattle.mh_texts.proofs.printed.push_types.Given as goal

abbrev pub invariant-loop-ty : goal.invariant-loop-ty
invariant-loop-ty l = l.bytes.items ≡ l.initial.bytes.items ++ flat_map (printed_type l.classes) (take l.ty-index l.types)
