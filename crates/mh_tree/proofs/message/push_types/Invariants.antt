use Rattle.std.proofs.Common.{◌≡◌, ◌++◌, take}
use Rattle.std.specs.Prelude.{flat_map}
use Rattle.mh_values.specs.TypeText.{type_text}
use Rattle.mh_tree.proofs.message.push_types.Given as goal

abbrev pub invariant-loop-ty : goal.invariant-loop-ty
invariant-loop-ty l = l.text ≡ l.initial.text ++ flat_map (type_text l.classes) (take l.ty-index l.types)
