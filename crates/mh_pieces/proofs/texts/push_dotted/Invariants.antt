use Rattle.std.proofs.Common.{◌≡◌, ◌++◌, map, take}
use Rattle.mh_pieces.specs.ValueText.{dotted_char}
use Rattle.mh_pieces.proofs.texts.push_dotted.Given as goal

abbrev pub invariant-loop-byte : goal.invariant-loop-byte
invariant-loop-byte l = l.chars.items ≡ l.initial.chars.items ++ map dotted_char (take l.byte-index l.name)
