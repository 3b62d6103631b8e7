use Rattle.std.proofs.Common.{◌≡◌, ◌++◌, take}
use Rattle.mh_pieces.proofs.texts.push_ascii.Given as goal

abbrev pub invariant-loop-byte : goal.invariant-loop-byte
invariant-loop-byte l = l.chars.items ≡ l.initial.chars.items ++ take l.byte-index l.text
