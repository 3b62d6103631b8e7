use Rattle.std.proofs.Common.{◌≡◌, ◌++◌, take}
use Rattle.mh_drawing.specs.Dot.{quoted}
use Rattle.mh_drawing.proofs.label.push_quoted.Given as goal

abbrev pub invariant-loop-byte : goal.invariant-loop-byte
invariant-loop-byte l = l.text.items ≡ l.initial.text.items ++ quoted (take l.byte-index l.shown)
