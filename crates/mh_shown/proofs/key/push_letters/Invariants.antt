use Rattle.std.proofs.Common.{◌≡◌, ◌++◌, flat_map, take}
use Rattle.mh_shown.specs.KeyText.{basic_text}
use Rattle.mh_shown.proofs.key.push_letters.Given as goal

abbrev pub invariant-loop-basic : goal.invariant-loop-basic
invariant-loop-basic l = l.text.items ≡ l.initial.text.items ++ flat_map basic_text (take l.basic-index l.basics)
