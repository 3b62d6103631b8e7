use Rattle.std.proofs.Common.{◌≡◌, ◌++◌, flat_map, take}
use Rattle.mh_shown.specs.KeyText.{entry_text}
use Rattle.mh_shown.proofs.key.push_entry_letters.Given as goal

abbrev pub invariant-loop-entry : goal.invariant-loop-entry
invariant-loop-entry l = l.text.items ≡ l.initial.text.items ++ flat_map entry_text (take l.entry-index l.entries)
