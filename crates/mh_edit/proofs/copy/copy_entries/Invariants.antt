use Rattle.std.proofs.Common.{◌≡◌, take}
use Rattle.mh_edit.proofs.copy.copy_entries.Given as goal

abbrev pub invariant-loop-entry : goal.invariant-loop-entry
invariant-loop-entry l = l.copies ≡ take l.entry-index l.entry-items
