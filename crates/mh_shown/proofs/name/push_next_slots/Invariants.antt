use Rattle.std.proofs.Common.{◌≡◌, ◌++◌, flat_map, take}
use Rattle.mh_shown.specs.NameText.{next_slot_text}
use Rattle.mh_shown.proofs.name.push_next_slots.Given as goal

abbrev pub invariant-loop-slot : goal.invariant-loop-slot
invariant-loop-slot l = l.text.items ≡ l.initial.text.items ++ flat_map next_slot_text (take l.slot-index l.slots)
