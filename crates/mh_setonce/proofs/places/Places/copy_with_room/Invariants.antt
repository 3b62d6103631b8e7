use Rattle.std.proofs.Common.{◌≡◌, ◌+◌, take}
use Rattle.mh_setonce.proofs.places.Places.copy_with_room.Given as goal

abbrev pub invariant-loop-hash : goal.invariant-loop-hash
invariant-loop-hash l = (l.copy.hashes ≡ take l.hash-index l.hash-items) × (l.copy.room + l.hash-index ≡ l.room)
