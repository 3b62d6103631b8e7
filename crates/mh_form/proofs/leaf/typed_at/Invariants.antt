use Rattle.std.proofs.Common.{◌≡◌, drop}
use Rattle.mh_form.specs.Erasure.{typed_at}
use Rattle.mh_form.proofs.Typing.{typed_on}
use Rattle.mh_form.proofs.leaf.typed_at.Given as goal

-- the values so far, and the places that are left
abbrev pub invariant-loop-i : goal.invariant-loop-i
invariant-loop-i l = typed_at l.classes l.slots l.types l.places ≡ typed_on l.values.items (typed_at l.classes l.slots (drop l.i l.types) (drop l.i l.places))
