use Rattle.std.proofs.Common.{◌≡◌, drop}
use Rattle.mh_form.specs.Erasure.{all_typed}
use Rattle.mh_form.proofs.Typing.{typed_on}
use Rattle.mh_form.proofs.erasure.all_typed.Given as goal

-- the values so far, and the slots that are left
abbrev pub invariant-loop-i : goal.invariant-loop-i
invariant-loop-i l = all_typed l.classes l.types l.fn.slots ≡ typed_on l.values (all_typed l.classes (drop l.i l.types) (drop l.i l.slots.items))
