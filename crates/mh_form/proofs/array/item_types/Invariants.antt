use Rattle.std.proofs.Common.{◌≡◌, take, map}
use Rattle.mh_values.specs.Array.{item_type}
use Rattle.mh_form.proofs.array.item_types.Given as goal

abbrev pub invariant-loop-slot : goal.invariant-loop-slot
invariant-loop-slot l = l.types ≡ map (λ s. item_type l.comp) (take l._slot-index l._slot-items)
