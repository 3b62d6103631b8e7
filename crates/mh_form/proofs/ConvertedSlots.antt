-- Conversions of slots that are typed.
use Rattle.std.proofs.Common.{◌≡◌, ◌≢◌, refl, ap, Bool, true, false, List, Some}
use Rattle.std.specs.Prelude.{if◌then◌else◌}
use Rattle.mh_values.specs.declared.class.Class.{Class}
use Rattle.mh_values.specs.declared.value.Value.{Value}
use Rattle.mh_values.specs.Computation.{Stuck, found}
use Rattle.mh_convert.specs.declared.conv.Conv.{Conv}
use Rattle.mh_convert.specs.declared.conv.Rules.{Rules}
use Rattle.mh_convert.specs.Conversion.{can, conv}
use Rattle.mh_form.specs.declared.slot.Slot.{Slot}
use Rattle.mh_form.specs.Erasure.{typed}
use Rattle.mh_form.specs.Slots.{converted, slot_or_throw}

-- a conversion that is not stuck is that of the value that the slot stands for
pub converted-typed :
    (by : Rules) (classes : List Class) (c : Conv) (s : Slot) (v : Value) →
    converted by classes c s ≢ Stuck →
    typed classes c.from s ≡ Some v →
    converted by classes c s ≡ slot_or_throw (conv by classes c.from c.to v)
converted-typed by classes c s v fine is = cases (can by classes c.from c.to) fine
  where
    cases : (b : Bool) → (if b then found (typed classes c.from s) (λ w. slot_or_throw (conv by classes c.from c.to w)) else Stuck) ≢ Stuck →
        (if b then found (typed classes c.from s) (λ w. slot_or_throw (conv by classes c.from c.to w)) else Stuck)
        ≡ slot_or_throw (conv by classes c.from c.to v)
    cases true h = ap (λ o. found o (λ w. slot_or_throw (conv by classes c.from c.to w))) is
    cases false h = absurd (h refl)
