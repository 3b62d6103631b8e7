-- The items of an array that is spread, with types erased, and what runs on them.
use Rattle.std.proofs.Common.{◌≡◌, refl, sym, ap, ◌∙◌, ℕ, ◌<◌, ◌^◌, true, List, map, Option}
use Rattle.mh_values.specs.declared.class.Class.{Class}
use Rattle.mh_values.specs.declared.types.Comp.{Comp}
use Rattle.mh_values.specs.declared.types.Ty.{Ty}
use Rattle.mh_values.specs.declared.types.Ty.TheVariants as ty
use Rattle.mh_values.specs.declared.value.Value.{Value}
use Rattle.mh_values.specs.declared.value.Value.TheVariants as value
use Rattle.mh_values.specs.Array.{spread_values}
use Rattle.mh_values.specs.Computation.{Ran, Gave, Threw, Stuck, and_then, after, mapped, raised}
use Rattle.mh_values.specs.HasType.{has_type, HaveTypes}
use Rattle.mh_tree.specs.Meaning.{Done}
use Rattle.mh_tree.proofs.SoundSpread.{Spreads}
use Rattle.mh_form.specs.declared.slot.Slot.{Slot}
use Rattle.mh_form.specs.Erasure.{erased, erased_ran}
use Rattle.mh_form.specs.Slots.{spread_slots}
use Rattle.mh_handle.proofs.standing.Erasing.{erased-after, raised-low}

-- what an array of a type is spread to, erased
pub spread-erased : (classes : List Class) (c : Comp) (count : ℕ) (v : Value) → has_type classes v (ty.Array c) ≡ true →
    spread_slots count (erased v) ≡ mapped (map erased) (spread_values count v)
spread-erased classes c count (value.Array d items) typed = refl
spread-erased classes c count value.Null typed = refl
spread-erased classes c count v typed = absurd cc

-- what runs on the items that an array gives
pub items-then :
    (classes : List Class) (r : Ran (List Value)) (n : ℕ) (types : List Ty) (run : List Slot → ℕ → Ran (Option Slot)) (next : List Value → ℕ → Done) →
    Spreads classes r types →
    n < 2 ^ 32 →
    ((items : List Value) (k : ℕ) → HaveTypes classes items types → k < 2 ^ 32 → run (map erased items) k ≡ erased_ran (next items k)) →
    and_then (mapped (map erased) r) n run ≡ erased_ran (and_then r n next)
items-then classes (Gave items calls) n types run next typed low same =
    ap (after calls) (same items (raised n calls) typed (raised-low calls n low)) ∙ sym (erased-after calls (next items (raised n calls)))
items-then classes (Threw e calls) n types run next typed low same = refl
items-then classes Stuck n types run next typed low same = absurd typed
