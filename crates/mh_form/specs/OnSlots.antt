-- What leaves give on the slots of their arguments, for leaves that need no values of these.
use Rattle.std.specs.Prelude.{ℕ, ℤ, pos, ◌+ℤ◌, ◌-ℤ◌, ◌*ℤ◌, int_lt, Bool, not, List, [], ◌∷◌, Option, Some, None, option_map, option_and_then, slice_get, if◌then◌else◌}
use Rattle.std.specs.Int.{w32, w64, int_wrap, cast_signed}
use Rattle.mh_values.specs.declared.value.Outcome.{Outcome}
use Rattle.mh_values.specs.declared.value.Outcome.TheVariants.{Return}
use Rattle.mh_values.specs.declared.value.Value.{Value}
use Rattle.mh_leaf.specs.declared.leaf.Kind.{Kind}
use Rattle.mh_leaf.specs.declared.leaf.Kind.TheVariants as kind
use Rattle.mh_leaf.specs.Outcome.{characters_of, is_same_int, joined, measured}
use Rattle.mh_form.specs.declared.slot.Slot.{Slot}
use Rattle.mh_form.specs.declared.slot.Slot.TheVariants as slot
use Rattle.mh_form.specs.Erasure.{erased}
use Rattle.mh_form.specs.Slots.{holds_one}

-- two ints, if two slots hold them
abbrev pub both_ints : Option Slot → Option Slot → Option (ℤ × ℤ)
both_ints (Some (slot.I a)) (Some (slot.I b)) = Some (a, b)
both_ints _ _ = None

-- two longs, if two slots hold them
abbrev pub both_longs : Option Slot → Option Slot → Option (ℤ × ℤ)
both_longs (Some (slot.J a)) (Some (slot.J b)) = Some (a, b)
both_longs _ _ = None

-- the ints in the slots at two places
abbrev pub ints_at : List Slot → List ℕ → Option (ℤ × ℤ)
ints_at slots (p ∷ q ∷ []) = both_ints (slice_get slots p) (slice_get slots q)
ints_at slots _ = None

-- the longs in the slots at two places
abbrev pub longs_at : List Slot → List ℕ → Option (ℤ × ℤ)
longs_at slots (p ∷ q ∷ []) = both_longs (slice_get slots p) (slice_get slots q)
longs_at slots _ = None

-- two references, if two slots hold them
abbrev pub both_references : Option Slot → Option Slot → Option (Value × Value)
both_references (Some (slot.L v)) (Some (slot.L w)) = Some (v, w)
both_references _ _ = None

-- the references in the slots at two places
abbrev pub references_at : List Slot → List ℕ → Option (Value × Value)
references_at slots (p ∷ q ∷ []) = both_references (slice_get slots p) (slice_get slots q)
references_at slots _ = None

-- the reference in a slot
abbrev pub reference : Slot → Option Value
reference (slot.L v) = Some v
reference s = None

-- the slot of the value that an outcome returns
abbrev pub returned_slot : Outcome → Option Slot
returned_slot (Return (Some v)) = Some (erased v)
returned_slot _ = None

-- a boolean as a slot: int 1 if it is true, else int 0
abbrev pub truth : Bool → Slot
truth b = slot.I (if b then pos 1 else pos 0)

-- the slot at the one place
abbrev pub only_at : List Slot → List ℕ → Option Slot
only_at slots (p ∷ []) = slice_get slots p
only_at slots _ = None

-- the slot at the first of two or more places
abbrev pub first_at : List Slot → List ℕ → Option Slot
first_at slots (p ∷ q ∷ ps) = slice_get slots p
first_at slots _ = None

-- the slot at the second of three places if the one at the first holds int 1, else the one at the third
abbrev pub picked_at : List Slot → List ℕ → Option Slot
picked_at slots (c ∷ p ∷ q ∷ []) = option_and_then (λ s. if holds_one s then slice_get slots p else slice_get slots q) (slice_get slots c)
picked_at slots _ = None

-- The slot that a leaf of a kind gives on the slots at these places, if n leaf calls were made before. Nothing is said of one that throws.
abbrev pub on_slots : Kind → List Slot → List ℕ → ℕ → Option Slot
on_slots kind.Iadd slots places n = option_map (λ p. slot.I (int_wrap w32 (p.0 +ℤ p.1))) (ints_at slots places)
on_slots kind.Isub slots places n = option_map (λ p. slot.I (int_wrap w32 (p.0 -ℤ p.1))) (ints_at slots places)
on_slots kind.Imul slots places n = option_map (λ p. slot.I (int_wrap w32 (p.0 *ℤ p.1))) (ints_at slots places)
on_slots kind.Ladd slots places n = option_map (λ p. slot.J (int_wrap w64 (p.0 +ℤ p.1))) (longs_at slots places)
on_slots kind.Ieq slots places n = option_map (λ p. truth (is_same_int p.0 p.1)) (ints_at slots places)
on_slots kind.Ilt slots places n = option_map (λ p. truth (int_lt p.0 p.1)) (ints_at slots places)
on_slots kind.Not slots places n = option_map (λ s. truth (not (holds_one s))) (only_at slots places)
on_slots kind.Concat slots places n = option_and_then (λ p. returned_slot (joined (characters_of p.0) (characters_of p.1))) (references_at slots places)
on_slots kind.Length slots places n = option_and_then (λ v. option_and_then returned_slot (measured v)) (option_and_then reference (only_at slots places))
on_slots kind.Same slots places n = only_at slots places
on_slots kind.First slots places n = first_at slots places
on_slots kind.Pick slots places n = picked_at slots places
on_slots kind.Tick slots places n = Some (slot.I (cast_signed w32 n))
on_slots kind.Note slots places n = Some (slot.I (pos 0))
on_slots k slots places n = None
