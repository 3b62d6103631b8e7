-- What is done on slots: conversions, arrays and exceptions.
use Rattle.std.specs.Prelude.{ℕ, ◌+◌, pos, codes, nat_lt, Bool, false, List, [], ◌∷◌, Option, None, Some, Result, Ok, Err, map, slice_get, if◌then◌else◌}
use Rattle.mh_values.specs.declared.class.Class.{Class}
use Rattle.mh_values.specs.declared.types.Comp.{Comp}
use Rattle.mh_values.specs.declared.value.Exc.{Exc}
use Rattle.mh_values.specs.declared.value.LeafId.{LeafId}
use Rattle.mh_values.specs.declared.value.Value.{Value}
use Rattle.mh_values.specs.declared.value.Value.TheVariants as value
use Rattle.mh_values.specs.Array.{array_of, item_type, spread_values, values_of_array}
use Rattle.mh_values.specs.Class.{null_pointer_class, class_cast_class, internal_error_class}
use Rattle.mh_values.specs.Computation.{Ran, Gave, Threw, Stuck, found, mapped}
use Rattle.mh_leaf.specs.Ending.{bounded, picked_by}
use Rattle.mh_values.specs.Exception.{bare, saying}
use Rattle.mh_values.specs.Primitives.{is_one}
use Rattle.mh_convert.specs.declared.conv.Conv.{Conv}
use Rattle.mh_convert.specs.declared.conv.RetConv.{RetConv}
use Rattle.mh_convert.specs.declared.conv.RetConv.TheVariants as ret
use Rattle.mh_convert.specs.declared.conv.Rules.{Rules}
use Rattle.mh_convert.specs.Conversion.{can, conv, default_of}
use Rattle.mh_leaf.specs.LeafTable.{LeafTable}
use Rattle.mh_leaf.specs.Outcome.{leaf_mean, ran_of}
use Rattle.mh_pieces.specs.declared.piece.Piece.{Piece}
use Rattle.mh_pieces.specs.Joined.{arg_types, joined}
use Rattle.mh_form.specs.declared.basic.Basic.{Basic}
use Rattle.mh_form.specs.declared.basic.Basic.TheVariants as basic
use Rattle.mh_form.specs.declared.basic.BasicRet.{BasicRet}
use Rattle.mh_form.specs.declared.basic.BasicRet.TheVariants as basic_ret
use Rattle.mh_form.specs.declared.slot.Slot.{Slot}
use Rattle.mh_form.specs.declared.slot.Slot.TheVariants as slot
use Rattle.mh_form.specs.Erasure.{erased, erased_ran, typed, all_typed, typed_at}

-- what stands for the result of a part: nothing if the part is void
abbrev pub given : {A : Type 0} → BasicRet → A → List A
given basic_ret.V a = []
given (basic_ret.Is b) a = a ∷ []

-- the slot of the default of a basic type: null or zero
abbrev pub default_slot : Basic → Slot
default_slot basic.L = slot.L value.Null
default_slot basic.I = slot.I (pos 0)
default_slot basic.J = slot.J (pos 0)

-- the slot of the default of a basic return type: none if it is void
abbrev pub default_slots : BasicRet → List Slot
default_slots basic_ret.V = []
default_slots (basic_ret.Is b) = default_slot b ∷ []

-- goes on with the turns of a loop, if the slot holds an int that is at most the greatest number of turns
abbrev pub bounded_slot : {B : Type 0} → Slot → (ℕ → Ran B) → Ran B
bounded_slot (slot.I z) next = bounded z next
bounded_slot s next = Stuck

-- the turns that were found, or the exception of a loop that has too many
abbrev pub told_turns : Option ℕ → Ran ℕ
told_turns (Some turns) = Gave turns []
told_turns None = Threw (saying internal_error_class (codes "loop")) []

-- the field of the case that the int in a slot picks: the fallback is in the first field, and this many cases follow
abbrev pub case_field : ℕ → ℕ → Slot → Option ℕ
case_field first count (slot.I z) = Some (picked_by z (λ k. if nat_lt k count then first + (k + 1) else first) first)
case_field first count s = None

-- the slot holds int 1, which is the result of a test that is true
abbrev pub holds_one : Slot → Bool
holds_one (slot.I n) = is_one n
holds_one s = false

-- what a name that gives nothing puts into its slot: int 0
abbrev pub none_as_zero : Option Slot → Slot
none_as_zero None = slot.I (pos 0)
none_as_zero (Some s) = s

-- a run that fills a slot even if it gives nothing
abbrev pub filled : Ran (Option Slot) → Ran Slot
filled r = mapped none_as_zero r

-- a leaf of the table on slots that are the erasures of values of its types
abbrev pub called : LeafTable → LeafId → List Slot → ℕ → Ran (Option Slot)
called table l slots n =
    found (slice_get table.leaves l.0) (λ leaf.
    found (all_typed table.classes leaf.ty.params slots) (λ args. erased_ran (leaf_mean table l args n)))

-- the same on the slots at these places
abbrev pub called_at : LeafTable → LeafId → List Slot → List ℕ → ℕ → Ran (Option Slot)
called_at table l slots places n =
    found (slice_get table.leaves l.0) (λ leaf.
    found (typed_at table.classes slots leaf.ty.params places) (λ args. erased_ran (leaf_mean table l args n)))

-- a value or an exception, without leaf calls
abbrev pub slot_or_throw : Result Value Exc → Ran Slot
slot_or_throw (Ok v) = Gave (erased v) []
slot_or_throw (Err e) = Threw e []

-- a conversion, allowed by the rules, of a slot that is the erasure of a value of the type that it converts from
abbrev pub converted : Rules → List Class → Conv → Slot → Ran Slot
converted by classes c s =
    if can by classes c.from c.to then found (typed classes c.from s) (λ v. slot_or_throw (conv by classes c.from c.to v)) else Stuck

-- a return conversion of a result by the rules
abbrev pub ret_converted : Rules → List Class → RetConv → Option Slot → Ran (Option Slot)
ret_converted by classes ret.Keep r = Gave r []
ret_converted by classes ret.Discard r = Gave None []
ret_converted by classes (ret.Default t) r = Gave (Some (erased (default_of t))) []
ret_converted by classes (ret.Value c) (Some s) = mapped Some (converted by classes c s)
ret_converted by classes (ret.Value c) None = Stuck

-- the array of these slots, each the erasure of an item
abbrev pub made_array : List Class → Comp → List Slot → Ran Slot
made_array classes c slots =
    found (all_typed classes (map (λ s. item_type c) slots) slots) (λ vs. slot_or_throw (array_of c vs))

-- the text that pieces join to, on slots that are the erasures of arguments of the types that the pieces take
abbrev pub joined_slots : List Class → List Piece → List Slot → Ran Slot
joined_slots classes pieces slots =
    found (all_typed classes (arg_types pieces) slots) (λ args. filled (erased_ran (ran_of (joined classes pieces args) [])))

-- the same on the slots at these places
abbrev pub joined_at : List Class → List Piece → List Slot → List ℕ → Ran Slot
joined_at classes pieces slots places =
    found (typed_at classes slots (arg_types pieces) places) (λ args. filled (erased_ran (ran_of (joined classes pieces args) [])))

-- the items, erased, of an array in a slot that must have this many
abbrev pub spread_slots : ℕ → Slot → Ran (List Slot)
spread_slots n (slot.L v) = mapped (map erased) (spread_values n v)
spread_slots n s = Stuck

-- a check that gives nothing, or throws
abbrev pub checked_array : ℕ → Slot → Ran (Option Slot)
checked_array n s = mapped (λ items. None) (spread_slots n s)

-- the item at a place of the array in a slot, erased
abbrev pub item_in : Slot → ℕ → Option Slot
item_in (slot.L v) k = slice_get (map erased (values_of_array v)) k
item_in s k = None

-- throwing the exception in a slot
abbrev pub raised_slot : {B : Type 0} → Slot → Ran B
raised_slot (slot.L (value.Thrown e)) = Threw e []
raised_slot (slot.L value.Null) = Threw (bare null_pointer_class) []
raised_slot (slot.L v) = Threw (bare class_cast_class) []
raised_slot s = Stuck
