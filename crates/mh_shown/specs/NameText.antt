-- The names of forms as texts, such as `Get f0` and `Call f1 (s0, s2)`: fields are `f0`, `f1` and so on, slots `s0`, `s1` and so on.
use Rattle.std.specs.Prelude.{ℕ, List, [], ◌∷◌, ◌++◌, codes, flat_map, Option, None, Some}
use Rattle.std.specs.Fmt.{decimal}
use Rattle.mh_form.specs.declared.name.Name.{Name}
use Rattle.mh_form.specs.declared.name.Name.TheVariants as name
use Rattle.mh_shown.specs.KeyText.{ret_text}

-- a field
abbrev pub field_text : ℕ → List ℕ
field_text field = codes "f" ++ decimal field

-- a slot
abbrev pub slot_text : ℕ → List ℕ
slot_text slot = codes "s" ++ decimal slot

-- a slot after another one
abbrev pub next_slot_text : ℕ → List ℕ
next_slot_text slot = codes ", " ++ slot_text slot

-- slots with a comma between them
abbrev pub listed_slots : List ℕ → List ℕ
listed_slots [] = []
listed_slots (slot ∷ slots) = slot_text slot ++ flat_map next_slot_text slots

-- slots in parentheses, which stand after a space
abbrev pub slots_text : List ℕ → List ℕ
slots_text slots = codes " (" ++ listed_slots slots ++ codes ")"

-- a result: a slot, or nothing
abbrev pub out_text : Option ℕ → List ℕ
out_text None = codes "nothing"
out_text (Some slot) = slot_text slot

-- a word and a field
abbrev pub of_field : List ℕ → ℕ → List ℕ
of_field word field = word ++ codes " " ++ field_text field

-- a word, a field and what follows them
abbrev pub on_slots : List ℕ → ℕ → List ℕ → List ℕ
on_slots word field slots = of_field word field ++ slots_text slots

-- a word, a field and a slot
abbrev pub on_slot : List ℕ → ℕ → ℕ → List ℕ
on_slot word field slot = of_field word field ++ codes " " ++ slot_text slot

-- a word, a slot and a number
abbrev pub with_number : List ℕ → ℕ → List ℕ → ℕ → List ℕ
with_number word slot between number = word ++ codes " " ++ slot_text slot ++ between ++ decimal number

-- a name: its word and what it takes
abbrev pub name_text : Name → List ℕ
name_text (name.Get field) = of_field (codes "Get") field
name_text (name.Call field slots) = on_slots (codes "Call") field slots
name_text (name.Link field slots) = on_slots (codes "Link") field slots
name_text (name.Select test field other slots) =
    codes "Select " ++ slot_text test ++ codes " ? " ++ field_text field ++ codes " : " ++ field_text other ++ slots_text slots
name_text (name.Guarded field class handler slots kept) =
    on_slots (codes "Guarded") field slots ++ codes " or " ++ field_text class ++ codes " to " ++ field_text handler ++ codes " keeps " ++ decimal kept
name_text (name.Finally part cleanup slots kept result) =
    on_slots (codes "Finally") part slots ++ codes " then " ++ field_text cleanup ++ codes " keeps " ++ decimal kept ++ codes " to " ++ ret_text result
name_text (name.Switch slot first count slots) =
    codes "Switch " ++ slot_text slot ++ codes " ? " ++ field_text first ++ codes " and " ++ decimal count ++ codes " cases" ++ slots_text slots
name_text (name.Loop first slots counts result) =
    on_slots (codes "Loop") first slots ++ codes " takes " ++ decimal counts.iterations ++ codes ", " ++ decimal counts.init ++ codes ", "
    ++ decimal counts.body ++ codes " to " ++ ret_text result
name_text (name.Conv field slot) = on_slot (codes "Conv") field slot
name_text (name.Cast field slot) = on_slot (codes "Cast") field slot
name_text (name.Ret field slot) = of_field (codes "Ret") field ++ codes " " ++ out_text slot
name_text (name.MakeArray field slots) = on_slots (codes "MakeArray") field slots
name_text (name.CheckArray slot count) = with_number (codes "CheckArray") slot (codes " has ") count
name_text (name.Elem slot item) = with_number (codes "Elem") slot (codes " at ") item
name_text (name.Join field slots) = on_slots (codes "Join") field slots
name_text (name.Raise slot) = codes "Raise " ++ slot_text slot
