-- Method descriptors and other texts of types, byte by byte: which byte continues one (JVMS SE 17, 4.3.2 and 4.3.3).
use Rattle.std.specs.Prelude.{ℕ, ◌+◌, ◌==◌, nat_le, Bool, true, false, ◌||◌, if◌then◌else◌, List, [], ◌∷◌, Option, None, Some}
use Rattle.std.specs.Option.{option_map_or}
use Rattle.mh_base.specs.Ascii.{capital_B, capital_C, capital_D, capital_F, capital_I, capital_J, capital_L, capital_S, capital_V, capital_Z, full_stop, left_bracket, left_parenthesis, right_parenthesis, semicolon}
use Rattle.mh_values.specs.declared.descriptor.Place.{Place}
use Rattle.mh_values.specs.declared.descriptor.Place.TheVariants as place
use Rattle.mh_values.specs.declared.descriptor.Standing.{Standing}
use Rattle.mh_values.specs.declared.descriptor.Standing.TheVariants as standing

-- a primitive type, by its letter: one of B C D F I J S Z
abbrev pub is_base : ℕ → Bool
is_base b = b == capital_B || b == capital_C || b == capital_D || b == capital_F || b == capital_I || b == capital_J || b == capital_S || b == capital_Z

-- after a whole type
abbrev pub after_type : Place → Standing
after_type (place.Parameter slots) = standing.Parameters slots
after_type place.Listed = standing.Types true
after_type place.Last = standing.End

-- a type that is no array begins with `L` or is one letter
abbrev pub element : Place → ℕ → Option Standing
element p b = if b == capital_L then Some (standing.Name p false) else (if is_base b then Some (after_type p) else None)

-- a type begins with `[` or with what is no array
abbrev pub begun : Place → ℕ → Option Standing
begun p b = if b == left_bracket then Some (standing.Dimensions p 1) else element p b

-- an array has at most 255 dimensions
abbrev pub within_array : Place → ℕ → ℕ → Option Standing
within_array p dimensions b =
    if b == left_bracket then (if nat_le (dimensions + 1) 255 then Some (standing.Dimensions p (dimensions + 1)) else None) else element p b

-- a name has one or more bytes other than `;`, `.` and `[`, and ends with `;`
abbrev pub within_name : Place → Bool → ℕ → Option Standing
within_name p has_bytes b =
    if b == semicolon then (if has_bytes then Some (after_type p) else None)
    else (if b == full_stop || b == left_bracket then None else Some (standing.Name p true))

-- the slots of a parameter, by its first byte: J and D take two
abbrev pub slots_from : ℕ → ℕ
slots_from b = if b == capital_J || b == capital_D then 2 else 1

-- a parameter begins, if the slots are at most 255 with it
abbrev pub parameter : ℕ → ℕ → Option Standing
parameter slots b = if nat_le (slots + slots_from b) 255 then begun (place.Parameter (slots + slots_from b)) b else None

-- after one more byte, if the text may go on with it
abbrev pub next : Standing → ℕ → Option Standing
next standing.Front b = if b == left_parenthesis then Some (standing.Parameters 0) else None
next (standing.Parameters slots) b = if b == right_parenthesis then Some standing.Close else parameter slots b
next standing.Close b = if b == capital_V then Some standing.End else begun place.Last b
next standing.Alone b = begun place.Last b
next (standing.Types some) b = begun place.Listed b
next (standing.Dimensions p dimensions) b = within_array p dimensions b
next (standing.Name p has_bytes) b = within_name p has_bytes b
next standing.End b = None

-- whether a text may end here
abbrev pub is_end : Standing → Bool
is_end standing.End = true
is_end (standing.Types some) = some
is_end _ = false

-- the first place, counted from a number, with a byte that no whole text has there; or the end of a text that ends early
abbrev pub first_bad : ℕ → Standing → List ℕ → Option ℕ
first_bad at s [] = if is_end s then None else Some at
first_bad at s (b ∷ bs) = option_map_or (λ n. first_bad (at + 1) n bs) (next s b) (Some at)

-- the first byte that continues no method descriptor, or the length of a text that ends early; nothing for a method descriptor
abbrev pub descriptor_fault : List ℕ → Option ℕ
descriptor_fault text = first_bad 0 standing.Front text

-- the same for one type alone
abbrev pub type_fault : List ℕ → Option ℕ
type_fault text = first_bad 0 standing.Alone text

-- the same for one or more types, written one after the other
abbrev pub types_fault : List ℕ → Option ℕ
types_fault text = first_bad 0 (standing.Types false) text
