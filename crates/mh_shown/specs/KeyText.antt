-- Keys as texts: a word for the kind, and what the key has, as in `Add at 0 of (I)`.
use Rattle.std.specs.Prelude.{ℕ, ◌<◌, ◌^◌, List, ◌++◌, codes, flat_map, Option, None, Some}
use Rattle.std.specs.Fmt.{decimal}
use Rattle.std.specs.List.{AllByRecursion}
use Rattle.mh_form.specs.declared.basic.Basic.{Basic}
use Rattle.mh_form.specs.declared.basic.Basic.TheVariants.{L, I, J}
use Rattle.mh_form.specs.declared.basic.BasicRet.{BasicRet}
use Rattle.mh_form.specs.declared.basic.BasicRet.TheVariants.{V, Is}
use Rattle.mh_form.specs.declared.basic.Shape.{Shape}
use Rattle.mh_edit.specs.declared.key.Key.{Key}
use Rattle.mh_edit.specs.declared.key.Key.TheVariants as key
use Rattle.mh_edit.specs.declared.key.RetEntry.{RetEntry}
use Rattle.mh_edit.specs.declared.key.RetEntry.TheVariants.{Keep, New}

-- ---- types

-- the letter of a basic type: of a reference, of 32 bits, of 64 bits
abbrev pub basic_text : Basic → List ℕ
basic_text L = codes "L"
basic_text I = codes "I"
basic_text J = codes "J"

-- the letter of a result, `V` if there is none
abbrev pub ret_text : BasicRet → List ℕ
ret_text V = codes "V"
ret_text (Is basic) = basic_text basic

-- parameters: their letters in parentheses
abbrev pub basics_text : List Basic → List ℕ
basics_text basics = codes "(" ++ flat_map basic_text basics ++ codes ")"

-- an erased method type, as a descriptor
abbrev pub shape_text : Shape → List ℕ
shape_text shape = basics_text shape.params ++ ret_text shape.ret

-- the new letter of a parameter, or `-` if it stays as it is
abbrev pub entry_text : Option Basic → List ℕ
entry_text None = codes "-"
entry_text (Some basic) = basic_text basic

-- the same of parameters, in parentheses
abbrev pub entries_text : List (Option Basic) → List ℕ
entries_text entries = codes "(" ++ flat_map entry_text entries ++ codes ")"

-- the new letter of a result, or `-` if it stays as it is
abbrev pub ret_entry_text : RetEntry → List ℕ
ret_entry_text Keep = codes "-"
ret_entry_text (New ret) = ret_text ret

-- ---- keys

-- a place after a space
abbrev pub place_text : ℕ → List ℕ
place_text place = codes " " ++ decimal place

-- places, each after a space
abbrev pub places_text : List ℕ → List ℕ
places_text places = flat_map place_text places

-- how many arguments the last two parts of a loop take, each after a comma
abbrev pub others_text : ℕ → ℕ → List ℕ
others_text init body = codes ", " ++ decimal init ++ codes ", " ++ decimal body

-- A key: the word of its kind and what it has. A conversion has the new types. A permutation has the new parameters, and the place of each old one.
abbrev pub key_text : Key → List ℕ
key_text (key.LeafRoot shape) = codes "LeafRoot of " ++ shape_text shape
key_text (key.ConstRoot basic) = codes "ConstRoot of " ++ basic_text basic
key_text (key.IdentityRoot basic) = codes "IdentityRoot of " ++ basic_text basic
key_text (key.ThrowRoot ret) = codes "ThrowRoot to " ++ ret_text ret
key_text (key.GuardRoot shape test) = codes "GuardRoot of " ++ shape_text shape ++ codes ", test takes " ++ decimal test
key_text (key.CatchRoot shape handler) = codes "CatchRoot of " ++ shape_text shape ++ codes ", handler takes " ++ decimal handler
key_text (key.TryRoot shape cleanup) = codes "TryRoot of " ++ shape_text shape ++ codes ", cleanup takes " ++ decimal cleanup
key_text (key.SwitchRoot shape count) = codes "SwitchRoot of " ++ shape_text shape ++ codes ", cases " ++ decimal count
key_text (key.LoopRoot shape iterations init body) =
    codes "LoopRoot of " ++ shape_text shape ++ codes ", parts take " ++ decimal iterations ++ others_text init body
key_text (key.ConcatRoot shape) = codes "ConcatRoot of " ++ shape_text shape
key_text (key.Bind place) = codes "Bind at " ++ decimal place
key_text (key.Add place basics) = codes "Add at " ++ decimal place ++ codes " of " ++ basics_text basics
key_text (key.Permute basics reorder) = codes "Permute to " ++ basics_text basics ++ codes " from" ++ places_text reorder
key_text (key.Collect place basics ret) = codes "Collect at " ++ decimal place ++ codes " of " ++ basics_text basics ++ ret_text ret
key_text (key.Fold place count ret) = codes "Fold at " ++ decimal place ++ codes " of " ++ decimal count ++ codes " to " ++ ret_text ret
key_text (key.FilterReturn ret) = codes "FilterReturn to " ++ ret_text ret
key_text (key.Convert params ret) = codes "Convert of " ++ entries_text params ++ ret_entry_text ret
key_text (key.Spread count basic) = codes "Spread to " ++ decimal count ++ codes " of " ++ basic_text basic
key_text (key.Gather count basic) = codes "Gather of " ++ decimal count ++ codes " of " ++ basic_text basic

-- ---- that two keys have two texts

-- a number that 8 bits hold
abbrev pub IsByte : ℕ → Type 0
IsByte n = n < 2 ^ 8

-- the numbers of a key are of 8 bits, as those of every key of the program are
abbrev pub HasBytes : Key → Type 0
HasBytes (key.GuardRoot shape test) = IsByte test
HasBytes (key.CatchRoot shape handler) = IsByte handler
HasBytes (key.TryRoot shape cleanup) = IsByte cleanup
HasBytes (key.SwitchRoot shape count) = IsByte count
HasBytes (key.LoopRoot shape iterations init body) = IsByte iterations × IsByte init × IsByte body
HasBytes (key.Bind place) = IsByte place
HasBytes (key.Add place basics) = IsByte place
HasBytes (key.Permute basics reorder) = AllByRecursion IsByte reorder
HasBytes (key.Collect place basics ret) = IsByte place
HasBytes (key.Fold place count ret) = IsByte place × IsByte count
HasBytes (key.Spread count basic) = IsByte count
HasBytes (key.Gather count basic) = IsByte count
HasBytes _ = Unit {0}
