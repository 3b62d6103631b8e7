-- Equality of recipes, key by key.
use Rattle.std.specs.Prelude.{ℕ, Bool, List, [], ◌∷◌, ◌++◌, length, map}
use Rattle.std.specs.Cmp.Lexicographic.{pointwise}
use Rattle.std.specs.Str.{bytes_eq}
use Rattle.mh_form.specs.declared.basic.Basic.{Basic}
use Rattle.mh_form.specs.declared.basic.Shape.{Shape}
use Rattle.mh_edit.specs.declared.key.Key.{Key}
use Rattle.mh_edit.specs.declared.key.Key.TheVariants as key
use Rattle.mh_handle.specs.Hashes.{basic_number, entry_number, ret_number, ret_entry_number}

-- basic types as numbers
abbrev pub basic_numbers : List Basic → List ℕ
basic_numbers basics = map basic_number basics

-- a shape as numbers: its return type, and its parameters
abbrev pub shape_numbers : Shape → List ℕ
shape_numbers shape = ret_number shape.ret ∷ basic_numbers shape.params

-- a key as numbers: its kind, and all its operands
abbrev pub key_numbers : Key → List ℕ
key_numbers (key.LeafRoot shape) = 1 ∷ shape_numbers shape
key_numbers (key.ConstRoot b) = 2 ∷ basic_number b ∷ []
key_numbers (key.IdentityRoot b) = 3 ∷ basic_number b ∷ []
key_numbers (key.ThrowRoot ret) = 4 ∷ ret_number ret ∷ []
key_numbers (key.GuardRoot shape test) = 5 ∷ test ∷ shape_numbers shape
key_numbers (key.CatchRoot shape handler) = 6 ∷ handler ∷ shape_numbers shape
key_numbers (key.TryRoot shape cleanup) = 17 ∷ cleanup ∷ shape_numbers shape
key_numbers (key.SwitchRoot shape count) = 18 ∷ count ∷ shape_numbers shape
key_numbers (key.LoopRoot shape iterations init body) = 19 ∷ iterations ∷ init ∷ body ∷ shape_numbers shape
key_numbers (key.ConcatRoot shape) = 16 ∷ shape_numbers shape
key_numbers (key.Bind pos) = 7 ∷ pos ∷ []
key_numbers (key.Add pos basics) = 8 ∷ pos ∷ basic_numbers basics
key_numbers (key.Permute basics reorder) = 9 ∷ length basics ∷ (basic_numbers basics ++ reorder)
key_numbers (key.Collect pos basics ret) = 10 ∷ pos ∷ ret_number ret ∷ basic_numbers basics
key_numbers (key.Fold pos count ret) = 11 ∷ pos ∷ count ∷ ret_number ret ∷ []
key_numbers (key.FilterReturn ret) = 12 ∷ ret_number ret ∷ []
key_numbers (key.Convert params ret) = 13 ∷ ret_entry_number ret ∷ map entry_number params
key_numbers (key.Spread count b) = 14 ∷ count ∷ basic_number b ∷ []
key_numbers (key.Gather count b) = 15 ∷ count ∷ basic_number b ∷ []

-- two keys are equal if their numbers are
abbrev pub same_key : Key → Key → Bool
same_key a b = bytes_eq (key_numbers a) (key_numbers b)

-- two recipes are the same if they have the same keys in the same order
abbrev pub same_recipe : List Key → List Key → Bool
same_recipe a b = pointwise same_key a b
