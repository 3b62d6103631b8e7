-- The hash of a recipe. Different recipes mostly have different hashes.
use Rattle.std.specs.Prelude.{ℕ, ◌+◌, ◌*◌, ◌%◌, List, [], ◌∷◌, Option, Some, None}
use Rattle.mh_form.specs.declared.basic.Basic.{Basic}
use Rattle.mh_form.specs.declared.basic.Basic.TheVariants as basic
use Rattle.mh_form.specs.declared.basic.BasicRet.{BasicRet}
use Rattle.mh_form.specs.declared.basic.BasicRet.TheVariants as basic_ret
use Rattle.mh_form.specs.declared.basic.Shape.{Shape}
use Rattle.mh_edit.specs.declared.key.Key.{Key}
use Rattle.mh_edit.specs.declared.key.Key.TheVariants as key
use Rattle.mh_edit.specs.declared.key.RetEntry.{RetEntry}
use Rattle.mh_edit.specs.declared.key.RetEntry.TheVariants as entry

-- hashes are below this prime number
abbrev pub hash_limit : ℕ
hash_limit = 16777213

-- a hash with one more part
abbrev pub mixed : ℕ → ℕ → ℕ
mixed hash part = (31 * hash + part) % hash_limit

-- a hash with the parts of a list
abbrev pub all_mixed : {A : Type 0} → (A → ℕ) → ℕ → List A → ℕ
all_mixed part hash [] = hash
all_mixed part hash (x ∷ xs) = all_mixed part (mixed hash (part x)) xs

-- the part of a basic type
abbrev pub basic_number : Basic → ℕ
basic_number basic.L = 1
basic_number basic.I = 2
basic_number basic.J = 3

-- the part of an entry of a conversion
abbrev pub entry_number : Option Basic → ℕ
entry_number None = 0
entry_number (Some b) = basic_number b

-- the part of a basic return type
abbrev pub ret_number : BasicRet → ℕ
ret_number basic_ret.V = 0
ret_number (basic_ret.Is b) = basic_number b

-- the part of the entry of a result
abbrev pub ret_entry_number : RetEntry → ℕ
ret_entry_number entry.Keep = 4
ret_entry_number (entry.New ret) = ret_number ret

-- a hash with the parts of a shape
abbrev pub shape_mixed : ℕ → Shape → ℕ
shape_mixed hash shape = all_mixed basic_number (mixed hash (ret_number shape.ret)) shape.params

-- the part of a key: its kind and its operands
abbrev pub key_hash : Key → ℕ
key_hash (key.LeafRoot shape) = shape_mixed 1 shape
key_hash (key.ConstRoot b) = mixed 2 (basic_number b)
key_hash (key.IdentityRoot b) = mixed 3 (basic_number b)
key_hash (key.ThrowRoot ret) = mixed 4 (ret_number ret)
key_hash (key.GuardRoot shape test) = shape_mixed (mixed 5 test) shape
key_hash (key.CatchRoot shape handler) = shape_mixed (mixed 6 handler) shape
key_hash (key.TryRoot shape cleanup) = shape_mixed (mixed 17 cleanup) shape
key_hash (key.SwitchRoot shape count) = shape_mixed (mixed 18 count) shape
key_hash (key.LoopRoot shape iterations init body) = shape_mixed (mixed (mixed (mixed 19 iterations) init) body) shape
key_hash (key.ConcatRoot shape) = shape_mixed 16 shape
key_hash (key.Bind pos) = mixed 7 pos
key_hash (key.Add pos basics) = all_mixed basic_number (mixed 8 pos) basics
key_hash (key.Permute basics reorder) = all_mixed (λ p. p) (all_mixed basic_number 9 basics) reorder
key_hash (key.Collect pos basics ret) = all_mixed basic_number (mixed (mixed 10 pos) (ret_number ret)) basics
key_hash (key.Fold pos count ret) = mixed (mixed (mixed 11 pos) count) (ret_number ret)
key_hash (key.FilterReturn ret) = mixed 12 (ret_number ret)
key_hash (key.Convert params ret) = all_mixed entry_number (mixed 13 (ret_entry_number ret)) params
key_hash (key.Spread count b) = mixed (mixed 14 count) (basic_number b)
key_hash (key.Gather count b) = mixed (mixed 15 count) (basic_number b)

-- the hash of a recipe
abbrev pub hash_of : List Key → ℕ
hash_of keys = all_mixed key_hash 0 keys
