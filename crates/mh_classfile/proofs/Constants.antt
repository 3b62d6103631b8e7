-- The constants of a class by index.
use Rattle.std.proofs.Common.{◌≡◌, ℕ, ◌+◌, ◌≤◌, inl, inr, List, length, get_or, map, Option, Some, None, sym, ap, ◌∙◌, arith}
use Rattle.std.proofs.lemmas.Bool.{cases_lt}
use Rattle.std.proofs.lemmas.List.{get_or_past}
use Rattle.std.proofs.lemmas.List.FromFn.{get_or-map-range_with_len, length-map-range_with_len}
use Rattle.std.specs.List.{range_with_len}
use Rattle.mh_class_pool.specs.Entries.{Slot}
use Rattle.mh_classfile.specs.Class.{constant_of, constant_at}
use Rattle.mh_classfile.specs.declared.constant.Constant.{Constant}

-- the constant at an index is that of the list, which has none past the pool
pub at_index : (pool : List Slot) (i : ℕ) → constant_at pool i ≡ get_or (map (constant_at pool) (range_with_len 0 (length pool))) i None
at_index pool i = elim (cases_lt i (length pool)) [
  | inl below ↦ sym (get_or-map-range_with_len (constant_at pool) 0 (length pool) i i None below (omega arith))
  | inr past ↦
      let none : get_or pool i None ≡ None = get_or_past pool i None past in
      ap (λ (s : Slot). constant_of pool i s) none
      ∙ sym (get_or_past (map (constant_at pool) (range_with_len 0 (length pool))) i None
      (omega (arith, past, length-map-range_with_len (constant_at pool) 0 (length pool))))
]
