-- A row of entries is spelled as the pool reads it, and stands in it index by index.
use Rattle.std.proofs.Common.{◌≡◌, ℕ, zero, suc, ◌+◌, ◌≤◌, ◌<◌, Bool, true, false, ◌&&◌, cond, eqb, leb, List, [], ◌∷◌, ◌++◌, length, Some, None, refl, sym, ap, subst, ◌∙◌, append_assoc, length-append, arith}
use Rattle.std.proofs.lemmas.Bool.Decides.{nat_tests}
use Rattle.std.proofs.lemmas.List.{append-nil}
use Rattle.std.specs.List.{AllByRecursion, flat_map}
use Rattle.mh_class_bytes.specs.Format.{Spells, done, here, ◌>>=◌, repeated}
use Rattle.mh_class_pool.specs.declared.entry.Entry.{Entry}
use Rattle.mh_class_pool.specs.Entries.{ClassPart, Slot, entry, is_wide, is_full, indexes_of, next_slots}
use Rattle.mh_made_class.specs.Constants.{entry_bytes}
use Rattle.mh_made_class.proofs.Spelling.{otherwise, where_true}
use Rattle.mh_made_class.proofs.EntrySpelling.{IsWritableEntry, entry_spelled}

-- how many indexes an entry takes
abbrev pub entry_width : Entry → ℕ
entry_width e = cond (is_wide e) 2 1

-- how many indexes entries take
abbrev pub entries_width : List Entry → ℕ
entries_width [] = 0
entries_width (e ∷ es) = entry_width e + entries_width es

-- entries, by index, whose bytes stand from a place on
abbrev pub slots_from : ℕ → List Entry → List Slot
slots_from at [] = []
slots_from at (e ∷ es) = indexes_of at e ++ slots_from (at + length (entry_bytes e)) es

pub width_pos : (e : Entry) → 0 < entry_width e
width_pos e = go (is_wide e)
  where
    go : (b : Bool) → 0 < cond b 2 1
    go true = omega arith
    go false = omega arith

pub indexes_len : (at : ℕ) (e : Entry) → length (indexes_of at e) ≡ entry_width e
indexes_len at e = go (is_wide e)
  where
    s : Slot
    s = Some (at, e)

    go : (b : Bool) → length (cond b (s ∷ None ∷ []) (s ∷ [])) ≡ cond b 2 1
    go true = refl
    go false = refl

not_last : (count n : ℕ) (e : Entry) → n + entry_width e ≤ count → (eqb (n + 1) count && is_wide e) ≡ false
not_last count n e le = go (is_wide e) le
  where
    go : (b : Bool) → n + cond b 2 1 ≤ count → (eqb (n + 1) count && b) ≡ false
    go true h = let k : eqb (n + 1) count ≡ false = grind (arith, nat_tests) in rw k refl
    go false h = and_false (eqb (n + 1) count)
      where
        and_false : (c : Bool) → (c && false) ≡ false
        and_false true = refl
        and_false false = refl

-- the next entry, where an index is left for it
abbrev one_more : ℕ → List Slot → ClassPart (List Slot)
one_more count so_far = do
  place ← here
  x ← entry (eqb (length so_far + 1) count) (is_full so_far)
  done (so_far ++ indexes_of place x)

next_spelled : (count : ℕ) (so_far : List Slot) (at : ℕ) (e : Entry) → IsWritableEntry e → length so_far + entry_width e ≤ count →
    Spells (next_slots count so_far) at (entry_bytes e) (so_far ++ indexes_of at e)
next_spelled count so_far at e w le =
    let left : leb count (length so_far) ≡ false = grind (arith, nat_tests, width_pos e) in
    otherwise (leb count (length so_far)) (done so_far) (one_more count so_far) at (entry_bytes e) (so_far ++ indexes_of at e) left (
      at,
      [],
      entry_bytes e,
      refl,
      (refl, refl),
      (
        e,
        entry_bytes e,
        [],
        sym (append-nil (entry_bytes e)),
        entry_spelled (eqb (length so_far + 1) count) (is_full so_far) (at + 0)
            e w (not_last count (length so_far) e le),
        (refl, refl),
      ),
    )

full_spelled : (count most : ℕ) (so_far : List Slot) (at : ℕ) → count ≤ length so_far → Spells (repeated (next_slots count) most so_far) at [] so_far
unfolding repeated
full_spelled count zero so_far at le = (refl, refl)
full_spelled count (suc most) so_far at le =
    let full : leb count (length so_far) ≡ true = grind (arith, nat_tests) in (
      so_far,
      [],
      [],
      refl,
      where_true (leb count (length so_far)) (done so_far) (one_more count so_far) at [] so_far full (refl, refl),
      full_spelled count most
          so_far (at + 0) le,
    )

-- Entries that take all the indexes that are left are spelled, one after the other.
pub entries_spelled : (es : List Entry) (count most : ℕ) (so_far : List Slot) (at : ℕ) → length so_far + entries_width es ≡ count → length es ≤ most →
    AllByRecursion IsWritableEntry es
    → Spells (repeated (next_slots count) most so_far) at (flat_map entry_bytes es) (so_far ++ slots_from at es)
unfolding repeated
entries_spelled [] count most so_far at all enough w =
    subst (λ (x : List Slot). Spells (repeated (next_slots count) most so_far) at [] x) (sym (append-nil so_far))
    (full_spelled count most so_far at (omega (arith, all)))
entries_spelled (e ∷ es) count zero so_far at all enough w = absurd (omega arith)
entries_spelled (e ∷ es) count (suc most) so_far at all enough w =
    let next = so_far ++ indexes_of at e in
    let place = at + length (entry_bytes e) in
    let len : length next ≡ length so_far + entry_width e = length-append so_far (indexes_of at e) ∙ ap (λ n. length so_far + n) (indexes_len at e) in
    let rest = entries_spelled es count most next place (omega (arith, all, len)) (omega (arith, enough)) w.1 in (
      next,
      entry_bytes e,
      flat_map entry_bytes es,
      refl,
      next_spelled count so_far at e w.0 (omega (arith, all)),
      subst (λ (x : List Slot). Spells (repeated (next_slots count) most next) place (flat_map entry_bytes es) x)
          (append_assoc so_far (indexes_of at e) (slots_from place es)) rest,
    )

pub few_entries : (es : List Entry) → length es ≤ entries_width es
few_entries [] = omega arith
few_entries (e ∷ es) = omega (arith, width_pos e, few_entries es)

pub width-append : (es fs : List Entry) → entries_width (es ++ fs) ≡ entries_width es + entries_width fs
width-append [] fs = omega arith
width-append (e ∷ es) fs = omega (arith, width-append es fs)
