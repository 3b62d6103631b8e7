-- What stands at the indexes of a pool.
use Rattle.std.proofs.Common.{◌≡◌, ℕ, ◌+◌, Bool, true, false, cond, List, [], ◌∷◌, ◌++◌, length, Some, None, Ok, refl, sym, ap, subst, ◌∙◌, append_assoc, length-append, arith}
use Rattle.std.proofs.Math.Seq.{get_or-append_seam}
use Rattle.std.specs.List.{AllByRecursion}
use Rattle.mh_class_pool.specs.declared.entry.Entry.{Entry}
use Rattle.mh_class_pool.specs.Entries.{Slot, is_wide, indexes_of, slot}
use Rattle.mh_class_pool.specs.References.{Verdict, each}
use Rattle.mh_made_class.specs.Constants.{entry_bytes}
use Rattle.mh_made_class.proofs.PoolSpelling.{entry_width, entries_width, slots_from, indexes_len}

-- an entry stands at an index
abbrev pub At : List Slot → ℕ → Entry → Type 0
At pool i e = (at : ℕ) × (slot pool i ≡ Some (at, e))

-- entries stand at the indexes from one on
abbrev pub Holds : List Slot → ℕ → List Entry → Type 0
Holds pool i [] = Unit {0}
Holds pool i (e ∷ es) = At pool i e × Holds pool (i + entry_width e) es

front_slot : (front rest : List Slot) (at : ℕ) (e : Entry) → slot (front ++ (indexes_of at e ++ rest)) (length front) ≡ Some (at, e)
front_slot front rest at e = go (is_wide e)
  where
    s : Slot
    s = Some (at, e)

    go : (b : Bool) → slot (front ++ (cond b (s ∷ None ∷ []) (s ∷ []) ++ rest)) (length front) ≡ s
    go true = get_or-append_seam front s (None ∷ rest) None
    go false = get_or-append_seam front s rest None

-- Entries stand where the pool reads them.
pub holds : (es : List Entry) (front pool : List Slot) (i at : ℕ) → i ≡ length front → pool ≡ front ++ slots_from at es → Holds pool i es
holds [] front pool i at e is = tt
holds (e ∷ es) front pool i at k is =
    let rest = slots_from (at + length (entry_bytes e)) es in
    let len : i + entry_width e ≡ length (front ++ indexes_of at e) = omega (arith, k, length-append front (indexes_of at e), indexes_len at e) in (
      (at, ap (λ x. slot x i) is ∙ ap (slot (front ++ (indexes_of at e ++ rest))) k ∙ front_slot front rest at e),
      holds es (front ++ indexes_of at e) pool (i + entry_width e) (at + length (entry_bytes e)) len (is ∙ sym (append_assoc front (indexes_of at e) rest)),
    )

-- two rows of entries
pub holds_split : (pool : List Slot) (i : ℕ) (es fs : List Entry) → Holds pool i (es ++ fs) → Holds pool i es × Holds pool (i + entries_width es) fs
holds_split pool i [] fs h = let e : i ≡ i + 0 = omega arith in (tt, subst (λ n. Holds pool n fs) e h)
holds_split pool i (e ∷ es) fs h =
    let r = holds_split pool (i + entry_width e) es fs h.1 in
    let k : i + entry_width e + entries_width es ≡ i + (entry_width e + entries_width es) = omega arith in
    ((h.0, r.0), subst (λ n. Holds pool n fs) k r.1)

-- A check passes each slot that it passes as an entry.
pub each_slot : (f : Slot → Verdict) → f None ≡ Ok tt → (es : List Entry) (at : ℕ) → AllByRecursion (λ e. (place : ℕ) → f (Some (place, e)) ≡ Ok tt) es →
    each f (slots_from at es) ≡ Ok tt
unfolding each
each_slot f none [] at all = refl
each_slot f none (e ∷ es) at all = go (is_wide e) (each_slot f none es (at + length (entry_bytes e)) all.1)
  where
    s : Slot
    s = Some (at, e)

    rest : List Slot
    rest = slots_from (at + length (entry_bytes e)) es

    go : (b : Bool) → each f rest ≡ Ok tt → each f (cond b (s ∷ None ∷ []) (s ∷ []) ++ rest) ≡ Ok tt
    go true h = rw (all.0 at, none) h
    go false h = rw (all.0 at) h
