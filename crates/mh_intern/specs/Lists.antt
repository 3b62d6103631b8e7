-- Lists of entries: what is taken out of one, looked for in one, and put into one.
use Rattle.std.specs.Prelude.{◌≡◌, ℕ, ◌+◌, ◌<◌, ◌≤◌, ◌==◌, ◌&&◌, Bool, cond, List, [], ◌∷◌, Option, None, Some}
use Rattle.mh_values.specs.declared.types.MethodTy.{MethodTy}
use Rattle.mh_values.specs.Same.{is_same_method_type}
use Rattle.mh_intern.specs.declared.holding.Entry.{Entry}
use Rattle.mh_intern.specs.Buckets.{bucket_of, bucket_at}
use Rattle.mh_intern.specs.Held.{on_slot, on_type, has}

-- a type in a slot
abbrev pub entry : ℕ → MethodTy → Entry
entry k t = record { slot = k; ty = t }

-- whether two entries are one
abbrev pub is_entry : Entry → Entry → Bool
is_entry x e = (x.slot == e.slot) && is_same_method_type x.ty e.ty

-- the list without one occurrence of an entry
abbrev pub removed : Entry → List Entry → List Entry
removed e [] = []
removed e (x ∷ xs) = cond (is_entry x e) xs (x ∷ removed e xs)

-- the list has this entry now, in place of the one of its slot, if there was one
pub record Places (e : Entry) (old new : List Entry) : Type 0 where
  pub slots : (k : ℕ) → ¬ (k ≡ e.slot) → on_slot k new ≡ on_slot k old
  pub once : on_slot e.slot old ≤ 1 → on_slot e.slot new ≤ 1
  pub types : (t : MethodTy) → on_type t new ≤ on_type t old + cond (is_same_method_type e.ty t) 1 0
  pub others : (k : ℕ) (t : MethodTy) → ¬ (k ≡ e.slot) → has k t new ≡ has k t old
  pub mine : 0 < has e.slot e.ty new

-- two holds of equal types have one slot, and two of one slot have one type
abbrev pub Agrees : List Entry → Type 0
Agrees holds =
    (a b : Entry) → 0 < has a.slot a.ty holds → 0 < has b.slot b.ty holds → (a.slot ≡ b.slot → a.ty ≡ b.ty) × (a.ty ≡ b.ty → a.slot ≡ b.slot)

-- the list of one bucket: its slots and types are of the bucket, each once
pub record Listed (b : ℕ) (es : List Entry) : Type 0 where
  pub slots : (k : ℕ) → ¬ (bucket_at k ≡ b) → on_slot k es ≡ 0
  pub types : (t : MethodTy) → ¬ (bucket_of t ≡ b) → on_type t es ≡ 0
  pub one_slot : (k : ℕ) → on_slot k es ≤ 1
  pub one_type : (t : MethodTy) → on_type t es ≤ 1

-- what is looked for in a list: the entry of a type, or nothing if no entry has the type
abbrev pub FindsEntry : MethodTy → List Entry → Option Entry → Type 0
FindsEntry t es None = on_type t es ≡ 0
FindsEntry t es (Some e) = (e.ty ≡ t) × (0 < has e.slot e.ty es)
