-- What a seat notes of its holds, beside what the words count.
use Rattle.std.specs.Prelude.{◌≡◌, ℕ, ◌+◌, ◌-◌, ◌<◌, ◌≤◌, Bool, cond, List, [], length, set, sum_by, count_by}
use Rattle.std.specs.Prelude.{◌⊎◌}
use mathlib.Core.Option.{some}
use lib.ListN.{get_elem?}
use Rattle.mh_values.specs.declared.types.MethodTy.{MethodTy}
use Rattle.mh_intern.specs.declared.holding.Entry.{Entry}
use Rattle.mh_intern.specs.declared.holding.Holding.{Holding}
use Rattle.mh_intern.specs.declared.notes.Note.{Note}
use Rattle.mh_intern.specs.Buckets.{slots}
use Rattle.mh_intern.specs.Held.{has}
use Rattle.mh_intern.specs.Lists.{entry, is_entry}

-- how many holds the seat has beside those that are counted
abbrev pub owed : List Note → ℕ
owed notes = sum_by (λ n. n.owed) notes

-- how many of them are entries with a property
abbrev pub owed_by : (Entry → Bool) → List Note → ℕ
owed_by p notes = sum_by (λ n. cond (p n.entry) n.owed 0) notes

-- how many counted holds of an entry are noted
abbrev pub noted_of : ℕ → MethodTy → List Note → ℕ
noted_of k t notes = sum_by (λ n. cond (is_entry n.entry (entry k t)) n.counted 0) notes

-- a hold of what is noted as owed is counted
abbrev pub IsCovered : List Entry → Note → Type 0
IsCovered holds n = 0 < n.owed → 0 < has n.entry.slot n.entry.ty holds

-- the notes of a caller's view
pub record IsNoted (v : Holding) (notes : List Note) : Type 0 where
  -- what the caller keeps is what is counted, and what is owed
  pub counts : (p : Entry → Bool) → count_by p v.kept ≡ count_by p v.holds + owed_by p notes
  pub many : length v.kept ≡ length v.holds + owed notes
  -- at least as many holds are counted as are noted
  pub known : (k : ℕ) (t : MethodTy) → noted_of k t notes ≤ has k t v.holds
  pub covered : (i : ℕ) (n : Note) → get_elem? notes i ≡ some n → IsCovered v.holds n
  -- each hold that is owed has its room
  pub room : owed notes ≤ v.room
  pub small : (i : ℕ) (n : Note) → get_elem? notes i ≡ some n → n.entry.slot < slots

-- the view of a caller as contracts see it: what it keeps, and the room beside that
abbrev pub as_kept : Holding → Holding
as_kept v = record v { holds = v.kept; room = v.room + length v.holds - length v.kept }

-- the note at a place is changed in this way
abbrev pub Changes : ℕ → (Note → Note) → List Note → List Note → Type 0
Changes at change old new = (n : Note) → get_elem? old at ≡ some n → new ≡ set old at (change n)

-- a hold is owed by the note at a place
abbrev pub Owes : ℕ → List Note → Type 0
Owes at notes = (n : Note) → get_elem? notes at ≡ some n → 1 ≤ n.owed

-- one hold more is owed
abbrev pub more_owed : Note → Note
more_owed n = record n { owed = n.owed + 1 }

-- one hold less is owed
abbrev pub less_owed : Note → Note
less_owed n = record n { owed = n.owed - 1 }

-- the notes after a change owe what they owed, and cover and place what they did
pub record Owe (old new : List Note) : Type 0 where
  pub each : (p : Entry → Bool) → owed_by p new ≡ owed_by p old
  pub total : owed new ≡ owed old
  pub covered : (holds : List Entry) → ((i : ℕ) (n : Note) → get_elem? old i ≡ some n → IsCovered holds n) →
      (i : ℕ) (n : Note) → get_elem? new i ≡ some n → IsCovered holds n

-- one hold more of an entry is noted at most
pub record Records (e : Entry) (old new : List Note) : Type 0 where
  pub owe : Owe old new
  pub noted : (k : ℕ) (t : MethodTy) → noted_of k t new ≤ noted_of k t old + cond (is_entry e (entry k t)) 1 0
  pub small : e.slot < slots → ((i : ℕ) (n : Note) → get_elem? old i ≡ some n → n.entry.slot < slots) →
      (i : ℕ) (n : Note) → get_elem? new i ≡ some n → n.entry.slot < slots

-- where holds of a slot are noted, one less is noted of one of its types
pub record Forgets (k : ℕ) (old new : List Note) : Type 0 where
  pub owe : Owe old new
  pub fewer : (j : ℕ) (t : MethodTy) → noted_of j t new ≤ noted_of j t old
  pub one_less : (t : MethodTy) → ((i : ℕ) (n : Note) → get_elem? old i ≡ some n → n.entry.slot ≡ k → 0 < n.counted → n.entry.ty ≡ t)
      → noted_of k t old ≡ 0 ⊎ (noted_of k t new + 1 ≤ noted_of k t old)
  pub small : ((i : ℕ) (n : Note) → get_elem? old i ≡ some n → n.entry.slot < slots) → (i : ℕ) (n : Note) → get_elem? new i ≡ some n → n.entry.slot < slots

-- the caller keeps the same, and all of it is counted
pub record Settles (v w : Holding) : Type 0 where
  pub noted : IsNoted w []
  pub room : (as_kept w).room ≡ (as_kept v).room
  pub others : w ≡ record v { holds = w.holds; room = w.room }
