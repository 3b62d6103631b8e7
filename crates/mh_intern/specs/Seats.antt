-- What a seat of a table of types has and knows.
use Rattle.std.specs.Prelude.{◌≡◌, ℕ, ◌+◌, ◌<◌, ◌≤◌, ◌==◌, cond, List, [], ◌∷◌, length, sum_by, All, Result, Ok, Err}
use Rattle.atomic_table.specs.Seated.{TableId}
use Rattle.mh_values.specs.declared.types.MethodTy.{MethodTy}
use Rattle.mh_intern.specs.declared.holding.Entry.{Entry}
use Rattle.mh_intern.specs.declared.holding.FullBucket.{FullBucket}
use Rattle.mh_intern.specs.declared.error.InternError.{InternError}
use Rattle.mh_intern.specs.declared.error.InternError.TheVariants.{NoMemory, TypesFull}
use Rattle.mh_intern.specs.Buckets.{bucket_of, slots}
use Rattle.mh_intern.specs.Held.{times_type, on_slot, on_type, has, IsFull}
use Rattle.mh_seats.specs.Room.{limit}
use Rattle.mh_intern.specs.Lists.{Agrees}
use Rattle.mh_intern.specs.Interning.{IsFullFor}
use Rattle.mh_intern.specs.Views.{SeatView, HoldView, with_hold, with_asked, with_full}

-- the hold is of the seat's table, and one of the seat's holds
pub record Holds (seat : SeatView) (hold : HoldView) : Type 0 where
  pub table : hold.table ≡ seat.table.holders
  pub counted : 0 < has hold.entry.slot hold.entry.ty seat.holds

-- if all other seats were joined to it, the seat asked for each type of the full buckets that it found
abbrev pub AskedForFull : List Entry → ℕ → List MethodTy → List FullBucket → Type 0
AskedForFull holds room asked full = room + length holds ≡ limit → (t : MethodTy) → 0 < sum_by (λ f. on_type t f.entries) full → 0 < times_type t asked

-- what holds of every seat
pub record IsSeated (holds : List Entry) (room : ℕ) (asked : List MethodTy) (full : List FullBucket) : Type 0 where
  -- two of its holds have one slot if and only if they have one type
  pub agrees : Agrees holds
  -- each hold is of a slot of the table
  pub small : (k : ℕ) → slots ≤ k → on_slot k holds ≡ 0
  -- it has room or holds, and no more than all seats have together
  pub some_left : 1 ≤ room + length holds
  pub most : room + length holds ≤ limit
  -- its full buckets are full
  pub filled : All IsFull full
  pub known : AskedForFull holds room asked full

-- What a seat knows once it has looked at the table. Its holds agree, even those that came by a join. Its full buckets are full. If all other seats were joined
-- to it, it asked for each of their types.
abbrev pub Knows : SeatView → Type 0
Knows s = Agrees s.holds × All IsFull s.full × AskedForFull s.holds s.room s.asked s.full

-- How a call of `intern` changes its seat: it adds a hold of the type, or nothing changed. Or the type was asked for, and its bucket is full of others.
abbrev pub Interns : MethodTy → SeatView → Result HoldView InternError → SeatView → Type 0
Interns t before (Ok h) after = (h.entry.ty ≡ t) × (after ≡ with_asked t (with_hold h.entry before))
Interns t before (Err NoMemory) after = after ≡ before
Interns t before (Err (TypesFull bucket)) after =
    (bucket ≡ bucket_of t) × ((f : FullBucket) × IsFullFor t f × (after ≡ with_asked t (with_full f before)))

-- each of these holds of the type has the slot of this one, because an entry is not replaced while it is held
abbrev pub KeepsSlot : MethodTy → List Entry → HoldView → Type 0
KeepsSlot t holds hold = (k : ℕ) → 0 < has k t holds → hold.entry.slot ≡ k

-- an answer, as a hold of this table
abbrev pub held_at : TableId → Result Entry InternError → Result HoldView InternError
held_at table (Ok e) = Ok record { table = table; entry = e }
held_at table (Err error) = Err error

-- how many slots are held
abbrev pub distinct_slots : List Entry → ℕ
distinct_slots [] = 0
distinct_slots (e ∷ es) = cond (on_slot e.slot es == 0) 1 0 + distinct_slots es

-- how many types are held
abbrev pub distinct_types : List Entry → ℕ
distinct_types [] = 0
distinct_types (e ∷ es) = cond (on_type e.ty es == 0) 1 0 + distinct_types es
