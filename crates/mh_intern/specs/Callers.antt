-- What contracts see of a caller of the table of holders, and how a call changes it.
use Rattle.std.specs.Prelude.{◌≡◌, ℕ, ◌<◌, ◌≤◌, ◌∷◌, [], All}
use Rattle.atomic_table.specs.Seated.{TableId}
use Rattle.mh_values.specs.declared.types.MethodTy.{MethodTy}
use Rattle.mh_intern.specs.declared.holding.Entry.{Entry}
use Rattle.mh_intern.specs.declared.holding.Holding.{Holding}
use Rattle.mh_intern.specs.Buckets.{slots}
use Rattle.mh_intern.specs.Held.{asks, has, uses, weight, IsFull}
use Rattle.mh_intern.specs.Interning.{granted}
use Rattle.mh_intern.specs.Lists.{Agrees}
use Rattle.mh_intern.specs.Notes.{IsNoted, as_kept}
use Rattle.mh_intern.specs.Steps.{IsOfHolders}
use Rattle.mh_seats.specs.Room.{limit}

-- a caller: its table, and what it keeps with the room beside it
pub record CallerView : Type 0 where
  pub table : TableId
  pub view : Holding

-- it is of this table of holders
abbrev pub IsCallerOf : TableId → CallerView → Type 0
IsCallerOf table c = IsOfHolders c.table table

-- it stays at its table, and its view changes in this way
abbrev pub MovesView : (Holding → Holding) → CallerView → CallerView → Type 0
MovesView change old new = (new.table ≡ old.table) × (new.view ≡ change old.view)

-- it has asked for a type that it holds, and has one hold more
pub record Again (t : MethodTy) (e : Entry) (old new : CallerView) : Type 0 where
  pub ty : e.ty ≡ t
  pub slot : e.slot < slots
  pub held : 0 < has e.slot e.ty old.view.holds
  pub moves : MovesView (granted e) old new

-- what a look at the table shows of a view
pub record LooksAt (v : Holding) : Type 0 where
  pub agrees : Agrees v.holds
  pub full : All IsFull v.full
  pub most : weight v ≤ limit
  pub asked : weight v ≡ limit → (t : MethodTy) → 0 < uses t v → 0 < asks t v

-- a seat with the view of a caller, all of whose holds are counted
pub record IsSettledBy (view v : Holding) : Type 0 where
  pub noted : IsNoted v []
  pub is : as_kept v ≡ view
