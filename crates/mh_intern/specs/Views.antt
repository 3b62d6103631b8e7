-- What contracts see of a table, of a seat and of a hold.
use Rattle.std.specs.Prelude.{ℕ, ◌+◌, ◌-◌, List, [], ◌∷◌, ◌++◌}
use Rattle.std.specs.Prelude.{refl}
use Rattle.std.specs.Coded.{Coded, code_by, coded×}
use Rattle.atomic_table.specs.Seated.{TableId, table_id_coded}
use Rattle.mh_values.specs.declared.types.MethodTy.{MethodTy}
use Rattle.mh_intern.specs.declared.holding.Entry.{Entry}
use Rattle.mh_intern.specs.declared.holding.FullBucket.{FullBucket}
use Rattle.mh_intern.specs.declared.holding.Holding.{Holding}
use Rattle.mh_intern.specs.Lists.{removed}

-- which table of types it is: the two tables that it is made of
pub record TypesId : Type 0 where
  pub claims : TableId
  pub holders : TableId

-- a table of types is stored as the pair of its two tables
abbrev pub types_id_coded : Coded TypesId
types_id_coded = code_by (TableId × TableId) (coded× table_id_coded table_id_coded) (λ t. (t.claims, t.holders))
    (λ p. record { claims = p.0; holders = p.1 }) (λ _. refl)

-- a hold: the table of holders that it is of, and its slot and type
pub record HoldView : Type 0 where
  pub table : TableId
  pub entry : Entry

-- a seat: its table, its holds, how many more it may take, the types that it asked for, and the full buckets that it found
pub record SeatView : Type 0 where
  pub table : TypesId
  pub holds : List Entry
  pub room : ℕ
  pub asked : List MethodTy
  pub full : List FullBucket

-- a seat of the two tables, by its view of the table of holders
abbrev pub seat_view : TableId → TableId → Holding → SeatView
seat_view claims holders v = record { table = record { claims = claims; holders = holders }; holds = v.holds; room = v.room; asked = v.asked; full = v.full }

-- a seat that has room, and nothing else yet
abbrev pub new_seat : TypesId → ℕ → SeatView
new_seat table room = record { table = table; holds = []; room = room; asked = []; full = [] }

-- the seat with one hold more, which takes one room
abbrev pub with_hold : Entry → SeatView → SeatView
with_hold e s = record s { holds = e ∷ s.holds; room = s.room - 1 }

-- the seat with one hold less, which gives its room back
abbrev pub without_hold : Entry → SeatView → SeatView
without_hold e s = record s { holds = removed e s.holds; room = s.room + 1 }

-- the seat with this much less room
abbrev pub with_less_room : ℕ → SeatView → SeatView
with_less_room room s = record s { room = s.room - room }

-- the seat, after it has asked for a type
abbrev pub with_asked : MethodTy → SeatView → SeatView
with_asked t s = record s { asked = t ∷ s.asked }

-- the seat, after it has found a full bucket
abbrev pub with_full : FullBucket → SeatView → SeatView
with_full f s = record s { full = f ∷ s.full }

-- one seat with all that two had
abbrev pub joined_seats : SeatView → SeatView → SeatView
joined_seats s other =
    record { table = s.table; holds = other.holds ++ s.holds; room = other.room + s.room; asked = other.asked ++ s.asked; full = other.full ++ s.full }
