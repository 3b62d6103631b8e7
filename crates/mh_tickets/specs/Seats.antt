-- What contracts see of a seat of a counter, and what a draw gives it.
use Rattle.std.specs.Prelude.{◌≡◌, ℕ, ◌+◌, ◌-◌, ◌<◌, List, [], ◌∷◌, ◌++◌, length, All, refl}
use Rattle.std.specs.Coded.{Coded, code_by, coded×, coded_ℕ, coded_list}
use Rattle.atomic_table.specs.Seated.{TableId, table_id_coded}
use Rattle.mh_seats.specs.Room.{limit}
use Rattle.mh_tickets.specs.Draws.{EachOnce}

-- which counter it is
abbrev pub TicketsId : Type 0
TicketsId = TableId

-- a seat: its counter, the numbers that were drawn with it, and how many more it may draw
pub record SeatView : Type 0 where
  pub tickets : TicketsId
  pub numbers : List ℕ
  pub room : ℕ

-- a seat is stored as its three parts
abbrev pub seat_coded : Coded SeatView
seat_coded = code_by (TableId × (List ℕ × ℕ)) (coded× table_id_coded (coded× (coded_list coded_ℕ) coded_ℕ)) (λ s. (s.tickets, (s.numbers, s.room)))
    (λ p. record { tickets = p.0; numbers = p.1.0; room = p.1.1 }) (λ _. refl)

-- a seat that has room, and no number yet
abbrev pub new_seat : TicketsId → ℕ → SeatView
new_seat tickets room = record { tickets = tickets; numbers = []; room = room }

-- the seat with this much less room
abbrev pub with_less_room : ℕ → SeatView → SeatView
with_less_room room s = record { tickets = s.tickets; numbers = s.numbers; room = s.room - room }

-- one seat with all that two had
abbrev pub joined_seats : SeatView → SeatView → SeatView
joined_seats s other = record { tickets = s.tickets; numbers = s.numbers ++ other.numbers; room = s.room + other.room }

-- This number was drawn. It is greater than all that the seat had. If the seat had all others' numbers and room, it is the next one.
pub record Draws (number : ℕ) (old new : SeatView) : Type 0 where
  pub tickets : new.tickets ≡ old.tickets
  pub numbers : new.numbers ≡ old.numbers ++ number ∷ []
  pub room : new.room + 1 ≡ old.room
  pub greater : All (λ n. n < number) old.numbers
  pub next : old.room + length old.numbers ≡ limit → number ≡ length old.numbers + 1

-- if all other seats were joined to it, the seat's numbers are 1 to their count, each once
abbrev pub KnowsAll : SeatView → Type 0
KnowsAll s = s.room + length s.numbers ≡ limit → EachOnce s.numbers
