-- Tables of forms, and the seats with which the numbers of forms are drawn.
use Rattle.std.specs.Prelude.{◌≡◌, ℕ, zero, suc, ◌+◌, ◌-◌, ◌^◌, ◌<◌, List, [], ◌∷◌, ◌++◌, length}
use Rattle.std.specs.List.{All}
use Rattle.mh_setonce.specs.Views.{ChainView}
use Rattle.mh_tickets.specs.Draws.{EachOnce}
use Rattle.mh_tickets.specs.Seats.{TicketsId}

-- a table of forms: its chains, and the counter of its forms' numbers
pub record TableView : Type 0 where
  pub chains : List ChainView
  pub tickets : TicketsId

-- a seat: the table whose numbers it draws, the numbers that it has drawn, and how many it may still draw
pub record SeatView : Type 0 where
  pub table : TableView
  pub numbers : List ℕ
  pub room : ℕ

-- the numbers from 1 to this one
abbrev pub numbers_to : ℕ → List ℕ
numbers_to zero = []
numbers_to (suc n) = numbers_to n ++ suc n ∷ []

-- the only seat of a table, after it has drawn the numbers up to this one
abbrev pub seat_at : TableView → ℕ → SeatView
seat_at table last = record { table = table; numbers = numbers_to last; room = 2 ^ 62 - last }

-- the seat has all the numbers that were ever drawn: their count and its room add up to 2^62
abbrev pub HasAll : SeatView → Type 0
HasAll s = length s.numbers + s.room ≡ 2 ^ 62

-- if the seat has all numbers, they are 1 to their count, each once
abbrev pub KnowsAll : SeatView → Type 0
KnowsAll s = HasAll s → EachOnce s.numbers

-- This number was drawn. It is greater than all that the seat had. If the seat had all others, it is the next one.
pub record Draws (number : ℕ) (old new : SeatView) : Type 0 where
  pub table : new.table ≡ old.table
  pub numbers : new.numbers ≡ old.numbers ++ number ∷ []
  pub room : new.room + 1 ≡ old.room
  pub greater : All (λ n. n < number) old.numbers
  pub next : HasAll old → number ≡ length old.numbers + 1
  pub all : KnowsAll new

-- a seat of the table that has drawn nothing
abbrev pub new_seat : TableView → ℕ → SeatView
new_seat table room = record { table = table; numbers = []; room = room }

-- the seat with less room
abbrev pub with_less_room : ℕ → SeatView → SeatView
with_less_room room s = record { table = s.table; numbers = s.numbers; room = s.room - room }

-- one seat with all that two had
abbrev pub joined_seats : SeatView → SeatView → SeatView
joined_seats s other = record { table = s.table; numbers = s.numbers ++ other.numbers; room = s.room + other.room }
